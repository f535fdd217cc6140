use Rattle.std.proofs.Common.{◌<◌, arith, sym, ◌∙◌}
use Rattle.std.proofs.lemmas.Bool.{false≢true}
use Rattle.sim_core.proofs.WayLaws.{search_start, search_goes_on, search_least, NoneTakes-grows}
use Rattle.sim_core.proofs.detour.first_taker.Goals as goal

pub finds-init : goal.finds-init
finds-init c = record { states = c.requires.states; searched = rw c.requires.found (search_start c.args.lts.now c.args.from); none = λ k below takes. omega (arith, below) }

pub at-state-requires : goal.at-state-requires
at-state-requires c = search_goes_on c.args.lts.now c.args.input c.args.from c.finds.finds.found c.finds.at c.finds.invariant.searched c.finds.invariant.none c.requires.able

pub returns-then-test_takes-clause-least : goal.returns-then-test_takes-clause-least
returns-then-test_takes-clause-least c =
    rw c.at-state.ensures.value (search_least c.args.lts.now c.args.input c.args.from c.finds.finds.found c.finds.at c.finds.invariant.searched c.finds.invariant.none
    (search_goes_on c.args.lts.now c.args.input c.args.from c.finds.finds.found c.finds.at c.finds.invariant.searched c.finds.invariant.none c.requires.able)
    (rw c.at-state.ensures.value at (c.test_takes.ensures.0 c.if-test_takes.true)))

pub add_targets-requires-clause-at : goal.add_targets-requires-clause-at
add_targets-requires-clause-at c = search_goes_on c.args.lts.now c.args.input c.args.from c.finds.finds.found c.finds.at c.finds.invariant.searched c.finds.invariant.none c.requires.able

pub overflow_add-at : goal.overflow_add-at
overflow_add-at c =
    let here = search_goes_on c.args.lts.now c.args.input c.args.from c.finds.finds.found c.finds.at c.finds.invariant.searched c.finds.invariant.none c.requires.able in
    omega (arith, here, c.at-state.ensures.within, c.at-state.ensures.small)

pub finds-smaller : goal.finds-smaller
finds-smaller c =
    let here = search_goes_on c.args.lts.now c.args.input c.args.from c.finds.finds.found c.finds.at c.finds.invariant.searched c.finds.invariant.none c.requires.able in
    let few : c.finds.at < c.args.lts.now.states = omega (arith, here, c.at-state.ensures.within, c.finds.invariant.states) in
    omega (arith, few)

pub finds-preserved : goal.finds-preserved
finds-preserved c =
    let here = search_goes_on c.args.lts.now c.args.input c.args.from c.finds.finds.found c.finds.at c.finds.invariant.searched c.finds.invariant.none c.requires.able in
    let (more, grows) = c.add_targets.ensures.grows in
    record {
      states = c.add_targets.ensures.states ∙ c.finds.invariant.states;
      searched = c.add_targets.ensures.searched c.args.from c.finds.invariant.searched;
      none = NoneTakes-grows c.args.lts.now c.args.input c.finds.finds.found c.add_targets.new.finds.found more c.finds.at grows here c.finds.invariant.none
          (λ takes. false≢true (sym c.if-test_takes.false ∙ c.test_takes.ensures.1 (rw c.at-state.ensures.value takes)));
    }
