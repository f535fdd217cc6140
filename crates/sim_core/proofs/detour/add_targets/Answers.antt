use Rattle.std.proofs.Common.{[], sym, ◌∙◌}
use Rattle.std.proofs.lemmas.List.{append-nil}
use Rattle.sim_core.proofs.GoLaws.{move_to}
use Rattle.sim_core.proofs.WayLaws.{searching_label, searching_tau, searching_done, find_kept, found_grows}
use Rattle.sim_core.proofs.detour.add_targets.Goals.{in-Tau, in-Label}
use Rattle.sim_core.proofs.detour.add_targets.Goals as goal

pub add-requires : goal.add-requires
add-requires c = rw c.moves.invariant.states (move_to c.args.lts.now _ c.moves_of-moves.ensures.system ((c.moves_of-moves.ensures.these.each c.moves.m-index _ c.moves-test.true).1))

pub moves-init : goal.moves-init
moves-init c = record { states = c.requires.states; grows = ([], sym (append-nil c.args.finds.now.found)); searched = λ p h. h }

pub moves-preserved : goal.moves-preserved
moves-preserved c =
    let (more, grows) = c.moves.invariant.grows in
    let (here, is) = find_kept c.args.finds.now.found c.moves.finds.found more c.args.at c.at-state.result grows c.requires.at c.at-state.ensures.value in
    elim c.match-m.branch [
      | in-Tau w ↦ rw w.finds-is (record {
        states = w.add.ensures.states ∙ c.moves.invariant.states;
        grows = found_grows c.args.finds.now.found c.moves.finds.found _ more _ grows w.add.ensures.found;
        searched = λ p h.
            searching_tau c.args.lts.now p c.moves.finds.found _ c.args.at c.moves_of-moves.result.now c.moves.m-index _ c.moves_of-moves.ensures.system (rw is at c.moves_of-moves.ensures.these)
            (rw is at c.moves_of-moves.ensures.value) here c.moves-test.true w.in-Tau.is w.add.ensures.found (c.moves.invariant.searched p h);
      })
      | in-Label w ↦ rw w.finds-is (record {
        states = c.moves.invariant.states;
        grows = c.moves.invariant.grows;
        searched = λ p h. searching_label c.args.lts.now p c.moves.finds.found c.args.at c.moves_of-moves.result.now c.moves.m-index _ _ here c.moves-test.true w.in-Label.is (c.moves.invariant.searched p h);
      })
    ]

pub returns-clause-searched : goal.returns-clause-searched
returns-clause-searched c = λ p h.
    let (more, grows) = c.moves.invariant.grows in
    let (here, is) = find_kept c.args.finds.now.found c.moves.finds.found more c.args.at c.at-state.result grows c.requires.at c.at-state.ensures.value in
    searching_done c.args.lts.now p c.moves.finds.found c.args.at c.moves_of-moves.result.now c.moves.m-index here (rw is at c.moves_of-moves.ensures.these) c.moves-test.false (c.moves.invariant.searched p h)
