use Rattle.sim_core.specs.declared.among.Among.TheVariants.{Only}
use Rattle.sim_core.proofs.GoLaws.{drawn_move, move_to}
use Rattle.sim_core.proofs.LeadLaws.{some_only, only_draws}
use Rattle.sim_core.proofs.taking.detour.Goals as goal

pub unreachable-requires : goal.unreachable-requires
unreachable-requires g c =
    let (rs, least) = c.least_taker-taker.ensures.least in
    some_only c.args.lts.now c.least_taker-taker.result c.args.input c.moves_of.result.now c.moves_of.ensures.value c.in_default.ensures.none.0 least.way.1

pub returns-clause-inside : goal.returns-clause-inside
returns-clause-inside g c =
    move_to c.args.lts.now c.in-Some.m c.moves_of.ensures.system
    (drawn_move g.R.NextWord.step c.args.lts.now c.least_taker-taker.result (Only c.args.input) _ _ c.in-Some.m _ c.moves_of.ensures.these c.in-Some.ensures.drawn).1

pub returns-clause-taken : goal.returns-clause-taken
returns-clause-taken g c =
    let (rs, least) = c.least_taker-taker.ensures.least in (
      c.requires.cycle,
      rs,
      c.least_taker-taker.result,
      least,
      only_draws g.R.NextWord.step c.args.lts.now c.least_taker-taker.result c.args.input c.moves_of.result.now c.args.rng.now c.in-Some.m _ c.moves_of.ensures.value c.in-Some.ensures.drawn,
    )
