use Rattle.std.proofs.Common.{arith, sym, ◌∙◌, ◌≡◌, length, take, ◌+◌}
use Rattle.lts_base.specs.declared.action.Move.{Move}
use Rattle.sim_core.specs.Drawn.{is_open, open_of}
use Rattle.sim_core.proofs.DrawLaws.{nth_filter}
use Rattle.sim_core.proofs.draw.nth_open.Goals as goal

pub returns-then-left-eq0-clause-some : goal.returns-then-left-eq0-clause-some
returns-then-left-eq0-clause-some c =
    let passed : length (open_of c.args.among (take c.loop-m.m-index c.args.moves.now)) + c.loop-m.left ≡ c.args.k = c.loop-m.invariant in
    let count : length (open_of c.args.among (take c.loop-m.m-index c.args.moves.now)) ≡ c.args.k = omega (arith, passed, c.if-left-eq0.true) in
    nth_filter (λ (m : Move). is_open c.args.among m.act) c.args.moves.now c.loop-m.m-index c.args.k _ c.loop-m-test.true (sym c.has.ensures ∙ c.if-has.true) count
