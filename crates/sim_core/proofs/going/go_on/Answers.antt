use Rattle.std.proofs.Common.{refl, ◌++◌, ◌∷◌, [], ◌≤◌, arith}
use Rattle.sim_core.specs.Simulated.{Place}
use Rattle.sim_core.proofs.GoLaws.{left_all, left_some, left_push, off_cycles, goes_push, move_tau}
use Rattle.sim_core.proofs.going.go_on.Goals as goal

pub loop-m-init : goal.loop-m-init
loop-m-init g c = record { inside = c.requires.from; left = left_all c.args.lts.now _ c.args.from c.states-left.ensures.states; goes = ([], refl) }

pub returns-in_default-clause-gone : goal.returns-in_default-clause-gone
returns-in_default-clause-gone g c =
    let (ms, goes) = c.loop-m.invariant.goes in
    let none = c.in_default.ensures.none in
    (ms, rw none.1 goes, none.0)

pub returns-in-Label-clause-gone : goal.returns-in-Label-clause-gone
returns-in-Label-clause-gone g c =
    let (ms, goes) = c.loop-m.invariant.goes in
    let u : Place g.row.R.Denot = record { at = c.loop-m.state; rng = c.loop-m.rng } in
    (ms, u, goes, c.in-Some.ensures.away, (c.in-Some.m, c.in-Some.ensures.drawn, c.in-Label.is, refl))

pub overflow_sub-left : goal.overflow_sub-left
overflow_sub-left g c = left_some c.args.lts.now _ _ c.loop-m.invariant.inside (off_cycles c.args.lts.now _ c.requires.sound c.in-Some.ensures.away) c.loop-m.invariant.left

pub loop-m-smaller : goal.loop-m-smaller
loop-m-smaller g c =
    let some : 1 ≤ c.loop-m.left = left_some c.args.lts.now _ _ c.loop-m.invariant.inside (off_cycles c.args.lts.now _ c.requires.sound c.in-Some.ensures.away) c.loop-m.invariant.left in
    omega (arith, some)

pub loop-m-preserved : goal.loop-m-preserved
loop-m-preserved g c =
    let made = c.in-Some.ensures.made in
    let (ms, goes) = c.loop-m.invariant.goes in
    let u : Place g.row.R.Denot = record { at = c.loop-m.state; rng = c.loop-m.rng } in
    record {
      inside = made.2;
      left = left_push c.args.lts.now _ _ _ c.loop-m.invariant.inside (off_cycles c.args.lts.now _ c.requires.sound c.in-Some.ensures.away)
          (move_tau c.args.lts.now c.loop-m.state c.in-Some.m made.0 made.1 c.in-Tau.is) c.loop-m.invariant.left;
      goes = (ms ++ c.in-Some.m ∷ [], goes_push g.R.NextWord.step c.args.lts.now c.args.among _ u ms c.in-Some.m c.next_move.new.rng goes c.in-Some.ensures.away c.in-Some.ensures.drawn c.in-Tau.is);
    }
