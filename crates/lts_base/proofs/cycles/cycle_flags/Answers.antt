use Rattle.std.proofs.Common.{◌≡◌, arith, inl, inr}
use Rattle.std.proofs.lemmas.Bool.{cases_lt}
use Rattle.lts_base.proofs.DescentEnds.{IsKept-seen}
use Rattle.lts_base.proofs.DescentLaws.{IsDescent-none, AreCycleFlags-all}
use Rattle.lts_base.proofs.cycles.cycle_flags.Goals as goal

pub roots-init : goal.roots-init
roots-init c =
    let (places, path, blocks, pending, flags) = c.in_ok-descent.ensures in
    record {
      blocks = blocks;
      seen = λ p below. absurd (omega (arith, below));
      descent = rw (places, path, blocks, pending, flags) (IsDescent-none _ _ c.states-states.ensures.states);
    }

pub roots-preserved : goal.roots-preserved
roots-preserved c = record {
  blocks = c.in_ok-search_from.ensures.blocks;
  seen = λ p below. elim (cases_lt p c.roots.root) [
    | inl before ↦ IsKept-seen _ _ _ c.in_ok-search_from.ensures.kept (c.roots.invariant.seen p before)
    | inr here ↦ let same : p ≡ c.roots.root = omega (arith, below, here) in rw same c.in_ok-search_from.ensures.seen
  ];
  descent = c.in_ok-search_from.ensures.descent;
}

pub returns : goal.returns
returns c = AreCycleFlags-all _ _ _ _ _ _ _ c.roots.invariant.blocks (λ p below. c.roots.invariant.seen p (omega (arith, below, c.roots-test.false, c.states-states.ensures.states))) c.roots.invariant.descent
