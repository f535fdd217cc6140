use Rattle.std.proofs.Common.{rules, ◌≤◌, ◌+◌, arith, refl, ap, ℕ}
use Rattle.std.proofs.lemmas.List.{get_or_read}
use Rattle.lts_shape.proofs.PeelLaws.{AreCounts-tau, AreCounts-label, AreCounts-within, read_move, in_range}
use Rattle.lts_shape.proofs.peel.counts_of.Goals.{in-Tau, in-Label}
use Rattle.lts_shape.proofs.peel.counts_of.Goals as goal

pub overflow_add-index_mut : goal.overflow_add-index_mut
overflow_add-index_mut c =
    let ends = read_move c.args.lts.now _ _ _ c.moves-moves.ensures.system c.moves-moves.ensures.moves c.moves-test.true in
    let low = in_range _ _ _ ends.to c.moves.invariant.long in
    let value = get_or_read _ _ _ low c.index_mut.ensures.value 0 in
    let most = AreCounts-within _ _ _ _ _ c.moves.auto.m-index-end ends.to c.moves.invariant in
    let bound : c.index_mut.result.now ≤ c.moves.m-index = omega (arith, value, most) in
    search rules

pub moves-preserved : goal.moves-preserved
moves-preserved c =
    elim c.match-m.branch [
      | in-Tau w ↦
          let ends = read_move c.args.lts.now _ _ _ c.moves-moves.ensures.system c.moves-moves.ensures.moves c.moves-test.true in
          let low = in_range _ _ _ ends.to c.moves.invariant.long in
          rw w.counts-is (AreCounts-tau _ _ _ _ _ _ _ c.moves-test.true w.in-Tau.is refl ends.to
          (ap {A = ℕ} {B = ℕ} (λ n. n + 1) (get_or_read _ _ _ low w.index_mut.ensures.value 0)) c.moves.invariant)
      | in-Label w ↦ rw w.counts-is (AreCounts-label _ _ _ _ _ _ c.moves-test.true w.in-Label.is c.moves.invariant)
    ]
