use Rattle.std.proofs.Common.{◌≡◌, ℕ, List, take, map, true}
use Rattle.std.specs.Borrow.{Bor}
use Rattle.lts_base.specs.Numbered.{is_side, marked_side}
use Rattle.lts_base.proofs.sorting.marked_flags.Given as goal

abbrev pub invariant-loop-text : goal.invariant-loop-text
invariant-loop-text l = l.flags.items ≡ map (λ (t : Bor (List ℕ)). is_side true (marked_side l.rule t.now)) (take l.text-index l.texts)
