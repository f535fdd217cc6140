use Rattle.std.proofs.Common.{◌≡◌}
use Rattle.lts_base.specs.Related.{rows_of}
use Rattle.cert_check.specs.Checks.{IsValidTo}
use Rattle.cert_check.proofs.relation.check_pairs.Given as goal

abbrev pub invariant-pairs : goal.invariant-pairs
invariant-pairs l = record {
  imp_marks : l.imp_marks.states ≡ l.imp.states;
  spec_marks : l.spec_marks.states ≡ l.spec.states;
  number : l.number ≡ l.pair-index;
  valid : IsValidTo l.mode l.imp l.spec (rows_of l.relation) l.pair-index;
}
