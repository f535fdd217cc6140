use Rattle.std.proofs.Common.{sym, ◌∙◌, arith}
use Rattle.std.proofs.lemmas.Bool.{ltb-true}
use Rattle.state_sets.proofs.ActLaws.{before_all}
use Rattle.state_sets.proofs.moves.start_at.Goals as goal

pub returns-then-is_before-clause-before : goal.returns-then-is_before-clause-before
returns-then-is_before-clause-before c =
    before_all _ _ _ _ c.requires (omega (arith, c.if-place-eq0.false)) (omega (arith, c.if-place-moves.false)) (ltb-true _ _ (sym c.is_before.ensures ∙ c.if-is_before.true))
