use Rattle.std.proofs.Common.{◌∙◌, ◌++◌, ◌∷◌, [], sym, ap, subst, MatchOption, ℕ, List}
use Rattle.text_scan.specs.Decimal.{IsDecimal}
use Rattle.text_scan.proofs.AffixLaws.{has_back}
use Rattle.aut_text.proofs.FormLaws.{closing_is}
use Rattle.aut_text.proofs.form.closing.Goals as goal

pub returns : goal.returns
returns c =
    let whole = has_back (41 ∷ []) _ c.in-Some.ensures.cases.0 in
    let is = sym c.trim.ensures ∙ whole ∙ ap {A = List ℕ} {B = List ℕ} (λ t. t ++ 41 ∷ []) (sym c.in-Some.ensures.cases.1) in
    closing_is _ c.in-Some.digits.now _ is (subst (λ (t : List ℕ). MatchOption c.decimal.result ((n : ℕ) → IsDecimal t n → ⊥) (IsDecimal t)) c.trim-2.ensures c.decimal.ensures)
