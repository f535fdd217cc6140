use Rattle.std.proofs.Common.{subst, inl, inr, List, ℕ}
use Rattle.aut_text.specs.declared.header.Header.{Header}
use Rattle.aut_text.specs.Form.{IsHeader}
use Rattle.aut_text.proofs.ReadLaws.{clean_line}
use Rattle.aut_text.proofs.header.read_header.Goals as goal

pub returns-in_default : goal.returns-in_default
returns-in_default c =
    let clean = clean_line _ _ _ _ _ c.if-line-gt-MOST_LINE_BYTES.false c.without_cr-text.ensures c.if-is_err.ensures.value c.from_utf8.ensures.cases in
    inr (inr (inl (clean, subst (λ (t : List ℕ). (h : Header) → IsHeader t h → ⊥) c.without_cr-text.ensures c.in_default.ensures)))
