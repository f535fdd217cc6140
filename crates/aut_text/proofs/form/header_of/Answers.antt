use Rattle.std.proofs.Common.{sym, subst}
use Rattle.text_scan.specs.Decimal.{IsDecimal}
use Rattle.text_scan.proofs.CutLaws.{no_cut}
use Rattle.aut_text.proofs.FormLaws.{header_front, header_others, header_middle, header_back}
use Rattle.aut_text.proofs.form.header_of.Goals as goal

pub returns-in_default : goal.returns-in_default
returns-in_default c h header = no_cut _ _ _ _ c.in_default.ensures header.first_comma

pub returns-in_default-cut_at : goal.returns-in_default-cut_at
returns-in_default-cut_at c h header = no_cut _ _ _ _ c.in_default-cut_at.ensures (header_others _ _ _ _ c.in-Some.ensures header)

pub returns-in_default-beginning : goal.returns-in_default-beginning
returns-in_default-beginning c h header = c.in_default-beginning.ensures _ (header_front _ _ _ _ c.in-Some.ensures header)

pub returns-in_default-decimal : goal.returns-in_default-decimal
returns-in_default-decimal c h header = c.in_default-decimal.ensures _ (subst (λ t. IsDecimal t h.transitions) (sym c.trim.ensures) (header_middle _ _ _ _ _ _ c.in-Some.ensures c.in-Some-cut_at.ensures header))

pub returns-in_default-closing : goal.returns-in_default-closing
returns-in_default-closing c h header = c.in_default-closing.ensures _ (header_back _ _ _ _ _ _ c.in-Some.ensures c.in-Some-cut_at.ensures header)
