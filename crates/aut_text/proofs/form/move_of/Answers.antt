use Rattle.std.proofs.Common.{sym, subst}
use Rattle.std.proofs.lemmas.Bool.{iff_false}
use Rattle.text_scan.proofs.CutLaws.{no_cut, no_last_cut}
use Rattle.aut_text.specs.Form.{HasLabel}
use Rattle.aut_text.proofs.FormLaws.{move_front, move_others, move_label, move_back}
use Rattle.aut_text.proofs.form.move_of.Goals as goal

pub returns-in_default-cut_at_last : goal.returns-in_default-cut_at_last
returns-in_default-cut_at_last c w move = no_last_cut _ _ _ _ c.in_default-cut_at_last.ensures (move_others _ _ _ _ c.in-Some.ensures move)

pub returns-in_default-opening : goal.returns-in_default-opening
returns-in_default-opening c w move = c.in_default-opening.ensures _ (move_front _ _ _ _ c.in-Some.ensures move)

pub returns-then-not-has_label : goal.returns-then-not-has_label
returns-then-not-has_label c w move = iff_false c.has_label.ensures c.if-not-has_label.true (subst HasLabel (sym c.label_in-label.ensures) (move_label _ _ _ _ _ _ c.in-Some.ensures c.in-Some-cut_at_last.ensures move))

pub returns-in_default-closing : goal.returns-in_default-closing
returns-in_default-closing c w move = c.in_default-closing.ensures _ (move_back _ _ _ _ _ _ c.in-Some.ensures c.in-Some-cut_at_last.ensures move)

pub returns-in_default : goal.returns-in_default
returns-in_default c w move = no_cut _ _ _ _ c.in_default.ensures move.first_comma
