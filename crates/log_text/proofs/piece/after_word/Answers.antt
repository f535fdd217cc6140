use Rattle.std.proofs.Common.{◌∙◌, ◌++◌, sym, ap, List, ℕ}
use Rattle.text_scan.proofs.AffixLaws.{has_front, lacks_front}
use Rattle.log_text.proofs.piece.after_word.Goals as goal

pub returns-in-None : goal.returns-in-None
returns-in-None c text is = lacks_front c.args.word.now c.args.line.now text c.in-None.ensures.cases is

pub returns-in-Some : goal.returns-in-Some
returns-in-Some c = has_front c.args.word.now c.args.line.now c.in-Some.ensures.cases.0 ∙ ap {A = List ℕ} {B = List ℕ} (λ t. c.args.word.now ++ t) (sym c.in-Some.ensures.cases.1)
