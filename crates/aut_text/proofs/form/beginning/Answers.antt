use Rattle.std.proofs.Common.{◌∙◌, ◌++◌, sym, ap, codes, ℕ, List}
use Rattle.text_scan.proofs.AffixLaws.{has_front}
use Rattle.aut_text.proofs.FormLaws.{beginning_is}
use Rattle.aut_text.proofs.form.beginning.Goals as goal

pub returns : goal.returns
returns c =
    let whole = has_front (codes "des") _ c.in-Some.ensures.cases.0 in
    let is = sym c.trim.ensures ∙ whole ∙ ap {A = List ℕ} {B = List ℕ} (λ t. codes "des" ++ t) (sym c.in-Some.ensures.cases.1) in
    beginning_is _ c.in-Some.rest.now _ is c.opening.ensures
