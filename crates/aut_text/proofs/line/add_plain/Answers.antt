use Rattle.std.proofs.Common.{◌∙◌, ap, subst, List, ℕ, Option, IfSome, rules}
use Rattle.lts_base.specs.Alphabet.{IsLabel}
use Rattle.aut_text.specs.Form.{visible}
use Rattle.aut_text.specs.Parts.{AddsMove}
use Rattle.aut_text.specs.Plain.{IsPlainText}
use Rattle.aut_text.proofs.PlainLaws.{plain_adds}
use Rattle.aut_text.proofs.line.add_plain.Goals as goal

pub returns-clause-added : goal.returns-clause-added
returns-clause-added c added =
    let seen = c.visible.ensures ∙ ap visible c.label_in.ensures in
    plain_adds c.args.states c.args.line.now c.in-Some.middle.now c.in-Some.from c.in-Some.to c.args.parts.now c.push_known.new.self c.if-line-gt-MOST_LINE_BYTES.false (search rules)
    (subst (λ (t : List ℕ). IsPlainText c.args.states t c.in-Some.from c.in-Some.middle.now c.in-Some.to) c.without_cr.ensures c.in-Some.ensures)
    (subst (λ (o : Option (List ℕ)). IfSome o IsLabel) seen (c.push_known.ensures.known added))
    (subst (λ (o : Option (List ℕ)). AddsMove c.args.parts.now c.push_known.new.self (record { from = c.in-Some.from; label = o; to = c.in-Some.to })) seen (c.push_known.ensures.added added))
