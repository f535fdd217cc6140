use Rattle.std.proofs.Common.{◌∙◌, sym}
use Rattle.torx_words.proofs.ReadingLaws.{says_of}
use Rattle.torx_words.specs.Taken.{told_of}
use Rattle.torx_words.proofs.parse.Parsed.value.Goals as goal

pub returns-then-has_value : goal.returns-then-has_value
returns-then-has_value c =
    let says = says_of c.self.inside.options.now c.self.inside.words.now (told_of c.self.inside.matches) c.args.self.now c.self.invariant c.self.view_is in
    c.get_str.ensures ∙ says.tells.values c.args.name.now (sym c.has_value.ensures ∙ c.if-has_value.true)

pub returns-else-has_value : goal.returns-else-has_value
returns-else-has_value c =
    let says = says_of c.self.inside.options.now c.self.inside.words.now (told_of c.self.inside.matches) c.args.self.now c.self.invariant c.self.view_is in
    sym (says.unvalued c.args.name.now (sym c.has_value.ensures ∙ c.if-has_value.false))
