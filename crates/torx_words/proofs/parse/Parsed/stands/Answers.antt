use Rattle.std.proofs.Common.{◌∙◌, sym}
use Rattle.torx_words.proofs.ReadingLaws.{lent_some, says_of}
use Rattle.torx_words.specs.Taken.{told_of}
use Rattle.torx_words.proofs.parse.Parsed.stands.Goals as goal

pub returns-then-is_flag : goal.returns-then-is_flag
returns-then-is_flag c =
    let says = says_of c.self.inside.options.now c.self.inside.words.now (told_of c.self.inside.matches) c.args.self.now c.self.invariant c.self.view_is in
    c.told_flag.ensures ∙ says.tells.flags c.args.name.now (sym c.is_flag.ensures ∙ c.if-is_flag.true)

pub returns-else-is_flag : goal.returns-else-is_flag
returns-else-is_flag c =
    let says = says_of c.self.inside.options.now c.self.inside.words.now (told_of c.self.inside.matches) c.args.self.now c.self.invariant c.self.view_is in
    c.is_some.ensures ∙ lent_some _ _ c.value.ensures ∙ sym (says.unflagged c.args.name.now (sym c.is_flag.ensures ∙ c.if-is_flag.false))
