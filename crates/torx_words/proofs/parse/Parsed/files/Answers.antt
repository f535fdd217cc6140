use Rattle.std.proofs.Common.{◌∙◌}
use Rattle.torx_words.proofs.ReadingLaws.{says_of}
use Rattle.torx_words.specs.Taken.{told_of}
use Rattle.torx_words.proofs.parse.Parsed.files.Goals as goal

pub returns : goal.returns
returns c =
    let says = says_of c.self.inside.options.now c.self.inside.words.now (told_of c.self.inside.matches) c.args.self.now c.self.invariant c.self.view_is in
    c.told_files.ensures ∙ says.tells.files
