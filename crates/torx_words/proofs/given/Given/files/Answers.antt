use Rattle.torx_words.specs.Named.{shape_from}
use Rattle.torx_words.proofs.GivenLaws.{counts_given}
use Rattle.torx_words.proofs.given.Given.files.Goals as goal

pub returns-clause-least : goal.returns-clause-least
returns-clause-least c = (counts_given (shape_from c.self.inside.form) c.self.inside.parsed.reading c.args.self.now c.files.result.now c.self.invariant c.self.view_is c.files.ensures).0

pub returns-clause-most : goal.returns-clause-most
returns-clause-most c = (counts_given (shape_from c.self.inside.form) c.self.inside.parsed.reading c.args.self.now c.files.result.now c.self.invariant c.self.view_is c.files.ensures).1
