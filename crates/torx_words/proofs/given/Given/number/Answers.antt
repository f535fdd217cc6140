use Rattle.std.proofs.Common.{arith}
use Rattle.std.specs.Prelude.{◌≤◌}
use Rattle.torx_words.specs.Named.{shape_from}
use Rattle.torx_words.proofs.NumberLaws.{number_given}
use Rattle.torx_words.proofs.given.Given.number.Goals as goal

pub returns-clause-low : goal.returns-clause-low
returns-clause-low c =
    let small : c.number_in.result ≤ 18446744073709551615 = omega (arith, c.number_in.type_inv) in
    (number_given (shape_from c.self.inside.form) c.self.inside.parsed.reading c.args.self.now c.args.name.now c.args.usual c.number_in.result c.self.invariant c.self.view_is small c.number_in.ensures).0

pub returns-clause-high : goal.returns-clause-high
returns-clause-high c =
    let small : c.number_in.result ≤ 18446744073709551615 = omega (arith, c.number_in.type_inv) in
    (number_given (shape_from c.self.inside.form) c.self.inside.parsed.reading c.args.self.now c.args.name.now c.args.usual c.number_in.result c.self.invariant c.self.view_is small c.number_in.ensures).1
