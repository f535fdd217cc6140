use Rattle.std.proofs.Common.{◌≡◌, Some, rules}
use Rattle.aut_text.proofs.PieceLaws.{or_refuses, stopped_shown}
use Rattle.aut_text.proofs.reader.AutReader.settle.Goals as goal

pub returns-in-Some-clause-read : goal.returns-in-Some-clause-read
returns-in-Some-clause-read c content read =
    let is : c.args.self.stopped ≡ Some c.in-Some.error = search rules in
    or_refuses content c.in-Some.error (stopped_shown content c.args.self c.in-Some.error is read)
