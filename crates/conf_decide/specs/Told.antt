-- Promise: what is told of an answer where only the number of pairs is asked for.
use Rattle.std.specs.Prelude.{length}
use Rattle.conf_decide.specs.declared.answer.Answer.{Answer}
use Rattle.conf_decide.specs.declared.answer.Answer.TheVariants.{Conforms, Violates, Undecided}
use Rattle.conf_decide.specs.declared.answer.Verdict.{Verdict}
use Rattle.conf_decide.specs.declared.answer.Verdict.TheVariants.{Conforms as Counted, Violates as Violated, Undecided as Cut}

-- of a relation the number of its pairs, of all else the whole
abbrev pub told_of : Answer → Verdict
told_of (Conforms relation) = Counted (length relation.pairs)
told_of (Violates trace shown) = Violated trace shown
told_of (Undecided what reached depth) = Cut what reached depth
