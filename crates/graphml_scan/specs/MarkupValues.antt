-- Promise: markup of the code, as tokens.
use Rattle.graphml_scan.specs.declared.token.Markup.{Markup}
use Rattle.graphml_scan.specs.declared.token.Markup.TheVariants.{Section, Start as LentStart, End as LentEnd, Passed as LentPassed}
use Rattle.graphml_scan.specs.Token.{Token, Text, Start, End, Passed}
use Rattle.graphml_scan.specs.TagValues.{tag_of}

abbrev pub token_of : Markup → Token
token_of (Section text) = Text text.now
token_of (LentStart tag) = Start (tag_of tag)
token_of (LentEnd name) = End name.now
token_of LentPassed = Passed
