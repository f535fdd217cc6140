use Rattle.std.proofs.Common.{◌≡◌, map}
use Rattle.std.specs.Prelude.{drop}
use Rattle.torx_words.specs.Accepted.{known_of}
use Rattle.torx_words.specs.Form.{has_valued}
use Rattle.torx_words.specs.Named.{entry_from}
use Rattle.torx_words.proofs.parse.has_value.Given as goal

-- no option so far is the one
abbrev pub invariant-loop-option : goal.invariant-loop-option
invariant-loop-option l = has_valued l.name (map known_of (map entry_from (drop l.option-index l.options))) ≡ has_valued l.name (map known_of (map entry_from l.options))
