use Rattle.std.proofs.Common.{◌≡◌, map}
use Rattle.std.specs.List.{fold}
use Rattle.std.specs.Prelude.{drop}
use Rattle.clap.specs.Words.{app_of}
use Rattle.torx_words.specs.Accepted.{known_of}
use Rattle.torx_words.specs.Parsed.{with_known, bare_app}
use Rattle.torx_words.specs.Named.{entry_from}
use Rattle.torx_words.proofs.parse.command_for.Given as goal

-- the options so far and those to come make the whole
abbrev pub invariant-loop-option : goal.invariant-loop-option
invariant-loop-option l = fold with_known (app_of l.command) (map known_of (map entry_from (drop l.option-index l.options))) ≡ fold with_known bare_app (map known_of (map entry_from l.options))
