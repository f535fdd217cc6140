use Rattle.std.proofs.Common.{◌≡◌, map}
use Rattle.std.specs.List.{list_all}
use Rattle.std.specs.Prelude.{drop}
use Rattle.torx_words.specs.Form.{stands}
use Rattle.torx_words.proofs.checks.stand.Given as goal

-- the options so far stand
abbrev pub invariant-loop-name : goal.invariant-loop-name
invariant-loop-name l = list_all (λ name. stands name l.parsed.reading) (map (λ w. w.now) (drop l.name-index l.names)) ≡ list_all (λ name. stands name l.parsed.reading) (map (λ w. w.now) l.names)
