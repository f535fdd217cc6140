use Rattle.std.proofs.Common.{◌≡◌, map}
use Rattle.std.specs.Prelude.{drop}
use Rattle.torx_words.specs.Accepted.{has_clash}
use Rattle.torx_words.proofs.checks.both_stand.Given as goal

-- no pair so far stands
abbrev pub invariant-loop-pair : goal.invariant-loop-pair
invariant-loop-pair l = has_clash (map (λ p. (p.0.now, p.1.now)) (drop l.pair-index l.pairs)) l.parsed.reading ≡ has_clash (map (λ p. (p.0.now, p.1.now)) l.pairs) l.parsed.reading
