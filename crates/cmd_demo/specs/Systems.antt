-- Promise: the two systems of `demo`. With size n both have 2n states, two for each place of a ring of n places.
use Rattle.std.specs.Prelude.{ℕ, zero, suc, ◌+◌, ◌*◌, ◌%◌, List, [], ◌∷◌, ◌++◌, All, codes, Some}
use Rattle.lts_base.specs.declared.raw.RawMove.{RawMove}
use Rattle.lts_base.specs.declared.sorting.Rule.TheVariants.{Prefix}
use Rattle.lts_base.specs.Raw.{RawSystem}
use Rattle.lts_base.specs.System.{System, IsSystem}
use Rattle.lts_base.specs.Alphabet.{Alphabet}
use Rattle.lts_base.specs.Sorting.{IsAlphabetOf, AreSystemsFor}

-- the labels: `?a` is number 0, `!x` is number 1
abbrev pub demo_labels : List (List ℕ)
demo_labels = codes "?a" ∷ codes "!x" ∷ []

-- the place after q
abbrev pub next : ℕ → ℕ → ℕ
next n q = (q + 1) % n

-- `?a` from 2q to 2q + 1
abbrev pub ask : ℕ → RawMove
ask q = record { from = 2 * q; label = Some 0; to = 2 * q + 1 }

-- `?a` from 2q to 2p + 1
abbrev pub skip : ℕ → ℕ → RawMove
skip q p = record { from = 2 * q; label = Some 0; to = 2 * p + 1 }

-- `!x` from 2q + 1 to 2p
abbrev pub reply : ℕ → ℕ → RawMove
reply q p = record { from = 2 * q + 1; label = Some 1; to = 2 * p }

-- the moves of place q in the specification
abbrev pub spec_moves_at : ℕ → ℕ → List RawMove
spec_moves_at n q = ask q ∷ skip q (next n q) ∷ reply q (next n q) ∷ []

-- the moves of place q in the implementation, which skips none
abbrev pub imp_moves_at : ℕ → ℕ → List RawMove
imp_moves_at n q = ask q ∷ reply q (next n q) ∷ []

-- the moves of the places below this one
abbrev pub moves_below : (ℕ → List RawMove) → ℕ → List RawMove
moves_below moves_at zero = []
moves_below moves_at (suc q) = moves_below moves_at q ++ moves_at q

-- the system with 2n states, start 0 and these moves
abbrev pub demo_system : ℕ → List RawMove → RawSystem
demo_system n moves = record { states = 2 * n; start = 0; labels = demo_labels; moves = moves }

abbrev pub demo_spec : ℕ → RawSystem
demo_spec n = demo_system n (moves_below (spec_moves_at n) n)

abbrev pub demo_imp : ℕ → RawSystem
demo_imp n = demo_system n (moves_below (imp_moves_at n) n)

-- s is the specification and i the implementation of size n, over their alphabet, in which the marks at their front sort the labels
pub record AreDemo (n : ℕ) (a : Alphabet) (s i : System) : Type 0 where
  pub alphabet : IsAlphabetOf Prefix (demo_spec n ∷ demo_imp n ∷ []) a
  pub over : AreSystemsFor a (demo_spec n ∷ demo_imp n ∷ []) (s ∷ i ∷ [])
  pub sound : All IsSystem (s ∷ i ∷ [])
