-- Private: words for the choice of the first state and input, which private functions speak in.
use Rattle.std.specs.Prelude.{◌≡◌, ℕ, ◌<◌, List, Bool, true, false, Option, Some, None, if◌then◌else◌, nat_lt, slice_index_or as get_or}

-- q is the first state that is marked here and not there
pub record IsFirstUnmarked (ones others : List Bool) (q : ℕ) : Type 0 where
  pub here : get_or ones q false ≡ true
  pub there : get_or others q false ≡ false
  pub before : (p : ℕ) → p < q → get_or ones p false ≡ true → get_or others p false ≡ true

-- the first pair, or the state with the input, if there is one and it is less
abbrev pub with_lacking : Option (ℕ × ℕ) → Option ℕ → ℕ → Option (ℕ × ℕ)
with_lacking first None a = first
with_lacking None (Some q) a = Some (q, a)
with_lacking (Some pair) (Some q) a = if nat_lt q pair.0 then Some (q, a) else Some pair
