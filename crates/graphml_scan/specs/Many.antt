-- Promise: steps that may fail, and items that stand one after another.
use Rattle.std.specs.Prelude.{ℕ, zero, suc, List, [], ◌∷◌, length, Option, Some, None}

-- a value of a piece, and the bytes after the piece
abbrev pub Cut : Type 0 → Type 0
Cut A = A × List ℕ

infixl 10 ◌>>=◌
abbrev pub ◌>>=◌ : {A B : Type 0} → Option A → (A → Option B) → Option B
None >>= f = None
(Some x) >>= f = f x

-- the items with one more in front
abbrev pub with_first : {A : Type 0} → A → Cut (List A) → Cut (List A)
with_first item others = (item ∷ others.0, others.1)

-- an item and those after it, or none
abbrev pub continued : {A : Type 0} → Option (Cut A) → List ℕ → (List ℕ → Cut (List A)) → Cut (List A)
continued None bytes others = ([], bytes)
continued (Some one) bytes others = with_first one.0 (others one.1)

-- at most so many items
unfoldable pub many_within : {A : Type 0} → ℕ → (List ℕ → Option (Cut A)) → List ℕ → Cut (List A)
many_within zero item bytes = ([], bytes)
many_within (suc n) item bytes = continued (item bytes) bytes (many_within n item)

-- the items that stand at the front of the bytes, one after another, as many as there are, and the bytes after them; each
-- item has a byte at least, so there are no more items than bytes
unfoldable pub many : {A : Type 0} → (List ℕ → Option (Cut A)) → List ℕ → Cut (List A)
many item bytes = many_within (length bytes) item bytes
