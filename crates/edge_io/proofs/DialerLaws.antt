-- Links that a dialer in memory hands out and takes back.
use Rattle.std.proofs.Common.{arith, zero, suc, ◌≡◌, ℕ, ◌+◌, ◌≤◌, ◌⊎◌, inl, inr, List, [], ◌∷◌, ◌++◌, All, Option, None, Some, refl}
use Rattle.std.specs.Option.{option_to_list}
use Rattle.edge_io.specs.DialersInMemory.{total_of}
use Rattle.edge_io.specs.Dials.{DialerFails, DialerIdles, ToldDialer}
use Rattle.edge_io.specs.Outside.{Rose}

-- what holds of all holds of the first
pub all_first : {K : Type 0} (P : K → Type 0) (xs ys : List K) (x : K) → xs ≡ x ∷ ys → All P xs → P x
all_first P xs ys x e all = let h = rw e at all in h 0 x (omega arith)

-- what holds of all holds of those after the first, where one was taken
pub all_rest : {K : Type 0} (P : K → Type 0) (taken : Option K) (xs ys : List K) → xs ≡ option_to_list taken ++ ys → All P xs → All P ys
all_rest P None xs ys e all = rw e at all
all_rest P (Some x) xs ys e all = let h = rw e at all in λ k d below. h (suc k) d (omega (arith, below))

-- one link more adds its count
pub total_push : {K : Type 0} (count : K → ℕ) (links : List K) (link : K) → total_of count (links ++ link ∷ []) ≡ total_of count links + count link
total_push count [] link = omega arith
total_push count (x ∷ links) link = omega (arith, total_push count links link)

-- a sum rose by the count of one link more, unless that is 0
pub rose_by : {K : Type 0} (count : K → ℕ) (own : ℕ) (old new : List K) (link : K) → new ≡ old ++ link ∷ [] → (count link ≡ 0) ⊎ Rose (own + total_of count old) (own + total_of count new)
rose_by count own old new link e = rw (e, total_push count old link) (go (count link))
  where
    go : (n : ℕ) → (n ≡ 0) ⊎ Rose (own + total_of count old) (own + (total_of count old + n))
    go zero = inl refl
    go (suc n) = inr (omega arith)

-- and it didn't fall
pub grew_by : {K : Type 0} (count : K → ℕ) (own : ℕ) (old new : List K) (link : K) → new ≡ old ++ link ∷ [] → own + total_of count old ≤ own + total_of count new
grew_by count own old new link e = rw (e, total_push count old link) (omega arith)

pub fails_or : {A : Type 0} {old new : ToldDialer} → A ⊎ Rose old.faults new.faults → A ⊎ DialerFails old new
fails_or (inl a) = inl a
fails_or (inr rose) = inr (record { rose = rose })

pub idles_or : {A : Type 0} {old new : ToldDialer} → A ⊎ Rose old.idles new.idles → A ⊎ DialerIdles old new
idles_or (inl a) = inl a
idles_or (inr rose) = inr (record { rose = rose })
