-- Laws of what a stream tells over several calls.
use Rattle.std.proofs.Common.{arith, ◌≡◌, ◌∙◌, ℕ, ◌+◌, ◌-◌, List, [], ◌++◌, length, take, drop, Option, None, Some, Result, Ok, Err, ap, refl, sym, append_assoc}
use Rattle.std.proofs.lemmas.List.{append-nil, take_all, take_rest, take-append-le}
use Rattle.std.proofs.lemmas.Bool.{cases_lt}
use Rattle.std.proofs.Common.{inl, inr}
use Rattle.std.proofs.Math.Seq.{take-add, take-append-add}
use Rattle.std.specs.Result.{OnErr}
use Rattle.edge_io.specs.Outside.{Gains}
use Rattle.edge_io.specs.Streams.{KeepsStream, StreamFails, StreamIdles, ToldStream}
use Rattle.edge_io.proofs.OutsideLaws.{Rose-before}

-- nothing is gained where nothing is told anew
pub gains_none : {X : Type 0} (told : Option (List X)) → Gains told told []
gains_none None = refl
gains_none (Some list) = ap Some (sym (append-nil list))

-- two gains in a row are one
pub gains_then : {X : Type 0} (old mid new : Option (List X)) (a b : List X) → Gains old mid a → Gains mid new b → Gains old new (a ++ b)
gains_then None mid new a b h k = rw h at k
gains_then (Some list) mid new a b h k = rw h at k ∙ ap Some (append_assoc list a b)

-- after the first `done` bytes the first n of the rest are the first `done + n`
pub gains_more : (old mid new : Option (List ℕ)) (bytes : List ℕ) (done n : ℕ) → Gains old mid (take done bytes) → Gains mid new (take n (take (length bytes - done) (drop done bytes))) → Gains old new (take (done + n) bytes)
gains_more old mid new bytes done n h k = rw (take-add done n bytes) (gains_then old mid new _ _ h (rw (take_rest bytes done) at k))

-- a front of the first bytes is a front of all
pub front_of_first : (old new : Option (List ℕ)) (a b : List ℕ) (n : ℕ) → Gains old new (take n a) → (m : ℕ) × Gains old new (take m (a ++ b))
front_of_first old new a b n h = elim (cases_lt n (length a)) [
  | inl below ↦ (n, rw (take-append-le n a b (omega (arith, below))) h)
  | inr past ↦
      let whole : take n a ≡ a = take_all n a (omega (arith, past)) in
      let all : take (length a) a ≡ a = take_all (length a) a (omega arith) in
      (length a, rw (take-append-le (length a) a b (omega arith), all) (rw whole at h))
]

-- all the first bytes and a front of the others are a front of all
pub front_of_second : (old mid new : Option (List ℕ)) (a b : List ℕ) (n : ℕ) → Gains old mid a → Gains mid new (take n b) → (m : ℕ) × Gains old new (take m (a ++ b))
front_of_second old mid new a b n h k = (length a + n, rw (take-append-add a b n) (gains_then old mid new a (take n b) h k))

-- what holds, holds of each error
pub on_error : {T E : Type 0} (result : Result T E) (P : Type 0) → P → OnErr result P
on_error (Ok value) P p = tt
on_error (Err error) P p = p

-- what holds of an error, with what follows from it
pub on_error-then : {T E : Type 0} (result : Result T E) (P Q : Type 0) → (P → Q) → OnErr result P → OnErr result Q
on_error-then (Ok value) P Q f p = tt
on_error-then (Err error) P Q f p = f p

-- a stream that isn't called is kept
pub KeepsStream-none : (told : ToldStream) → KeepsStream told told
KeepsStream-none told = record { faults = omega arith; idles = omega arith }

-- two calls in a row keep what both keep
pub KeepsStream-then : {old mid new : ToldStream} → KeepsStream old mid → KeepsStream mid new → KeepsStream old new
KeepsStream-then {old} {mid} {new} h k = record { faults = omega (arith, h.faults, k.faults); idles = omega (arith, h.idles, k.idles) }

-- a fault of a later call is one since before the earlier
pub StreamFails-before : {old mid new : ToldStream} → KeepsStream old mid → StreamFails mid new → StreamFails old new
StreamFails-before {old} {mid} {new} h fails = record { rose = Rose-before old.faults mid.faults new.faults h.faults fails.rose }

-- an idle answer of a later call is one since before the earlier
pub StreamIdles-before : {old mid new : ToldStream} → KeepsStream old mid → StreamIdles mid new → StreamIdles old new
StreamIdles-before {old} {mid} {new} h idle = record { rose = Rose-before old.idles mid.idles new.idles h.idles idle.rose }
