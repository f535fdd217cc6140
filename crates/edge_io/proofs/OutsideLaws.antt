-- Laws of what the outside tells over several calls, for the crates above.
use Rattle.std.proofs.Common.{arith, ◌≡◌, ℕ, ◌+◌, ◌-◌, ◌≤◌, List, [], ◌++◌, length, take, drop, Option, None, Some, IfSome, ap, refl, sym, ◌∙◌, append_assoc, append-nil, length-append}
use Rattle.std.proofs.lemmas.List.{take_rest, length-take-le}
use Rattle.std.proofs.Math.Seq.{take-add, take-append-add}
use Rattle.edge_io.specs.Outside.{AppendsFrontTo, AppendsTo, FailsAt, GivesAt, KeepsFiles, KeepsSink, Rose, SinkFails, ToldFiles, ToldSink}

-- files that aren't called are kept
pub KeepsFiles-none : (told : ToldFiles) → KeepsFiles told told
KeepsFiles-none told = record { contents = λ name. refl; faults = λ name. omega arith }

-- two calls in a row keep what both keep
pub KeepsFiles-then : {old mid new : ToldFiles} → KeepsFiles old mid → KeepsFiles mid new → KeepsFiles old new
KeepsFiles-then {old} {mid} {new} h k = record {
  contents = λ name. k.contents name ∙ h.contents name;
  faults = λ name. omega (arith, h.faults name, k.faults name);
}

-- what kept files hold, they held
pub content_before : {old new : ToldFiles} (P : List ℕ → Type 0) (name : List ℕ) → KeepsFiles old new → IfSome (new.content name) P → IfSome (old.content name) P
content_before {old} {new} P name h held = rw (← h.contents name) held

-- what files hold, they hold where they are kept
pub content_after : {old new : ToldFiles} (P : List ℕ → Type 0) (name : List ℕ) → KeepsFiles old new → IfSome (old.content name) P → IfSome (new.content name) P
content_after {old} {new} P name h held = rw (h.contents name) held

-- a count that rose has risen since any lesser one
pub Rose-before : (first before now : ℕ) → first ≤ before → Rose before now → Rose first now
Rose-before first before now h rose = omega (arith, h, rose)

-- a count that rose has risen up to any greater one
pub Rose-after : (before now last : ℕ) → Rose before now → now ≤ last → Rose before last
Rose-after before now last rose h = omega (arith, rose, h)

-- a fault of a later call is one since before the earlier
pub FailsAt-before : {old mid new : ToldFiles} {name : List ℕ} → KeepsFiles old mid → FailsAt mid new name → FailsAt old new name
FailsAt-before {old} {mid} {new} {name} h fails = record { rose = Rose-before (old.faults name) (mid.faults name) (new.faults name) (h.faults name) fails.rose }

-- a fault of an earlier call is one up to after the later
pub FailsAt-after : {old mid new : ToldFiles} {name : List ℕ} → FailsAt old mid name → KeepsFiles mid new → FailsAt old new name
FailsAt-after {old} {mid} {new} {name} fails h = record { rose = Rose-after (old.faults name) (mid.faults name) (new.faults name) fails.rose (h.faults name) }

-- a sink that isn't called is kept
pub KeepsSink-none : (told : ToldSink) → KeepsSink told told
KeepsSink-none told = record { faults = omega arith }

-- two calls in a row keep what both keep
pub KeepsSink-then : {old mid new : ToldSink} → KeepsSink old mid → KeepsSink mid new → KeepsSink old new
KeepsSink-then {old} {mid} {new} h k = record { faults = omega (arith, h.faults, k.faults) }

-- a fault of a later call is one since before the earlier
pub SinkFails-before : {old mid new : ToldSink} → KeepsSink old mid → SinkFails mid new → SinkFails old new
SinkFails-before {old} {mid} {new} h fails = record { rose = Rose-before old.faults mid.faults new.faults h.faults fails.rose }

-- a fault of an earlier call is one up to after the later
pub SinkFails-after : {old mid new : ToldSink} → SinkFails old mid → KeepsSink mid new → SinkFails old new
SinkFails-after {old} {mid} {new} fails h = record { rose = Rose-after old.faults mid.faults new.faults fails.rose h.faults }

-- no bytes are written where nothing is
pub AppendsTo-none : (told : ToldSink) → AppendsTo told told []
AppendsTo-none told = record { written = go told.written }
  where
    go : (o : Option (List ℕ)) → IfSome o (λ written. o ≡ Some (written ++ []))
    go None = tt
    go (Some written) = ap Some (sym (append-nil written))

-- two appends in a row are one
pub AppendsTo-then : {old mid new : ToldSink} {a b : List ℕ} → AppendsTo old mid a → AppendsTo mid new b → AppendsTo old new (a ++ b)
AppendsTo-then {old} {mid} {new} {a} {b} h k = record { written = go old.written mid.written new.written h.written k.written }
  where
    go : (o m n : Option (List ℕ)) → IfSome o (λ written. m ≡ Some (written ++ a)) → IfSome m (λ written. n ≡ Some (written ++ b)) → IfSome o (λ written. n ≡ Some (written ++ (a ++ b)))
    go None m n h k = tt
    go (Some written) m n h k = rw h at k ∙ ap Some (append_assoc written a b)

-- after bytes the front of others is written, which with them is a front of all
pub AppendsFrontTo-then : {old mid new : ToldSink} {a b : List ℕ} → AppendsTo old mid a → AppendsFrontTo mid new b → AppendsFrontTo old new (a ++ b)
AppendsFrontTo-then {old} {mid} {new} {a} {b} h k =
    let joined = AppendsTo-then h k.1 in
    (length a + k.0, rw (take-append-add a b k.0) joined)

-- after the first `done` bytes the first n of the rest are the first `done + n`
pub AppendsTo-more : {old mid new : ToldSink} (bytes : List ℕ) (done n : ℕ) → AppendsTo old mid (take done bytes) → AppendsTo mid new (take n (take (length bytes - done) (drop done bytes))) → AppendsTo old new (take (done + n) bytes)
AppendsTo-more {old} {mid} {new} bytes done n h k = rw (take-add done n bytes) (AppendsTo-then h (rw (take_rest bytes done) at k))

-- a front of the content with the bytes that stand after it is a front of it
pub front_more : (told before : Option (List ℕ)) (text buf new : List ℕ) (at n : ℕ) → before ≡ told → at ≡ length text → new ≡ text ++ take n buf → n ≤ length buf → IfSome told (λ c. (text ≡ take (length text) c) × (length text ≤ length c)) → IfSome before (λ c. GivesAt c at n buf) → IfSome told (λ c. (new ≡ take (length new) c) × (length new ≤ length c))
front_more None before text buf new at n same here added within front gives = tt
front_more (Some c) before text buf new at n same here added within front gives =
    let given : GivesAt c (length text) n buf = rw (same, here) at gives in
    let long : length (text ++ take n buf) ≡ length text + n = rw (length-append, length-take-le n buf within) refl in
    let joined : text ++ take n buf ≡ take (length text + n) c = rw (take-add (length text) n c, ← front.0, given.bytes) refl in
    rw (added, long) (joined, given.within)
