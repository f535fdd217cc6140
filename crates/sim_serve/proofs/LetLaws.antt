-- What a door tells of streams that it lets in, one after the other.
use Rattle.std.proofs.Common.{arith, ◌≡◌, ◌∙◌, ℕ, ◌+◌, List, [], ◌∷◌, ◌++◌, length, Option, None, Some, ◌⊎◌, inl, inr, refl, sym, ap, subst}
use Rattle.std.specs.Option.{option_map}
use Rattle.std.proofs.lemmas.List.{length_push}
use Rattle.std.proofs.lemmas.List.Elements.{All-nil, All-push, All-weaker}
use Rattle.edge_io.specs.Doors.{Closed, DoorFails, KeepsDoor, ToldDoor}
use Rattle.edge_io.specs.Outside.{Grew}
use Rattle.edge_io.proofs.DoorLaws.{KeepsDoor-then}
use Rattle.edge_io.proofs.OutsideLaws.{Rose-after, Rose-before}
use Rattle.sim_serve.specs.Sessions.{Gained, Lets}
use Rattle.sim_serve.specs.Turn.{ClosesOne, LetsNone, LetsOne}

-- one item more
Gained-push : {X : Type 0} (old mid new : Option (List X)) (items : List X) (item : X) → Gained old mid items → Grew mid new item → Gained old new (items ++ item ∷ [])
Gained-push old mid new [] item same grew = (new, subst (λ o. Grew o new item) same grew, refl)
Gained-push old mid new (x ∷ items) item (next, first, others) grew = (next, first, Gained-push next mid new items item others grew)

-- the door fails by a later call, or failed by an earlier one
fails_before : {old mid new : ToldDoor} → KeepsDoor old mid → DoorFails mid new → DoorFails old new
fails_before {old} {mid} {new} keeps fails = record { rose = Rose-before old.faults mid.faults new.faults keeps.faults fails.rose }

fails_after : {old mid new : ToldDoor} → DoorFails old mid → KeepsDoor mid new → DoorFails old new
fails_after {old} {mid} {new} fails keeps = record { rose = Rose-after old.faults mid.faults new.faults fails.rose keeps.faults }

-- nothing is added
add_none : (count : Option ℕ) → option_map (λ n. n + 0) count ≡ count
add_none None = refl
add_none (Some n) = ap Some (omega arith)

-- one is added after others
add_more : (count : Option ℕ) (some all : ℕ) → all ≡ some + 1 → option_map (λ n. n + 1) (option_map (λ n. n + some) count) ≡ option_map (λ n. n + all) count
add_more None some all is = refl
add_more (Some n) some all is = ap Some (omega (arith, is))

-- a door that was bound lets no stream in yet
pub Lets-none : (address : List ℕ) (old new : ToldDoor) → Grew old.asked new.asked address → new.accepted ≡ old.accepted → new.closed ≡ old.closed → KeepsDoor old new → Lets address old new []
Lets-none address old new asked accepted closed keeps = record {
  asked = asked;
  closes = record { accepted = accepted ∙ sym (add_none old.accepted); closed = closed; faults = All-nil _ };
  keeps = keeps;
}

-- it lets one stream more in
pub Lets-one : (address : List ℕ) (old mid new : ToldDoor) (streams : List Closed) (stream : Closed) → Lets address old mid streams → LetsOne mid new stream → Lets address old new (streams ++ stream ∷ [])
Lets-one address old mid new streams stream lets one = record {
  asked = subst (λ asked. Grew old.asked asked address) (sym one.asked) lets.asked;
  closes = record {
    accepted = one.accepted ∙ ap (option_map (λ (n : ℕ). n + 1)) lets.closes.accepted ∙ add_more old.accepted (length streams) (length (streams ++ stream ∷ [])) (rw (length_push streams stream) refl);
    closed = Gained-push old.closed mid.closed new.closed streams stream lets.closes.closed one.closed;
    faults = All-push (λ (x : Closed). (x.faults ≡ 0) ⊎ DoorFails old new) streams stream
        (All-weaker (λ (x : Closed). (x.faults ≡ 0) ⊎ DoorFails old mid) (λ (x : Closed). (x.faults ≡ 0) ⊎ DoorFails old new) (λ x. after) streams lets.closes.faults) (before one.fails);
  };
  keeps = KeepsDoor-then lets.keeps one.keeps;
}
  where
    after : {A : Type 0} → A ⊎ DoorFails old mid → A ⊎ DoorFails old new
    after (inl a) = inl a
    after (inr fails) = inr (fails_after fails one.keeps)

    before : {A : Type 0} → A ⊎ DoorFails mid new → A ⊎ DoorFails old new
    before (inl a) = inl a
    before (inr fails) = inr (fails_before lets.keeps fails)

-- it lets no further one in
pub Lets-refused : (address : List ℕ) (old mid new : ToldDoor) (streams : List Closed) → Lets address old mid streams → LetsNone mid new → Lets address old new streams
Lets-refused address old mid new streams lets none = record {
  asked = subst (λ asked. Grew old.asked asked address) (sym none.asked) lets.asked;
  closes = record {
    accepted = none.accepted ∙ lets.closes.accepted;
    closed = subst (λ closed. Gained old.closed closed streams) (sym none.closed) lets.closes.closed;
    faults = All-weaker (λ (x : Closed). (x.faults ≡ 0) ⊎ DoorFails old mid) (λ (x : Closed). (x.faults ≡ 0) ⊎ DoorFails old new) (λ x. after) streams lets.closes.faults;
  };
  keeps = KeepsDoor-then lets.keeps none.keeps;
}
  where
    after : {A : Type 0} → A ⊎ DoorFails old mid → A ⊎ DoorFails old new
    after (inl a) = inl a
    after (inr fails) = inr (fails_after fails none.keeps)

-- a stream that is let in and closed
pub LetsOne-then : (old mid new : ToldDoor) (stream : Closed) → mid.listens ≡ old.listens → mid.asked ≡ old.asked → mid.accepted ≡ option_map (λ n. n + 1) old.accepted → mid.closed ≡ old.closed →
    KeepsDoor old mid → ClosesOne mid new stream → LetsOne old new stream
LetsOne-then old mid new stream listens asked accepted closed keeps one = record {
  listens = one.listens ∙ listens;
  asked = one.asked ∙ asked;
  accepted = one.accepted ∙ accepted;
  closed = subst (λ c. Grew c new.closed stream) closed one.closed;
  fails = before one.fails;
  keeps = KeepsDoor-then keeps one.keeps;
}
  where
    before : {A : Type 0} → A ⊎ DoorFails mid new → A ⊎ DoorFails old new
    before (inl a) = inl a
    before (inr fails) = inr (fails_before keeps fails)
