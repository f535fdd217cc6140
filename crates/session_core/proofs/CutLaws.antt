-- Rounds that go on.
use Rattle.std.proofs.Common.{◌≡◌, ℕ, ◌+◌, ◌<◌, ◌≤◌, List, [], ◌∷◌, ◌++◌, length, map, ◌⊎◌, inl, inr, refl, ap, sym, ◌∙◌, arith, append_assoc}
use Rattle.std.proofs.lemmas.List.{append-nil}
use Rattle.std.proofs.lemmas.Grind.{flat_map-append}
use Rattle.std.specs.List.{flat_map}
use Rattle.lts_base.specs.declared.item.Item.{Item}
use Rattle.session_core.specs.Told.{Told}
use Rattle.session_core.specs.Table.{Rules, IsOver, IsLogged}
use Rattle.session_core.specs.Reading.{Round, events_of, given_by, FitsAt, GoOn, IsCut}

pub GoOn-push : (r : Rules) (σ : List Item) (rounds : List Round) (τ : List Item) (round : Round) (x : Item) → GoOn r σ rounds τ → FitsAt r τ round → IsLogged r τ (given_by round) x → (IsOver r (τ ++ x ∷ []) → ⊥) → GoOn r σ (rounds ++ round ∷ []) (τ ++ x ∷ [])
GoOn-push r σ [] τ round x go fits logged more = (x, rw go at fits, rw go at logged, rw go at more, rw go refl)
GoOn-push r σ (first ∷ rounds) τ round x (y, fits_y, logged_y, more_y, rest) fits logged more =
    (y, fits_y, logged_y, more_y, GoOn-push r (σ ++ y ∷ []) rounds τ round x rest fits logged more)

pub IsCut-none : (r : Rules) → IsCut r [] [] []
IsCut-none r = record { rounds = []; go = refl; cut = refl }

pub IsCut-push : (r : Rules) (es : List Told) (σ : List Item) (tail : List Told) (e : Told) → IsCut r es σ tail → IsCut r (es ++ e ∷ []) σ (tail ++ e ∷ [])
IsCut-push r es σ tail e cut = record { rounds = cut.rounds; go = cut.go; cut = rw cut.cut (append_assoc (flat_map events_of cut.rounds) tail (e ∷ [])) }

-- the round that the tail is goes on
pub IsCut-close : (r : Rules) (es : List Told) (σ : List Item) (tail : List Told) (round : Round) (x : Item) → IsCut r es σ tail → tail ≡ events_of round → FitsAt r σ round → IsLogged r σ (given_by round) x → (IsOver r (σ ++ x ∷ []) → ⊥) → IsCut r es (σ ++ x ∷ []) []
IsCut-close r es σ tail round x cut whole fits logged more =
    let joined : flat_map events_of (cut.rounds ++ round ∷ []) ≡ flat_map events_of cut.rounds ++ events_of round = flat_map-append events_of cut.rounds (round ∷ []) ∙ ap (λ (z : List Told). flat_map events_of cut.rounds ++ z) (append-nil (events_of round)) in
    record {
      rounds = cut.rounds ++ round ∷ [];
      go = GoOn-push r [] cut.rounds σ round x cut.go fits logged more;
      cut = cut.cut ∙ ap (λ (z : List Told). flat_map events_of cut.rounds ++ z) whole ∙ sym joined ∙ sym (append-nil _);
    }
