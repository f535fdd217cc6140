-- Laws on the rows of the sets of a walk.
use Rattle.std.proofs.Common.{◌≡◌, ℕ, ◌+◌, ◌<◌, ◌≤◌, ◌⊎◌, List, [], ◌∷◌, ◌++◌, length, get_or, Contains, Result, Ok, Err, sym, ap, ◌∙◌, inl, inr, arith}
use Rattle.std.specs.Prelude.{OnOk, OnErr}
use Rattle.std.proofs.lemmas.List.{length_push, get_or_push, get_or_append_left}
use Rattle.std.proofs.lemmas.Bool.{cases_lt}
use Rattle.lts_base.specs.System.{System}
use Rattle.lts_base.specs.Reached.{with_new}
use Rattle.lts_base.proofs.DistinctLaws.{with_new-absent}
use Rattle.state_sets.specs.Rows.{Table, IsRowOf, AreMasks, width_of}
use Rattle.walk_core.specs.Walked.{set_at}
use Rattle.walk_core.specs.Marked.{Marked, AreMade, AreMarksOf}

pub either : {A E X Y : Type 0} (r : Result A E) → OnOk r X → OnErr r Y → X ⊎ Y
either (Ok a) x y = inl x
either (Err e) x y = inr y

-- there are no rows yet
pub marks_none : (s : System) (marks : Marked) → AreMade s marks → marks.rows.rows ≡ [] → (sets : List (List ℕ)) → AreMarksOf s sets marks
marks_none s marks made none sets = record {
  made = made;
  few = let e : length marks.rows.rows ≡ 0 = ap length none in omega (arith, e);
  each = λ k below. let e : length marks.rows.rows ≡ 0 = ap length none in absurd (omega (arith, e, below));
}

-- sets that are added at the end have no rows yet
pub marks_grow : (s : System) (sets : List (List ℕ)) (qs : List ℕ) (marks : Marked) → AreMarksOf s sets marks → AreMarksOf s (sets ++ qs ∷ []) marks
marks_grow s sets qs marks are = record {
  made = are.made;
  few = let e : length (sets ++ qs ∷ []) ≡ length sets + 1 = length_push sets qs in omega (arith, e, are.few);
  each = λ k below. rw (get_or_append_left sets (qs ∷ []) [] k (omega (arith, below, are.few))) (are.each k below);
}

-- a set that isn't there is added at the end, and has no row yet
pub marks_new : (s : System) (sets grown : List (List ℕ)) (qs : List ℕ) (marks : Marked) → (Contains sets qs → ⊥) → grown ≡ with_new sets qs → AreMarksOf s sets marks → AreMarksOf s grown marks
marks_new s sets grown qs marks absent e are = rw (e, with_new-absent sets qs absent) (marks_grow s sets qs marks are)

made_more : (s : System) (old new : Marked) → AreMade s old → new.masks ≡ old.masks → length new.row ≡ width_of s → new.rows.width ≡ old.rows.width → AreMade s new
made_more s old new made masks row width = record { masks = rw masks made.masks; width = width ∙ made.width; row = row }

-- the row of the next set was added, or there was no memory for it
pub marks_kept : (s : System) (old new : Marked) (ps : List ℕ) (place : ℕ) → place ≡ length old.rows.rows → new.masks ≡ old.masks → IsRowOf s ps new.row →
    (new.rows.width ≡ old.rows.width × (new.rows.rows ≡ old.rows.rows ++ new.row ∷ [])) ⊎ (new.rows ≡ old.rows) →
    (sets : List (List ℕ)) → AreMarksOf s sets old → place < length sets → set_at sets place ≡ ps → AreMarksOf s sets new
marks_kept s old new ps place next masks row cases sets are inside at = elim cases [
  | inl w ↦
      let longer : length new.rows.rows ≡ length old.rows.rows + 1 = ap length w.1 ∙ length_push old.rows.rows new.row in
      record {
        made = made_more s old new are.made masks row.long w.0;
        few = omega (arith, longer, next, inside);
        each = λ k below. elim (cases_lt k (length old.rows.rows)) [
          | inl earlier ↦ rw (w.1, get_or_append_left old.rows.rows (new.row ∷ []) [] k earlier) (are.each k earlier)
          | inr late ↦
              let here : k ≡ place = omega (arith, late, below, longer, next) in
              rw (here, w.1, get_or_push old.rows.rows new.row [] place (sym next), at) row
        ];
      }
  | inr same ↦ record {
    made = made_more s old new are.made masks row.long (ap (λ (t : Table). t.width) same);
    few = rw same are.few;
    each = rw same are.each;
  }
]
