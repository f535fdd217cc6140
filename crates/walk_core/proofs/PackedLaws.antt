-- Laws on edges that are packed into one number each.
use Rattle.std.proofs.Common.{ℕ, zero, suc, ◌-◌, nat_lt, get_or, ◌+◌, ◌*◌, ◌/◌, ◌%◌, ◌<◌, ◌≤◌, ◌≡◌, eqb, true, false, List, [], ◌∷◌, ◌++◌, length, Option, Some, None, refl, sym, ap, ◌∙◌, inl, inr, ◌⊎◌, arith}
use Rattle.std.specs.Map.{lookup}
use Rattle.std.proofs.lemmas.Bool.{cases_eq, cases_lt, eq-eqb, ne_eqb, ltb-true}
use Rattle.std.proofs.lemmas.Bool.Decides.{nat_tests}
use Rattle.std.specs.List.Sorted.{IsPartitionPoint, IsNonDecreasingBy}
use Rattle.std.proofs.lemmas.List.{map_push, get_or_default}
use Rattle.walk_core.specs.declared.node.Node.{Node}
use Rattle.walk_core.specs.Edges.{Edge}
use Rattle.walk_core.specs.Listed.{IsAscending, IsAbove}
use Rattle.walk_core.specs.Packing.{place_from, key_from, answer_from, edge_of, edges_of}

-- ---- codes and upper parts

place_cases : (code : ℕ) → ((code ≡ 65535) × (place_from code ≡ 4294967295)) ⊎ ((code ≡ 65535 → ⊥) × (place_from code ≡ code))
place_cases code = elim (cases_eq code 65535) [
  | inl same ↦ inl (same, rw (eq-eqb code 65535 same) refl)
  | inr other ↦ inr (other, rw (ne_eqb code 65535 other) refl)
]

place_low : (code : ℕ) → code < 65536 → place_from code < 4294967296
place_low code low = elim (place_cases code) [
  | inl (same, is) ↦ omega (arith, is)
  | inr (other, is) ↦ omega (arith, is, low)
]

place_once : (a b : ℕ) → a < 65536 → b < 65536 → place_from a ≡ place_from b → a ≡ b
place_once a b low high e = elim (place_cases a) [
  | inl (same, is) ↦ elim (place_cases b) [
    | inl (same', is') ↦ omega (arith, same, same')
    | inr (other, is') ↦ absurd (omega (arith, is, is', e, high))
  ]
  | inr (other, is) ↦ elim (place_cases b) [
    | inl (same, is') ↦ absurd (omega (arith, is, is', e, low))
    | inr (other', is') ↦ omega (arith, is, is', e)
  ]
]

-- the parts of an edge's number
parts_once : (a b c d : ℕ) → b < 4294967296 → d < 4294967296 → a * 4294967296 + b ≡ c * 4294967296 + d → (a ≡ c) × (b ≡ d)
parts_once a b c d low high e = (omega (arith, low, high, e), omega (arith, low, high, e))

code_low : (head : ℕ) → head % 65536 < 65536
code_low head = omega arith

-- different upper parts are those of different edges
pub key_once : (g h : ℕ) → key_from g ≡ key_from h → g ≡ h
key_once g h e =
    let parts = parts_once (g / 65536) (place_from (g % 65536)) (h / 65536) (place_from (h % 65536)) (place_low (g % 65536) (code_low g)) (place_low (h % 65536) (code_low h)) e in
    let code : g % 65536 ≡ h % 65536 = place_once (g % 65536) (h % 65536) (code_low g) (code_low h) parts.1 in
    let node : g / 65536 ≡ h / 65536 = parts.0 in
    omega (arith, code, node)

-- ---- a look-up in the run

-- the upper part at the place is the one that is looked for
pub run_found : (run : List ℕ) (head place : ℕ) (d : ℕ) → ((j : ℕ) → j < place → get_or run j d / 16777216 < head) → place < length run → get_or run place d / 16777216 ≡ head →
    lookup (eqb (key_from head)) (edges_of run) ≡ Some (answer_from (get_or run place d % 16777216))
run_found [] head place d before below here = absurd (omega (arith, below))
run_found (f ∷ run) head zero d before below here = rw (eq-eqb (key_from head) (key_from (f / 16777216)) (ap key_from (sym here))) refl
run_found (f ∷ run) head (suc place) d before below here =
    let less : f / 16777216 < head = before 0 (omega arith) in
    let apart : key_from head ≡ key_from (f / 16777216) → ⊥ = λ e. omega (arith, less, key_once head (f / 16777216) e) in
    rw (ne_eqb (key_from head) (key_from (f / 16777216)) apart) (run_found run head place d (λ j low. before (suc j) (omega (arith, low))) (omega (arith, below)) here)

-- no upper part of the run is that of this edge
pub run_none : (run : List ℕ) (key : ℕ) (d : ℕ) → ((j : ℕ) → j < length run → key_from (get_or run j d / 16777216) ≡ key → ⊥) → lookup (eqb key) (edges_of run) ≡ None
run_none [] key d none = refl
run_none (f ∷ run) key d none =
    rw (ne_eqb key (key_from (f / 16777216)) (λ e. none 0 (omega arith) (sym e))) (run_none run key d (λ j low. none (suc j) (omega (arith, low))))

-- the place for the upper part is past the end, or holds another one
pub run_past : (run : List ℕ) (head place : ℕ) (d : ℕ) → IsAscending run → IsPartitionPoint (λ (e : ℕ). e / 16777216 < head) (λ (e : ℕ). head ≤ e / 16777216) run place →
    (place < length run → get_or run place d / 16777216 ≡ head → ⊥) → (j : ℕ) → j < length run → key_from (get_or run j d / 16777216) ≡ key_from head → ⊥
run_past run head place d rises point other j low same_key =
    let here : get_or run j d / 16777216 ≡ head = key_once _ head same_key in
    elim (cases_lt j place) [
      | inl before ↦ let less : get_or run j d / 16777216 < head = point.0 j d (omega arith) before in omega (arith, less, here)
      | inr after ↦
          let inside : place < length run = omega (arith, after, low) in
          let high : head ≤ get_or run place d / 16777216 = point.1 place d (omega arith) inside in
          elim (cases_eq j place) [
            | inl same ↦ other inside (rw same at here)
            | inr apart ↦
                let up : get_or run place d / 16777216 < get_or run j d / 16777216 = rises place j d (omega (arith, after, apart)) low in
                omega (arith, up, high, here)
          ]
    ]

pub before_point : (run : List ℕ) (head place : ℕ) (d : ℕ) → IsPartitionPoint (λ (e : ℕ). e / 16777216 < head) (λ (e : ℕ). head ≤ e / 16777216) run place →
    (j : ℕ) → j < place → get_or run j d / 16777216 < head
before_point run head place d point j low = point.0 j d (omega arith) low

pub point_above : (run : List ℕ) (head : ℕ) → IsAbove run head → IsPartitionPoint (λ (e : ℕ). e / 16777216 < head) (λ (e : ℕ). head ≤ e / 16777216) run (length run)
point_above run head above = (λ j d low high. above j d high, λ j d low high. absurd (omega (arith, low, high)))

pub point_from_heads : (run : List ℕ) (n i : ℕ) → IsPartitionPoint (λ (e : ℕ). nat_lt (e / 16777216) n ≡ true) (λ (e : ℕ). nat_lt (e / 16777216) n ≡ false) run i →
    IsPartitionPoint (λ (e : ℕ). e / 16777216 < n) (λ (e : ℕ). n ≤ e / 16777216) run i
point_from_heads run n i h = (λ k d low high. ltb-true (get_or run k d / 16777216) n (h.0 k d low high), λ k d low high. let no = h.1 k d low high in grind (arith, nat_tests))

pub not_falling : (run : List ℕ) → IsAscending run → IsNonDecreasingBy (λ (e : ℕ). e / 16777216) run
not_falling run rises i j d low below = elim (cases_eq i j) [
  | inl same ↦ rw same (omega arith)
  | inr apart ↦ let up : get_or run i d / 16777216 < get_or run j d / 16777216 = rises i j d (omega (arith, low, apart)) below in omega (arith, up)
]

-- ---- the end of the run

pub IsAbove-last : (run : List ℕ) (head : ℕ) → IsAscending run → 0 < length run → get_or run (length run - 1) 0 / 16777216 < head → IsAbove run head
IsAbove-last run head rises some less j d below =
    let top : length run - 1 < length run = omega (arith, some) in
    let end : get_or run (length run - 1) d ≡ get_or run (length run - 1) 0 = get_or_default run (length run - 1) d 0 top in
    elim (cases_eq j (length run - 1)) [
      | inl same ↦ rw (same, end) less
      | inr apart ↦
          let up : get_or run j d / 16777216 < get_or run (length run - 1) d / 16777216 = rises j (length run - 1) d (omega (arith, below, apart)) top in
          let up' : get_or run j d / 16777216 < get_or run (length run - 1) 0 / 16777216 = rw end at up in
          omega (arith, up', less)
    ]

-- the edges with one more at the end
pub edges_push : (run : List ℕ) (packed key : ℕ) (to : Option Node) → edge_of packed ≡ (key, to) → edges_of (run ++ packed ∷ []) ≡ edges_of run ++ (key, to) ∷ []
edges_push run packed key to is = map_push edge_of run packed ∙ ap {A = Edge} {B = List Edge} (λ (e : Edge). edges_of run ++ e ∷ []) is
