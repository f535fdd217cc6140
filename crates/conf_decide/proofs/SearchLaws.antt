-- The search by breadth over plain lists: every trace that counts is found or lies ahead; from this follow the first pairs,
-- the first violation, conformance and the list of all reached pairs.
use Rattle.std.proofs.Common.{ℕ, ◌+◌, ◌<◌, ◌≤◌, ◌≡◌, List, [], ◌∷◌, ◌++◌, length, get_or, refl, ap, ◌∙◌, inl, inr, ◌⊎◌, arith}
use Rattle.std.specs.Prelude.{Contains}
use Rattle.std.proofs.lemmas.Bool.{cases_lt}
use Rattle.std.proofs.lemmas.List.{length_push, get_or_push, get_or_append_left, get_or_default}
use Rattle.std.proofs.lemmas.List.Elements.{Contains-push, Contains-append_left, Contains-get_or, All-contains, All-weaker}
use Rattle.lts_base.specs.declared.item.Item.{Item}
use Rattle.lts_base.specs.declared.item.Item.TheVariants.{Input, Output, Delta}
use Rattle.lts_base.specs.declared.item.Mode.{Mode}
use Rattle.lts_base.specs.System.{System, IsSystem, IsItemOf, label_count}
use Rattle.lts_base.specs.Path.{Ends, Has}
use Rattle.lts_base.specs.After.{IsSetAfter}
use Rattle.lts_base.specs.Conformance.{IsAllowed, IsViolation, IsConforming}
use Rattle.lts_base.specs.Order.{place, IsBefore, IsAtMost}
use Rattle.lts_base.specs.Reached.{Row, no_row, row_at, trace_at, IsReachedBy, IsLeastOf, AreFirstPairs, AreReachedPairs, IsFine}
use Rattle.lts_base.specs.Related.{IsClosedAt, IsValid}
use Rattle.lts_base.proofs.Leads.{Leads-split, Leads-append, Leads-here}
use Rattle.lts_base.proofs.ListLaws.{snoc_induction}
use Rattle.lts_base.proofs.OrderLaws.{IsBefore-push, IsBefore-last, IsBefore-longer, IsBefore-trans, IsBefore-at_most, IsAtMost-before, IsAtMost-trans, IsAtMost-push}
use Rattle.lts_base.proofs.SetLaws.{IsSetAfter-unique, IsSetAfter-next, Has-from_set, Has-front, Has-item, ShowsAfter-from_shows, Shows-from_after}
use Rattle.lts_base.proofs.AllowedLaws.{IsAllowed-nil, IsAllowed-has, IsAllowed-front, IsAllowed-last, IsAllowed-push}
use Rattle.conf_decide.specs.Progress.{IsDone, IsClosed, IsSearch}

-- ---- what two traces with the same set share

Ends-same : (s : System) (σ τ : List Item) (x : Item) (ps : List ℕ) → IsSetAfter s σ ps → IsSetAfter s τ ps → (q : ℕ) → Ends s (σ ++ x ∷ []) q → Ends s (τ ++ x ∷ []) q
Ends-same s σ τ x ps from to q (steps, on, e) =
    let (r, before, after) = Leads-split s σ (x ∷ []) steps s.start q on e in
    Leads-append s s.start r q τ (x ∷ []) (All-contains (Ends s τ) ps r to.each (from.all r before)) after

Has-same : (s : System) (σ τ : List Item) (x : Item) (ps : List ℕ) → IsSetAfter s σ ps → IsSetAfter s τ ps → Has s (σ ++ x ∷ []) → Has s (τ ++ x ∷ [])
Has-same s σ τ x ps from to (q, ends) = (q, Ends-same s σ τ x ps from to q ends)

IsSetAfter-same : (s : System) (σ τ : List Item) (x : Item) (ps qs : List ℕ) → IsSetAfter s σ ps → IsSetAfter s τ ps → IsSetAfter s (σ ++ x ∷ []) qs → IsSetAfter s (τ ++ x ∷ []) qs
IsSetAfter-same s σ τ x ps qs from to set =
    record {
      rising = set.rising;
      each = All-weaker (Ends s (σ ++ x ∷ [])) (Ends s (τ ++ x ∷ [])) (λ q h. Ends-same s σ τ x ps from to q h) qs set.each;
      all = λ q h. set.all q (Ends-same s τ σ x ps to from q h);
    }

pub reached_unique : (mode : Mode) (i s : System) (σ : List Item) (a b : Row) → IsReachedBy mode i s σ a → IsReachedBy mode i s σ b → a ≡ b
reached_unique mode i s σ a b f g =
    ap {A = List ℕ} {B = Row} (λ l. record { left = l; right = a.right }) (IsSetAfter-unique i σ a.left b.left f.left g.left)
    ∙ ap {A = List ℕ} {B = Row} (λ r. record { left = b.left; right = r }) (IsSetAfter-unique s σ a.right b.right f.right g.right)

-- ---- places of items

pub place_injective : (s : System) (x y : Item) → IsItemOf s x → IsItemOf s y → place (label_count s) x ≡ place (label_count s) y → x ≡ y
place_injective s (Input a) (Input b) f g e = ap Input e
place_injective s (Input a) (Output b) f g e = absurd (omega (arith, f, g.0, e))
place_injective s (Input a) Delta f g e = absurd (omega (arith, f, e))
place_injective s (Output a) (Input b) f g e = absurd (omega (arith, f.0, g, e))
place_injective s (Output a) (Output b) f g e = ap Output e
place_injective s (Output a) Delta f g e = absurd (omega (arith, f.1, e))
place_injective s Delta (Input b) f g e = absurd (omega (arith, g, e))
place_injective s Delta (Output b) f g e = absurd (omega (arith, g.1, e))
place_injective s Delta Delta f g e = refl

pub place_below : (s : System) (x : Item) → IsItemOf s x → place (label_count s) x < label_count s + 1
place_below s (Input a) f = omega (arith, f)
place_below s (Output a) f = omega (arith, f.1)
place_below s Delta f = omega arith

-- ---- what has been looked at and what is left

abbrev IsLeft : ℕ → ℕ → ℕ → ℕ → Item → Type 0
IsLeft n at p m x = (at < m) ⊎ ((m ≡ at) × (p ≤ place n x))

done_cases : (n at p m : ℕ) (x : Item) → IsDone n at p m x ⊎ IsLeft n at p m x
done_cases n at p m x =
    elim (cases_lt m at) [
      | inl less ↦ inl (inl less)
      | inr most ↦
          elim (cases_lt at m) [
            | inl more ↦ inr (inl more)
            | inr least ↦
                let same : m ≡ at = omega (arith, most, least) in
                elim (cases_lt (place n x) p) [
                  | inl before ↦ inl (inr (same, before))
                  | inr after ↦ inr (inr (same, after))
                ]
          ]
    ]

-- some row is reached by the trace, and found at it or before
abbrev IsFound : Mode → System → System → List Row → List (List Item) → List Item → Type 0
IsFound mode i s rows ts σ = (k : ℕ) × (k < length rows) × IsReachedBy mode i s σ (row_at rows k) × IsAtMost (label_count s) (trace_at ts k) σ

-- some item that has not been looked at leads to the trace or before it
abbrev IsAhead : System → List Row → List (List Item) → ℕ → ℕ → List Item → Type 0
IsAhead s rows ts at p σ = (m : ℕ) × (x : Item) × (m < length rows) × IsItemOf s x × IsLeft (label_count s) at p m x × IsAtMost (label_count s) (trace_at ts m ++ x ∷ []) σ

-- every trace that counts is found or lies ahead
search_reaches : (mode : Mode) (i s : System) (rows : List Row) (ts : List (List Item)) (at p : ℕ) → IsSystem s → IsSearch mode i s rows ts at p →
    (σ : List Item) → IsAllowed mode s σ → Has i σ → IsFound mode i s rows ts σ ⊎ IsAhead s rows ts at p σ
search_reaches mode i s rows ts at p system run = snoc_induction (λ σ. IsAllowed mode s σ → Has i σ → IsFound mode i s rows ts σ ⊎ IsAhead s rows ts at p σ) none push
  where
    n : ℕ
    n = label_count s

    none : IsAllowed mode s [] → Has i [] → IsFound mode i s rows ts [] ⊎ IsAhead s rows ts at p []
    none allowed has = inl (0, run.some, rw run.opening at (run.first.least 0 run.some).reached, inl run.opening)

    found : (σ : List Item) (x : Item) → IsAllowed mode s (σ ++ x ∷ []) → Has i (σ ++ x ∷ []) → IsFound mode i s rows ts σ → IsFound mode i s rows ts (σ ++ x ∷ []) ⊎ IsAhead s rows ts at p (σ ++ x ∷ [])
    found σ x allowed has (k, below, by, least) =
        let here = (run.first.least k below).reached in
        let allows = IsAllowed-last mode s σ x (row_at rows k).right system by.right allowed in
        let item = Has-item s σ x system (IsAllowed-has mode s (σ ++ x ∷ []) allowed) in
        let can = Has-same i σ (trace_at ts k) x (row_at rows k).left by.left here.left has in
        elim (done_cases (label_count s) at p k x) [
          | inl done ↦
              let (j, within, to, less) = run.closed k x below done item allows can in
              inl (
                j,
                within,
                record {
                  allowed = allowed;
                  has = has;
                  left = IsSetAfter-same i (trace_at ts k) σ x (row_at rows k).left (row_at rows j).left here.left by.left to.left;
                  right = IsSetAfter-same s (trace_at ts k) σ x (row_at rows k).right (row_at rows j).right here.right by.right to.right;
                },
                IsAtMost-trans _ _ _ _ less (IsAtMost-push _ _ _ x least),
              )
          | inr left ↦ inr (k, x, below, item, left, IsAtMost-push _ _ _ x least)
        ]

    push : (σ : List Item) (x : Item) → (IsAllowed mode s σ → Has i σ → IsFound mode i s rows ts σ ⊎ IsAhead s rows ts at p σ) → IsAllowed mode s (σ ++ x ∷ []) → Has i (σ ++ x ∷ []) → IsFound mode i s rows ts (σ ++ x ∷ []) ⊎ IsAhead s rows ts at p (σ ++ x ∷ [])
    push σ x before allowed has =
        elim (before (IsAllowed-front mode s σ x allowed) (Has-front i σ x has)) [
          | inl f ↦ found σ x allowed has f
          | inr (m, y, below, item, left, less) ↦ inr (m, y, below, item, left, inr (IsAtMost-before _ _ _ _ less (IsBefore-longer _ σ x)))
        ]

-- ---- one row more

pub by_rows : (Q : List Item → Row → Type 0) (rows : List Row) (ts : List (List Item)) (row : Row) (τ : List Item) → length ts ≡ length rows →
    ((k : ℕ) → k < length rows → Q (trace_at ts k) (row_at rows k)) → Q τ row →
    (k : ℕ) → k < length (rows ++ row ∷ []) → Q (trace_at (ts ++ τ ∷ []) k) (row_at (rows ++ row ∷ []) k)
by_rows Q rows ts row τ long old new k below =
    elim (cases_lt k (length rows)) [
      | inl less ↦
          let less' : k < length ts = rw long less in
          rw (get_or_append_left rows (row ∷ []) no_row k less, get_or_append_left ts (τ ∷ []) [] k less') (old k less)
      | inr most ↦
          let last : length rows ≡ k = omega (arith, most, rw (length_push rows row) at below) in
          rw (get_or_push rows row no_row k last, get_or_push ts τ [] k (long ∙ last)) new
    ]

-- what lies ahead lies at the trace at hand or after it
ahead_least : (mode : Mode) (i s : System) (rows : List Row) (ts : List (List Item)) (at p : ℕ) (x : Item) → IsSearch mode i s rows ts at p →
    IsItemOf s x → place (label_count s) x ≡ p → (σ : List Item) → IsAhead s rows ts at p σ → IsAtMost (label_count s) (trace_at ts at ++ x ∷ []) σ
ahead_least mode i s rows ts at p x run item here σ (m, y, below, other, inl more, less) =
    inr (IsBefore-at_most _ _ _ _ (IsBefore-push _ _ _ x y (run.first.rising at m more below)) less)
ahead_least mode i s rows ts at p x run item here σ (m, y, below, other, inr (same, after), less) =
    elim (cases_lt (place (label_count s) x) (place (label_count s) y)) [
      | inl before ↦ inr (IsBefore-at_most _ _ _ _ (IsBefore-last _ (trace_at ts at) x y before) (rw same at less))
      | inr most ↦
          let e : y ≡ x = place_injective s y x other item (omega (arith, most, after, here)) in
          rw (same, e) at less
    ]

-- all traces so far are before the trace at hand
pub all_before : (mode : Mode) (i s : System) (rows : List Row) (ts : List (List Item)) (at p : ℕ) (x : Item) → IsSearch mode i s rows ts at p →
    at < length rows → place (label_count s) x ≡ p → (j : ℕ) → j < length rows → IsBefore (label_count s) (trace_at ts j) (trace_at ts at ++ x ∷ [])
all_before mode i s rows ts at p x run within here j below =
    elim (cases_lt 0 j) [
      | inr first ↦
          let none : j ≡ 0 = omega (arith, first) in
          rw (none, run.opening) (inl (rw (length_push (trace_at ts at) x) (omega arith)))
      | inl some ↦
          let (m, y, done, e) = run.made j some below in
          rw e (elim done [
            | inl less ↦ IsBefore-push _ _ _ y x (run.first.rising m at less within)
            | inr (same, less) ↦ rw same (IsBefore-last _ (trace_at ts at) y x (rw here less))
          ])
    ]

pub first_push : (mode : Mode) (i s : System) (rows : List Row) (ts : List (List Item)) (at p : ℕ) (x : Item) (row : Row) → IsSystem s → IsSearch mode i s rows ts at p →
    at < length rows → IsItemOf s x → place (label_count s) x ≡ p → IsReachedBy mode i s (trace_at ts at ++ x ∷ []) row → (Contains rows row → ⊥) →
    AreFirstPairs mode i s (rows ++ row ∷ []) (ts ++ (trace_at ts at ++ x ∷ []) ∷ [])
first_push mode i s rows ts at p x row system run within item here reached new =
    record {
      long = rw (length_push ts (trace_at ts at ++ x ∷ []), length_push rows row) (ap (λ k. k + 1) run.first.long);
      least = by_rows (λ τ r. IsLeastOf mode i s τ r) rows ts row (trace_at ts at ++ x ∷ []) run.first.long run.first.least (record { reached = reached; least = least });
      rising = rising;
      others = others;
    }
  where
    known : (σ : List Item) (other : Row) → IsReachedBy mode i s σ other → IsFound mode i s rows ts σ → Contains rows other
    known σ other by (k, below, there, less) =
        let same : row_at rows k ≡ other = reached_unique mode i s σ _ _ there by in
        rw same at (Contains-get_or rows k no_row below)

    least : (τ : List Item) → IsReachedBy mode i s τ row → IsAtMost (label_count s) (trace_at ts at ++ x ∷ []) τ
    least τ by =
        elim (search_reaches mode i s rows ts at p system run τ by.allowed by.has) [
          | inl found ↦ absurd (new (known τ row by found))
          | inr ahead ↦ ahead_least mode i s rows ts at p x run item here τ ahead
        ]

    rising : (j k : ℕ) → j < k → k < length (rows ++ row ∷ []) → IsBefore (label_count s) (trace_at (ts ++ (trace_at ts at ++ x ∷ []) ∷ []) j) (trace_at (ts ++ (trace_at ts at ++ x ∷ []) ∷ []) k)
    rising j k less below =
        elim (cases_lt k (length rows)) [
          | inl old ↦
              rw (get_or_append_left ts ((trace_at ts at ++ x ∷ []) ∷ []) [] k (rw run.first.long old), get_or_append_left ts ((trace_at ts at ++ x ∷ []) ∷ []) [] j (rw run.first.long (omega (arith, old, less))))
              (run.first.rising j k less old)
          | inr most ↦
              let last : length rows ≡ k = omega (arith, most, rw (length_push rows row) at below) in
              let old : j < length rows = omega (arith, last, less) in
              rw (get_or_push ts (trace_at ts at ++ x ∷ []) [] k (run.first.long ∙ last), get_or_append_left ts ((trace_at ts at ++ x ∷ []) ∷ []) [] j (rw run.first.long old))
              (all_before mode i s rows ts at p x run within here j old)
        ]

    after : (σ : List Item) → IsBefore (label_count s) (trace_at ts at ++ x ∷ []) σ → (k : ℕ) → k < length (rows ++ row ∷ []) → IsBefore (label_count s) (trace_at (ts ++ (trace_at ts at ++ x ∷ []) ∷ []) k) σ
    after σ less = by_rows (λ τ r. IsBefore (label_count s) τ σ) rows ts row (trace_at ts at ++ x ∷ []) run.first.long
        (λ k below. IsBefore-trans _ _ _ _ (all_before mode i s rows ts at p x run within here k below) less) less

    others : (σ : List Item) (other : Row) → IsReachedBy mode i s σ other →
        Contains (rows ++ row ∷ []) other ⊎ ((k : ℕ) → k < length (rows ++ row ∷ []) → IsBefore (label_count s) (trace_at (ts ++ (trace_at ts at ++ x ∷ []) ∷ []) k) σ)
    others σ other by =
        elim (search_reaches mode i s rows ts at p system run σ by.allowed by.has) [
          | inl found ↦ inl (Contains-append_left rows (row ∷ []) other (known σ other by found))
          | inr ahead ↦
              elim (ahead_least mode i s rows ts at p x run item here σ ahead) [
                | inl same ↦
                    let e : row ≡ other = reached_unique mode i s σ _ _ (rw same at reached) by in
                    inl (rw (← e) (Contains-push rows row))
                | inr less ↦ inr (after σ less)
              ]
        ]

-- no violation has a trace before the one at hand
no_found_violation : (mode : Mode) (i s : System) (rows : List Row) (ts : List (List Item)) (at p : ℕ) → IsSearch mode i s rows ts at p →
    (τ : List Item) (y : Item) → IsViolation mode i s τ y → IsFound mode i s rows ts τ → ⊥
no_found_violation mode i s rows ts at p run τ y bad (k, below, by, less) =
    bad.unshown (ShowsAfter-from_shows s τ (row_at rows k).right y by.right (run.fine k below y (Shows-from_after i τ (row_at rows k).left y by.left bad.shown)))

pub nothing_before : (mode : Mode) (i s : System) (rows : List Row) (ts : List (List Item)) (at p : ℕ) (x : Item) → IsSystem s → IsSearch mode i s rows ts at p →
    IsItemOf s x → place (label_count s) x ≡ p → (τ : List Item) (y : Item) → IsViolation mode i s τ y → IsAtMost (label_count s) (trace_at ts at ++ x ∷ []) τ
nothing_before mode i s rows ts at p x system run item here τ y bad =
    elim (search_reaches mode i s rows ts at p system run τ bad.allowed (bad.shown.0, bad.shown.1)) [
      | inl found ↦ absurd (no_found_violation mode i s rows ts at p run τ y bad found)
      | inr ahead ↦ ahead_least mode i s rows ts at p x run item here τ ahead
    ]

-- ---- the search's steps

closed_keeps : (mode : Mode) (i s : System) (rows : List Row) (ts : List (List Item)) (m : ℕ) (y : Item) (row : Row) (τ : List Item) → length ts ≡ length rows → m < length rows →
    IsClosed mode i s rows ts m y → IsClosed mode i s (rows ++ row ∷ []) (ts ++ τ ∷ []) m y
closed_keeps mode i s rows ts m y row τ long below closed =
    rw (get_or_append_left rows (row ∷ []) no_row m below, get_or_append_left ts (τ ∷ []) [] m (rw long below)) (λ item allows has.
    let (k, within, by, less) = closed item allows has in (
      k,
      rw (length_push rows row) (omega (arith, within)),
      rw (get_or_append_left rows (row ∷ []) no_row k within) by,
      rw (get_or_append_left ts (τ ∷ []) [] k (rw long within)) less,
    ))

pub nil_least : (n : ℕ) (τ : List Item) → IsAtMost n [] τ
nil_least n [] = inl refl
nil_least n (x ∷ τ) = inr (inl (omega arith))

-- the opening pair alone
pub first_none : (mode : Mode) (i s : System) (row : Row) → IsSetAfter i [] row.left → IsSetAfter s [] row.right → AreFirstPairs mode i s (row ∷ []) ([] ∷ [])
first_none mode i s row left right =
    record {
      long = refl;
      least = λ k below. least k (omega (arith, below));
      rising = λ j k less below. absurd (omega (arith, less, below));
      others = others;
    }
  where
    least : (k : ℕ) → k ≡ 0 → IsLeastOf mode i s (trace_at ([] ∷ []) k) (row_at (row ∷ []) k)
    least k e = rw e (record {
      reached = record { allowed = IsAllowed-nil mode s; has = (i.start, Leads-here i i.start); left = left; right = right };
      least = λ τ by. nil_least (label_count s) τ;
    })

    others : (σ : List Item) (other : Row) → IsReachedBy mode i s σ other → Contains (row ∷ []) other ⊎ ((k : ℕ) → k < length (row ∷ []) → IsBefore (label_count s) (trace_at ([] ∷ []) k) σ)
    others [] other by =
        let e : row ≡ other = reached_unique mode i s [] row other (record { allowed = by.allowed; has = by.has; left = left; right = right }) by in
        inl (rw (← e) (Contains-push [] row))
    others (x ∷ σ) other by = inr (λ k below. let e : k ≡ 0 = omega (arith, below) in rw e (inl (omega arith)))

pub search_none : (mode : Mode) (i s : System) (row : Row) → IsSetAfter i [] row.left → IsSetAfter s [] row.right → IsFine i s row → IsSearch mode i s (row ∷ []) ([] ∷ []) 0 0
search_none mode i s row left right fine =
    record {
      first = first_none mode i s row left right;
      some = omega arith;
      opening = refl;
      fine = λ k below. let e : k ≡ 0 = omega (arith, below) in rw e fine;
      made = λ k some below. absurd (omega (arith, some, below));
      closed = λ m x below done. elim done [ inl less ↦ absurd (omega (arith, less)) | inr (e, less) ↦ absurd (omega (arith, less)) ];
    }

done_more : (n at p m : ℕ) (y : Item) → IsDone n at p m y → IsDone n at (p + 1) m y
done_more n at p m y (inl less) = inl less
done_more n at p m y (inr (e, less)) = inr (e, omega (arith, less))

done_next : (n at p m : ℕ) (y : Item) → IsDone n at p m y → IsDone n (at + 1) 0 m y
done_next n at p m y (inl less) = inl (omega (arith, less))
done_next n at p m y (inr (e, less)) = inl (omega (arith, e))

-- what is done after one item more: it was done, or it is the item
done_one : (s : System) (at p m : ℕ) (x y : Item) → IsItemOf s x → IsItemOf s y → place (label_count s) x ≡ p → IsDone (label_count s) at (p + 1) m y → IsDone (label_count s) at p m y ⊎ ((m ≡ at) × (y ≡ x))
done_one s at p m x y item other here (inl less) = inl (inl less)
done_one s at p m x y item other here (inr (e, less)) =
    elim (cases_lt (place (label_count s) y) p) [
      | inl before ↦ inl (inr (e, before))
      | inr after ↦ inr (e, place_injective s y x other item (omega (arith, after, less, here)))
    ]

-- the item leads to nothing new
pub search_item : (mode : Mode) (i s : System) (rows : List Row) (ts : List (List Item)) (at p : ℕ) (x : Item) → IsSearch mode i s rows ts at p →
    IsItemOf s x → place (label_count s) x ≡ p → IsClosed mode i s rows ts at x → IsSearch mode i s rows ts at (p + 1)
search_item mode i s rows ts at p x run item here new =
    record {
      first = run.first;
      some = run.some;
      opening = run.opening;
      fine = run.fine;
      made = λ k some below. let (m, y, done, e) = run.made k some below in (m, y, done_more _ at p m y done, e);
      closed = closed;
    }
  where
    closed : (m : ℕ) (y : Item) → m < length rows → IsDone (label_count s) at (p + 1) m y → IsClosed mode i s rows ts m y
    closed m y below done other =
        elim (done_one s at p m x y item other here done) [
          | inl old ↦ run.closed m y below old other
          | inr (e, same) ↦ rw (e, same) (new item)
        ]

-- the item leads to a new row, which is fine
pub search_push : (mode : Mode) (i s : System) (rows : List Row) (ts : List (List Item)) (at p : ℕ) (x : Item) (row : Row) → IsSystem s → IsSearch mode i s rows ts at p →
    at < length rows → IsItemOf s x → place (label_count s) x ≡ p → IsReachedBy mode i s (trace_at ts at ++ x ∷ []) row → (Contains rows row → ⊥) → IsFine i s row →
    IsSearch mode i s (rows ++ row ∷ []) (ts ++ (trace_at ts at ++ x ∷ []) ∷ []) at (p + 1)
search_push mode i s rows ts at p x row system run within item here reached new fine =
    record {
      first = first_push mode i s rows ts at p x row system run within item here reached new;
      some = rw (length_push rows row) (omega arith);
      opening = rw (get_or_append_left ts (newest ∷ []) [] 0 (rw run.first.long run.some)) run.opening;
      fine = by_rows (λ τ r. IsFine i s r) rows ts row newest run.first.long run.fine fine;
      made = made;
      closed = closed;
    }
  where
    newest : List Item
    newest = trace_at ts at ++ x ∷ []

    long : (k : ℕ) → k < length rows → k < length ts
    long k below = rw run.first.long below

    keeps : (k : ℕ) → k < length rows → trace_at (ts ++ (trace_at ts at ++ x ∷ []) ∷ []) k ≡ trace_at ts k
    keeps k below = get_or_append_left ts ((trace_at ts at ++ x ∷ []) ∷ []) [] k (long k below)

    made : (k : ℕ) → 0 < k → k < length (rows ++ row ∷ []) →
        (m : ℕ) × (y : Item) × IsDone (label_count s) at (p + 1) m y × (trace_at (ts ++ (trace_at ts at ++ x ∷ []) ∷ []) k ≡ trace_at (ts ++ (trace_at ts at ++ x ∷ []) ∷ []) m ++ y ∷ [])
    made k some below =
        elim (cases_lt k (length rows)) [
          | inl old ↦
              let (m, y, done, e) = run.made k some old in
              let before : m < length rows = elim done [ inl less ↦ omega (arith, less, within) | inr (same, less) ↦ omega (arith, same, within) ] in
              (m, y, done_more _ at p m y done, rw (keeps k old, keeps m before) e)
          | inr most ↦
              let last : length rows ≡ k = omega (arith, most, rw (length_push rows row) at below) in
              (at, x, inr (refl, omega (arith, here)), rw (keeps at within) (get_or_push ts (trace_at ts at ++ x ∷ []) [] k (run.first.long ∙ last)))
        ]

    here_now : IsClosed mode i s (rows ++ row ∷ []) (ts ++ (trace_at ts at ++ x ∷ []) ∷ []) at x
    here_now other allows has = (
      length rows,
      rw (length_push rows row) (omega arith),
      rw (keeps at within, get_or_push rows row no_row (length rows) refl) reached,
      inl (rw (keeps at within) (get_or_push ts (trace_at ts at ++ x ∷ []) [] (length rows) run.first.long)),
    )

    closed : (m : ℕ) (y : Item) → m < length (rows ++ row ∷ []) → IsDone (label_count s) at (p + 1) m y → IsClosed mode i s (rows ++ row ∷ []) (ts ++ (trace_at ts at ++ x ∷ []) ∷ []) m y
    closed m y below done other =
        let before : m < length rows = elim done [ inl less ↦ omega (arith, less, within) | inr (same, less) ↦ omega (arith, same, within) ] in
        elim (done_one s at p m x y item other here done) [
          | inl old ↦ closed_keeps mode i s rows ts m y row (trace_at ts at ++ x ∷ []) run.first.long before (run.closed m y before old) other
          | inr (e, same) ↦ rw (e, same) (here_now item)
        ]

-- all items of the row have been looked at
pub search_row : (mode : Mode) (i s : System) (rows : List Row) (ts : List (List Item)) (at p : ℕ) → IsSearch mode i s rows ts at p →
    label_count s + 1 ≤ p → IsSearch mode i s rows ts (at + 1) 0
search_row mode i s rows ts at p run over =
    record {
      first = run.first;
      some = run.some;
      opening = run.opening;
      fine = run.fine;
      made = λ k some below. let (m, y, done, e) = run.made k some below in (m, y, done_next _ at p m y done, e);
      closed = closed;
    }
  where
    closed : (m : ℕ) (y : Item) → m < length rows → IsDone (label_count s) (at + 1) 0 m y → IsClosed mode i s rows ts m y
    closed m y below (inl less) other =
        elim (cases_lt m at) [
          | inl before ↦ run.closed m y below (inl before) other
          | inr after ↦ run.closed m y below (inr (omega (arith, less, after), omega (arith, place_below s y other, over))) other
        ]
    closed m y below (inr (e, less)) other = absurd (omega (arith, less))

-- ---- the search is over

all_found : (mode : Mode) (i s : System) (rows : List Row) (ts : List (List Item)) (at p : ℕ) → IsSystem s → IsSearch mode i s rows ts at p → length rows ≤ at →
    (σ : List Item) → IsAllowed mode s σ → Has i σ → IsFound mode i s rows ts σ
all_found mode i s rows ts at p system run over σ allowed has =
    elim (search_reaches mode i s rows ts at p system run σ allowed has) [
      | inl found ↦ found
      | inr (m, y, below, item, left, less) ↦ elim left [ inl more ↦ absurd (omega (arith, more, below, over)) | inr (same, after) ↦ absurd (omega (arith, same, below, over)) ]
    ]

pub no_violation : (mode : Mode) (i s : System) (rows : List Row) (ts : List (List Item)) (at p : ℕ) → IsSystem s → IsSearch mode i s rows ts at p → length rows ≤ at → IsConforming mode i s
no_violation mode i s rows ts at p system run over σ x bad =
    no_found_violation mode i s rows ts at p run σ x bad (all_found mode i s rows ts at p system run over σ bad.allowed (bad.shown.0, bad.shown.1))

pub reached_pairs : (mode : Mode) (i s : System) (rows : List Row) (ts : List (List Item)) (at p : ℕ) → IsSystem s → IsSearch mode i s rows ts at p → length rows ≤ at → AreReachedPairs mode i s rows ts
reached_pairs mode i s rows ts at p system run over = record { first = run.first; all = all }
  where
    all : (σ : List Item) (row : Row) → IsReachedBy mode i s σ row → Contains rows row
    all σ row by =
        let (k, below, there, less) = all_found mode i s rows ts at p system run over σ by.allowed by.has in
        rw (reached_unique mode i s σ _ _ there by) at (Contains-get_or rows k no_row below)

some_or_none : (xs : List ℕ) → (xs ≡ []) ⊎ (0 < length xs)
some_or_none [] = inl refl
some_or_none (x ∷ xs) = inr (omega arith)

-- the reached pairs are a valid relation
pub valid_pairs : (mode : Mode) (i s : System) (rows : List Row) (ts : List (List Item)) (at p : ℕ) → IsSystem s → IsSearch mode i s rows ts at p → length rows ≤ at → IsValid mode i s rows
valid_pairs mode i s rows ts at p system run over =
    record {
      opening = λ left right from to. (reached_pairs mode i s rows ts at p system run over).all [] _ (record { allowed = IsAllowed-nil mode s; has = (i.start, Leads-here i i.start); left = from; right = to });
      fine = λ row (k, below, e). fine row k below (at_place row k below e);
      closed = λ row (k, below, e). closed row k below (at_place row k below e);
    }
  where
    at_place : (row : Row) (k : ℕ) → k < length rows → get_or rows k row ≡ row → row_at rows k ≡ row
    at_place row k below e = get_or_default rows k no_row row below ∙ e

    fine : (row : Row) (k : ℕ) → k < length rows → row_at rows k ≡ row → IsFine i s row
    fine row k below e = rw e at (run.fine k below)

    closed : (row : Row) (k : ℕ) → k < length rows → row_at rows k ≡ row → IsClosedAt mode i s rows row
    closed row k below e x item allows left right from to =
        let by = rw e at (run.first.least k below).reached in
        let after : IsSetAfter i (trace_at ts k ++ x ∷ []) left = IsSetAfter-next i x (trace_at ts k) row.left left by.left from in
        elim (some_or_none left) [
          | inl none ↦ inl none
          | inr some ↦ inr ((reached_pairs mode i s rows ts at p system run over).all (trace_at ts k ++ x ∷ []) _ (record {
            allowed = IsAllowed-push mode s (trace_at ts k) x row.right system item by.right by.allowed allows;
            has = Has-from_set i (trace_at ts k ++ x ∷ []) left after some;
            left = after;
            right = IsSetAfter-next s x (trace_at ts k) row.right right by.right to;
          }))
        ]
