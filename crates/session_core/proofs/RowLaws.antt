-- Idle reads in a row, and reads that met an unfinished line.
use Rattle.std.proofs.Common.{◌≡◌, ℕ, ◌+◌, ◌-◌, ◌<◌, ◌≤◌, zero, suc, List, [], ◌∷◌, ◌++◌, length, map, replicate, ◌⊎◌, inl, inr, refl, ap, sym, ◌∙◌, arith, append_assoc}
use Rattle.std.proofs.lemmas.List.{append-nil, replicate_more, same_from_push, replicate-append-replicate}
use Rattle.std.proofs.lemmas.Bool.{cases_lt}
use Rattle.lts_base.proofs.ListLaws.{snoc_induction, snoc_cases}
use Rattle.session_core.specs.Told.{Told, Chosen, Line, Idle, IdleMid, TooLong, End, Sent}
use Rattle.session_core.specs.Table.{Rules}
use Rattle.session_core.specs.Reading.{Wait, Still, Partly, told_of, HasNoRow, EndsInRow, mid_after, mids_from, mids_since, HasFew}

-- how many idle reads stand in a row at the end
abbrev pub row_after : ℕ → Wait → ℕ
row_after n Still = n + 1
row_after n (Partly text) = 0

abbrev pub row_from : ℕ → List Wait → ℕ
row_from n [] = n
row_from n (w ∷ ws) = row_from (row_after n w) ws

pub row_join : (n : ℕ) (xs ys : List Wait) → row_from n (xs ++ ys) ≡ row_from (row_from n xs) ys
row_join n [] ys = refl
row_join n (x ∷ xs) ys = row_join (row_after n x) xs ys

pub row_still : (k n : ℕ) → row_from n (replicate k Still) ≡ n + k
row_still zero n = omega arith
row_still (suc k) n = row_still k (n + 1) ∙ (omega arith)

-- the waits end in their last row
pub ends_in : (ws : List Wait) → (before : List Wait) × (ws ≡ before ++ replicate (row_from 0 ws) Still)
ends_in ws = snoc_induction (λ xs. (before : List Wait) × (xs ≡ before ++ replicate (row_from 0 xs) Still)) ([], refl) step ws
  where
    step : (xs : List Wait) (x : Wait) → ((before : List Wait) × (xs ≡ before ++ replicate (row_from 0 xs) Still)) → (before : List Wait) × (xs ++ x ∷ [] ≡ before ++ replicate (row_from 0 (xs ++ x ∷ [])) Still)
    step xs Still (before, e) =
        let count : row_from 0 (xs ++ Still ∷ []) ≡ row_from 0 xs + 1 = row_join 0 xs (Still ∷ []) in
        (before, rw (count, ← replicate_more (row_from 0 xs) Still, ← append_assoc) (ap (λ (z : List Wait). z ++ Still ∷ []) e))
    step xs (Partly text) (before, e) =
        let count : row_from 0 (xs ++ Partly text ∷ []) ≡ 0 = row_join 0 xs (Partly text ∷ []) in
        (xs ++ Partly text ∷ [], rw (count, append-nil) refl)

-- a row at the end is within the last row
pub row_within : (ws before : List Wait) (n : ℕ) → ws ≡ before ++ replicate n Still → n ≤ row_from 0 ws
row_within ws before n e = rw (e, row_join 0 before (replicate n Still), row_still n (row_from 0 before)) (omega arith)

pub no_row_none : (n : ℕ) → 1 ≤ n → HasNoRow n []
no_row_none zero some before after e = omega (arith, some)
no_row_none (suc n) some [] after e = cc
no_row_none (suc n) some (b ∷ before) after e = cc

-- a row somewhere in the longer list stands at its end, or in the shorter one
pub row_push : (n : ℕ) (ws : List Wait) (w : Wait) (before after : List Wait) → HasNoRow n ws → ws ++ w ∷ [] ≡ before ++ replicate n Still ++ after → (after ≡ []) × (ws ++ w ∷ [] ≡ before ++ replicate n Still)
row_push n ws w before after none e = elim (snoc_cases after) [
  | inl empty ↦ (empty, rw (empty, append-nil) at e)
  | inr (front, last, whole) ↦
      let e' : ws ++ w ∷ [] ≡ (before ++ replicate n Still ++ front) ++ last ∷ [] = rw (whole, ← append_assoc) at e in
      let parts = same_from_push _ _ _ _ e' in
      absurd (none before front parts.0)
]

pub no_row_push : (n : ℕ) (ws : List Wait) (w : Wait) → HasNoRow n ws → row_from 0 (ws ++ w ∷ []) < n → HasNoRow n (ws ++ w ∷ [])
no_row_push n ws w none short before after e =
    let found = row_push n ws w before after none e in
    let long : n ≤ row_from 0 (ws ++ w ∷ []) = row_within (ws ++ w ∷ []) before n found.1 in
    omega (arith, short, long)

-- where no row is so long, the last one isn't
pub row_short : (n : ℕ) (ws : List Wait) → HasNoRow n ws → row_from 0 ws < n
row_short n ws none = elim (cases_lt (row_from 0 ws) n) [
  | inl less ↦ less
  | inr over ↦
      let last = ends_in ws in
      let parts : row_from 0 ws ≡ (row_from 0 ws - n) + n = omega (arith, over) in
      let whole : ws ≡ (last.0 ++ replicate (row_from 0 ws - n) Still) ++ replicate n Still ++ [] = rw (append-nil, append_assoc, replicate-append-replicate, ← parts) last.1 in
      absurd (none (last.0 ++ replicate (row_from 0 ws - n) Still) [] whole)
]

pub row_ends : (n : ℕ) (ws : List Wait) → HasNoRow n ws → row_from 0 ws + 1 ≡ n → EndsInRow n (ws ++ Still ∷ [])
row_ends n ws none count =
    let last = ends_in (ws ++ Still ∷ []) in
    let long : row_from 0 (ws ++ Still ∷ []) ≡ n = row_join 0 ws (Still ∷ []) ∙ count in
    ((last.0, rw long at last.1), λ before after e. (row_push n ws Still before after none e).0)

pub mids_join : (n : ℕ) (xs ys : List Told) → mids_from n (xs ++ ys) ≡ mids_from (mids_from n xs) ys
mids_join n [] ys = refl
mids_join n (x ∷ xs) ys = mids_join (mid_after n x) xs ys

pub mids_push : (es : List Told) (e : Told) → mids_since (es ++ e ∷ []) ≡ mid_after (mids_since es) e
mids_push es e = mids_join 0 es (e ∷ [])

pub few_none : (r : Rules) → 1 ≤ r.patience → HasFew r []
few_none r some [] after e = omega (arith, some)
few_none r some (b ∷ before) after e = cc

pub few_whole : (r : Rules) (es : List Told) → HasFew r es → mids_since es < r.patience
few_whole r es few = few es [] (rw append-nil refl)

pub few_push : (r : Rules) (es : List Told) (e : Told) → HasFew r es → mids_since (es ++ e ∷ []) < r.patience → HasFew r (es ++ e ∷ [])
few_push r es e few short before after is = elim (snoc_cases after) [
  | inl empty ↦ let whole : es ++ e ∷ [] ≡ before = rw (empty, append-nil) at is in rw whole at short
  | inr (front, last, whole) ↦
      let is' : es ++ e ∷ [] ≡ (before ++ front) ++ last ∷ [] = rw (whole, ← append_assoc) at is in
      few before front (same_from_push _ _ _ _ is').0
]
