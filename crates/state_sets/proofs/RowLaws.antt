-- Laws on rows of words that stand in one list.
use Rattle.std.proofs.Common.{◌≡◌, ℕ, zero, suc, ◌+◌, ◌*◌, ◌<◌, ◌≤◌, List, [], ◌∷◌, ◌++◌, length, get_or, take, drop, refl, sym, ◌∙◌, ap, ap₂, arith}
use Rattle.std.proofs.lemmas.List.{take-append-le, drop-append-le, length-append, length-drop, drop-drop, append-nil}
use Rattle.std.proofs.Math.Nat.{mul-le-mul_right, mul-le-mul_left}
use Rattle.std.proofs.Math.Seq.{take-length}
use Rattle.std.proofs.Math.ListN.{drop_of_length-le}
use Rattle.state_sets.specs.Rows.{rows_of, IsLaidOut}

pub length_rows : (width count : ℕ) (words : List ℕ) → length (rows_of width count words) ≡ count
length_rows width zero words = refl
length_rows width (suc n) words = ap suc (length_rows width n (drop width words))

-- where a row stands
pub rows_at : (width count : ℕ) (words : List ℕ) (k : ℕ) → k < count → get_or (rows_of width count words) k [] ≡ take width (drop (k * width) words)
rows_at width zero words k below = absurd (omega (arith, below))
rows_at width (suc n) words zero below = let e : 0 * width ≡ 0 = omega arith in rw e refl
rows_at width (suc n) words (suc k) below =
    let rest : get_or (rows_of width n (drop width words)) k [] ≡ take width (drop (k * width) (drop width words)) = rows_at width n (drop width words) k (omega (arith, below)) in
    let e : drop (k * width) (drop width words) ≡ drop (suc k * width) words = drop-drop (k * width) width words ∙ ap (λ i. drop i words) (more k width) in
    rest ∙ ap (take width) e
  where
    more : (a b : ℕ) → b + a * b ≡ suc a * b
    more a b = grind arith

-- a row stands within the list
pub rows_within : (width count : ℕ) (words : List ℕ) (k : ℕ) → k < count → IsLaidOut width count words → k * width + width ≤ length words
rows_within width count words k below is =
    let le : suc k * width ≤ count * width = mul-le-mul_right width below in
    let e : suc k * width ≡ k * width + width = grind arith in
    omega (arith, le, e, is.long)

pub few_rows : (width count : ℕ) (words : List ℕ) → IsLaidOut width count words → count ≤ length words
few_rows width count words is =
    let le : count * 1 ≤ count * width = mul-le-mul_left count is.some in
    omega (arith, le, is.long)

-- one more row at the end
pub rows_push : (width count : ℕ) (words row : List ℕ) → length words ≡ count * width → length row ≡ width → rows_of width (suc count) (words ++ row) ≡ rows_of width count words ++ row ∷ []
rows_push width zero [] row long same = ap (λ r. r ∷ []) (rw (sym same) (take-length row))
rows_push width zero (x ∷ words) row long same = absurd (omega (arith, long))
rows_push width (suc n) words row long same =
    let inside : width ≤ length words = grind (arith, long) in
    let left : length (drop width words) ≡ n * width = length-drop width words ∙ grind (arith, long) in
    let head : take width (words ++ row) ≡ take width words = take-append-le width words row inside in
    let tail : drop width (words ++ row) ≡ drop width words ++ row = drop-append-le width words row inside in
    let rest : rows_of width (suc n) (drop width words ++ row) ≡ rows_of width n (drop width words) ++ row ∷ [] = rows_push width n (drop width words) row left same in
    ap₂ (λ (r : List ℕ) (rs : List (List ℕ)). r ∷ rs) head (ap (rows_of width (suc n)) tail ∙ rest)

pub laid_more : (width count : ℕ) (words row : List ℕ) → length row ≡ width → IsLaidOut width count words → IsLaidOut width (count + 1) (words ++ row)
laid_more width count words row same is = record {
  some = is.some;
  long =
      let e : length (words ++ row) ≡ length words + length row = length-append words row in
      let m : (count + 1) * width ≡ count * width + width = grind arith in
      omega (arith, e, m, is.long, same);
}

-- a row that was lent to be written over is the whole of what was written
pub whole_row : (old new : List ℕ) (len : ℕ) → len ≡ length old → length new ≡ length old → take len (new ++ drop (length new) old) ≡ new
whole_row old new len is same =
    let none : drop (length new) old ≡ [] = drop_of_length-le old (omega (arith, same)) in
    let e : len ≡ length new = omega (arith, is, same) in
    rw (none, e, append-nil) (take-length new)
