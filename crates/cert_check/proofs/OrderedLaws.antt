-- Laws on places that are sorted by their lists.
use Rattle.std.proofs.Common.{◌≡◌, ◌∙◌, ℕ, ◌<◌, List, length, get_or, All, Contains, ap}
use Rattle.std.specs.Prelude.{Result, Ok, Err, MatchResult}
use Rattle.std.specs.List.{dedup}
use Rattle.std.specs.List.Sorted.{IsSortedBy, IsPermutation, IsBinarySearchResult, IsSearchInRange}
use Rattle.std.specs.Ordering.{nat_cmp, is_lt}
use Rattle.std.specs.Cmp.Lexicographic.{slice_cmp}
use Rattle.std.specs.Str.{bytes_eq}
use Rattle.std.proofs.lemmas.List.{get_or-map, length-map}
use Rattle.std.proofs.lemmas.List.Elements.{Contains-get_or}
use Rattle.std.proofs.lemmas.List.Sorted.{IsPermutation-map, Contains-permutation}
use Rattle.lts_base.specs.Alphabet.{AreRising, text_at}
use Rattle.lts_base.proofs.ShownLaws.{sorted-map, dedup-map, searched_keys}
use Rattle.lts_base.proofs.SortingLaws.{sorted_once-rising, sorted_once-all}
use Rattle.cert_check.specs.Index.{IsPlace, listed}

module _ (lists : List (List ℕ)) where
  -- what is left of places that are sorted by their lists, without repeats of lists, names rising lists
  pub listed_rising : (mid news : List ℕ) → IsSortedBy (λ x y. is_lt (slice_cmp nat_cmp (text_at lists x) (text_at lists y))) mid → news ≡ dedup (λ x y. bytes_eq (text_at lists x) (text_at lists y)) mid → AreRising (listed lists news)
  listed_rising mid news sorted kept =
      sorted_once-rising (listed lists mid) (listed lists news) (sorted-map (text_at lists) (λ x y. is_lt (slice_cmp nat_cmp x y)) mid sorted)
      (ap (listed lists) kept ∙ dedup-map (text_at lists) bytes_eq mid)

  -- and all lists that there were
  pub listed_all : (olds mid news : List ℕ) → IsPermutation olds mid → news ≡ dedup (λ x y. bytes_eq (text_at lists x) (text_at lists y)) mid → All (Contains (listed lists news)) (listed lists olds)
  listed_all olds mid news moved kept =
      sorted_once-all (listed lists olds) (listed lists mid) (listed lists news) (IsPermutation-map (text_at lists) olds mid moved) (ap (listed lists) kept ∙ dedup-map (text_at lists) bytes_eq mid)

  -- what a binary search by lists finds
  pub found_listed : (places list : List ℕ) (r : Result ℕ ℕ) → IsSearchInRange r (length places) → IsBinarySearchResult (λ k. slice_cmp nat_cmp (text_at lists k) list) places r → AreRising (listed lists places) →
      MatchResult r (IsPlace (listed lists places) list) (λ _. Contains (listed lists places) list → ⊥)
  found_listed places list (Ok i) range h rising =
      let found = searched_keys (text_at lists) places list (Ok i) range h rising in
      (rw (length-map places (text_at lists)) found.0, found.1)
  found_listed places list (Err i) range h rising = searched_keys (text_at lists) places list (Err i) range h rising

  -- what places contain, their lists do
  pub listed_contains : (places : List ℕ) (k : ℕ) → Contains places k → Contains (listed lists places) (text_at lists k)
  listed_contains places k (j, below, at) =
      (j, rw (length-map places (text_at lists)) below, get_or-map (text_at lists) places j k (text_at lists k) below ∙ ap (text_at lists) at)

  -- the lists of places that are all kept are kept
  pub listed_kept : (olds mid : List ℕ) (news : List (List ℕ)) → All (Contains mid) olds → All (Contains news) (listed lists mid) → All (Contains news) (listed lists olds)
  listed_kept olds mid news kept all k d below =
      let within : k < length olds = rw (length-map olds (text_at lists)) at below in
      let (j, low, at) = listed_contains mid (get_or olds k 0) (kept k 0 within) in
      let is : get_or (listed lists olds) k d ≡ text_at lists (get_or olds k 0) = get_or-map (text_at lists) olds k 0 d within in
      rw (is, ← at) (all j (text_at lists (get_or olds k 0)) low)

-- a sort and a pass that drops repeats keep each number
pub once_all : (olds mid news : List ℕ) → IsPermutation olds mid → ((x : ℕ) → Contains mid x → Contains news x) → All (Contains news) olds
once_all olds mid news moved kept k d below = kept (get_or olds k d) (Contains-permutation olds mid (get_or olds k d) moved (Contains-get_or olds k d below))
