-- Laws on rows of bits.
use Rattle.std.proofs.Common.{◌≡◌, ◌≢◌, ℕ, ◌+◌, ◌-◌, ◌*◌, ◌/◌, ◌%◌, ◌^◌, ◌<◌, ◌≤◌, ◌⊎◌, ◌↔◌, List, length, get_or, set, refl, sym, ◌∙◌, ap, inl, inr, arith, w64, max, min, bit_and}
use Rattle.std.specs.Int.{bit_at, bit_not, trailing_zeros}
use Rattle.std.specs.Int.RustNames.{bit_or}
use Rattle.std.proofs.Math.Nat.{div-div-eq-div-mul}
use Rattle.std.proofs.lemmas.Nat.{pow-add}
use Rattle.std.proofs.lemmas.Nat.Bits.{bit_at-zero, bit_at_or, bit_at_and, bit_at_not, bit_at-lt, bit_at_above, bit_at-trailing_zeros}
use Rattle.std.proofs.lemmas.List.{get_or-set_same, get_or-set_other, get_or_past, length-set}
use Rattle.std.proofs.lemmas.Bool.{cases_lt, cases_eq}
use Rattle.state_sets.specs.Finds.{IsLeastFrom}
use Rattle.state_sets.specs.Rows.{HasBit}

-- a word that is moved down has its bits further down
pub bit_at_shifted : (n f i : ℕ) → bit_at (n / 2 ^ f) i ≡ bit_at n (f + i)
bit_at_shifted n f i = ap (λ x. x % 2) (div-div-eq-div-mul n (2 ^ f) (2 ^ i) ∙ ap (λ x. n / x) (sym (pow-add 2 f i)))

-- no bit is left when those below are gone
pub first_none : (word from : ℕ) → from < 64 → word / 2 ^ from ≡ 0 → IsLeastFrom (λ (i : ℕ). bit_at word i ≡ 1) from 64 64
first_none word from low none = record {
  low = omega (arith, low);
  high = omega arith;
  none = λ a over below here.
      let e : bit_at (word / 2 ^ from) (a - from) ≡ bit_at word a = bit_at_shifted word from (a - from) ∙ ap (bit_at word) (omega (arith, over)) in
      let z : bit_at (word / 2 ^ from) (a - from) ≡ 0 = rw none (bit_at-zero (a - from)) in
      omega (arith, e, z, here);
  some = inl refl;
}

-- the least one of those that are left
pub first_some : (word from t : ℕ) → from < 64 → word < 2 ^ 64 → 0 < word / 2 ^ from → word / 2 ^ from < 2 ^ 64 → t ≡ trailing_zeros w64 (word / 2 ^ from) → IsLeastFrom (λ (i : ℕ). bit_at word i ≡ 1) from 64 (from + t)
first_some word from t low small some less is = record {
  low = omega arith;
  high = elim (cases_lt (from + t) 64) [
    | inl below ↦ omega (arith, below)
    | inr over ↦ let z = bit_at_above word 64 (from + t) small over in omega (arith, z, here)
  ];
  none = λ a over below set.
      let e : bit_at (word / 2 ^ from) (a - from) ≡ bit_at word a = bit_at_shifted word from (a - from) ∙ ap (bit_at word) (omega (arith, over)) in
      let z : bit_at (word / 2 ^ from) (a - from) ≡ 0 = found.2 (a - from) (omega (arith, over, below, is)) in
      omega (arith, e, z, set);
  some = inr here;
}
  where
    found : (trailing_zeros w64 (word / 2 ^ from) < 64) × (bit_at (word / 2 ^ from) (trailing_zeros w64 (word / 2 ^ from)) ≡ 1) × ((i : ℕ) → i < trailing_zeros w64 (word / 2 ^ from) → bit_at (word / 2 ^ from) i ≡ 0)
    found = bit_at-trailing_zeros w64 (word / 2 ^ from) some less

    here : bit_at word (from + t) ≡ 1
    here = rw is (sym (bit_at_shifted word from (trailing_zeros w64 (word / 2 ^ from))) ∙ found.1)

-- past its end a row has no bits
pub no_bit_past : (row : List ℕ) (i : ℕ) → length row ≤ i / 64 → HasBit row i → ⊥
no_bit_past row i past has =
    let e : get_or row (i / 64) 0 ≡ 0 = get_or_past row (i / 64) 0 past in
    let z : bit_at (get_or row (i / 64) 0) (i % 64) ≡ 0 = rw e (bit_at-zero (i % 64)) in
    omega (arith, z, has)

-- one word of the row has one bit more
pub bits_set : (row : List ℕ) (place word : ℕ) → place / 64 < length row → bit_at word (place % 64) ≡ 1 → ((i : ℕ) → i ≢ place % 64 → bit_at word i ≡ bit_at (get_or row (place / 64) 0) i) →
    (i : ℕ) → HasBit (set row (place / 64) word) i ↔ (HasBit row i ⊎ (i ≡ place))
bits_set row place word inside same others i = elim (cases_eq (i / 64) (place / 64)) [
  | inl at ↦
      let e : get_or (set row (place / 64) word) (i / 64) 0 ≡ word = rw at (get_or-set_same row (place / 64) word 0 inside) in
      elim (cases_eq (i % 64) (place % 64)) [
        | inl bit ↦
            let is : i ≡ place = omega (arith, at, bit) in
            (λ h. inr is, λ h. rw (e, bit) same)
        | inr other ↦
            let kept : bit_at (get_or (set row (place / 64) word) (i / 64) 0) (i % 64) ≡ bit_at (get_or row (i / 64) 0) (i % 64) = rw (e, at) (others (i % 64) other) in
            (λ h. inl (sym kept ∙ h), λ h. elim h [ inl old ↦ kept ∙ old | inr is ↦ absurd (other (ap (λ x. x % 64) is)) ])
      ]
  | inr at ↦
      let kept : get_or (set row (place / 64) word) (i / 64) 0 ≡ get_or row (i / 64) 0 = get_or-set_other row (place / 64) (i / 64) word 0 at in
      (λ h. inl (rw kept at h), λ h. elim h [ inl old ↦ rw kept old | inr is ↦ absurd (at (ap (λ x. x / 64) is)) ])
]

-- of the first n words nothing is left
pub record AreCleared (old row : List ℕ) (n : ℕ) : Type 0 where
  pub long : length row ≡ length old
  pub words : (k : ℕ) → k < n → get_or row k 0 ≡ 0

pub cleared_more : (old row : List ℕ) (n : ℕ) → n < length old → AreCleared old row n → AreCleared old (set row n 0) (n + 1)
cleared_more old row n inside is = record {
  long = length-set row n 0 ∙ is.long;
  words = λ k below. elim (cases_eq k n) [
    | inl same ↦ rw same (get_or-set_same row n 0 0 (omega (arith, inside, is.long)))
    | inr other ↦ get_or-set_other row n k 0 0 other ∙ is.words k (omega (arith, below, other))
  ];
}

pub cleared_all : (old row : List ℕ) (n : ℕ) → length old ≤ n → AreCleared old row n → (i : ℕ) → HasBit row i → ⊥
cleared_all old row n over is i has = elim (cases_lt (i / 64) (length row)) [
  | inl inside ↦
      let e : get_or row (i / 64) 0 ≡ 0 = is.words (i / 64) (omega (arith, inside, over, is.long)) in
      let z : bit_at (get_or row (i / 64) 0) (i % 64) ≡ 0 = rw e (bit_at-zero (i % 64)) in
      omega (arith, z, has)
  | inr past ↦ no_bit_past row i past has
]

-- the first n words have the bits of both, the others are as they were
pub record AreJoined (old other row : List ℕ) (n : ℕ) : Type 0 where
  pub long : length row ≡ length old
  pub joined : (k : ℕ) → k < n → get_or row k 0 ≡ bit_or (get_or old k 0) (get_or other k 0)
  pub kept : (k : ℕ) → n ≤ k → get_or row k 0 ≡ get_or old k 0

pub joined_none : (old other : List ℕ) → AreJoined old other old 0
joined_none old other = record {
  long = refl;
  joined = λ k below. absurd (omega (arith, below));
  kept = λ k over. refl;
}

pub joined_more : (old other row : List ℕ) (n x y : ℕ) → n < length old → x ≡ get_or row n 0 → y ≡ get_or other n 0 → AreJoined old other row n → AreJoined old other (set row n (bit_or x y)) (n + 1)
joined_more old other row n x y inside left right is = record {
  long = length-set row n (bit_or x y) ∙ is.long;
  joined = λ k below. elim (cases_eq k n) [
    | inl same ↦ rw same (get_or-set_same row n (bit_or x y) 0 (omega (arith, inside, is.long)) ∙ (rw (left, right, is.kept n (omega arith)) refl))
    | inr off ↦ get_or-set_other row n k (bit_or x y) 0 off ∙ is.joined k (omega (arith, below, off))
  ];
  kept = λ k over. get_or-set_other row n k (bit_or x y) 0 (λ e. omega (arith, e, over)) ∙ is.kept k (omega (arith, over));
}

or_bits : (x y i : ℕ) → (bit_at (bit_or x y) i ≡ 1) ↔ ((bit_at x i ≡ 1) ⊎ (bit_at y i ≡ 1))
or_bits x y i =
    let e : bit_at (bit_or x y) i ≡ max (bit_at x i) (bit_at y i) = bit_at_or x y i in
    let a = bit_at-lt x i in
    let b = bit_at-lt y i in
    (λ h. elim (cases_eq (bit_at x i) 1) [ inl one ↦ inl one | inr other ↦ inr (omega (arith, e, a, b, h, other)) ], λ h. elim h [ inl l ↦ omega (arith, e, a, b, l) | inr r ↦ omega (arith, e, a, b, r) ])

pub joined_all : (old other row : List ℕ) (n : ℕ) → length old ≤ n → length other ≡ length old → AreJoined old other row n → (i : ℕ) → HasBit row i ↔ (HasBit old i ⊎ HasBit other i)
joined_all old other row n over same is i = elim (cases_lt (i / 64) (length row)) [
  | inl inside ↦
      let e : get_or row (i / 64) 0 ≡ bit_or (get_or old (i / 64) 0) (get_or other (i / 64) 0) = is.joined (i / 64) (omega (arith, inside, over, is.long)) in
      rw e (or_bits (get_or old (i / 64) 0) (get_or other (i / 64) 0) (i % 64))
  | inr past ↦ (
    λ h. absurd (no_bit_past row i past h),
    λ h. elim h [
      | inl l ↦ absurd (no_bit_past old i (omega (arith, past, is.long)) l)
      | inr r ↦ absurd (no_bit_past other i (omega (arith, past, is.long, same)) r)
    ],
  )
]

-- from `from` on no bit below this place is set
pub record IsPassed (row : List ℕ) (from place : ℕ) : Type 0 where
  pub low : from ≤ place
  pub none : (a : ℕ) → from ≤ a → a < place → HasBit row a → ⊥

pub passed_none : (row : List ℕ) (from : ℕ) → IsPassed row from from
passed_none row from = record { low = omega arith; none = λ a low high. absurd (omega (arith, low, high)) }

-- a further part of the word has no bit
pub passed_more : (row : List ℕ) (from place bit word : ℕ) → word ≡ get_or row (place / 64) 0 → IsLeastFrom (λ (i : ℕ). bit_at word i ≡ 1) (place % 64) 64 bit → IsPassed row from place → IsPassed row from (place / 64 * 64 + bit)
passed_more row from place bit word here first is = record {
  low = omega (arith, is.low, first.low);
  none = λ a low high has. elim (cases_lt a place) [
    | inl below ↦ is.none a low below has
    | inr over ↦
        let at : a / 64 ≡ place / 64 = omega (arith, over, high, first.high) in
        let bit_of : bit_at word (a % 64) ≡ 1 = rw here (rw at at has) in
        first.none (a % 64) (omega (arith, over, at)) (omega (arith, high, at)) bit_of
  ];
}

-- the bit that was found in the word is set
pub found_bit : (row : List ℕ) (place bit word : ℕ) → word ≡ get_or row (place / 64) 0 → bit < 64 → IsLeastFrom (λ (i : ℕ). bit_at word i ≡ 1) (place % 64) 64 bit → HasBit row (place / 64 * 64 + bit)
found_bit row place bit word here below first =
    let at : (place / 64 * 64 + bit) / 64 ≡ place / 64 = omega (arith, below) in
    let rest : (place / 64 * 64 + bit) % 64 ≡ bit = omega (arith, below) in
    elim first.some [ inl none ↦ absurd (omega (arith, none, below)) | inr some ↦ rw (at, rest) (rw here at some) ]

-- the search ends at `most`
pub least_past : (row : List ℕ) (from most place : ℕ) → from ≤ most → most ≤ place → IsPassed row from place → IsLeastFrom (HasBit row) from most most
least_past row from most place low past is = record {
  low = low;
  high = omega arith;
  none = λ a over below. is.none a over (omega (arith, below, past));
  some = inl refl;
}

-- it ends at a bit below `most`
pub least_found : (row : List ℕ) (from most place : ℕ) → place < most → HasBit row place → IsPassed row from place → IsLeastFrom (HasBit row) from most place
least_found row from most place below has is = record {
  low = is.low;
  high = omega (arith, below);
  none = is.none;
  some = inr has;
}

-- a bit of a word that another one doesn't have
bits_without : (x y i : ℕ) → y < 2 ^ 64 → i < 64 → (bit_at (bit_and x (bit_not w64 y)) i ≡ 1) ↔ ((bit_at x i ≡ 1) × (bit_at y i ≡ 1 → ⊥))
bits_without x y i small low =
    let e : bit_at (bit_and x (bit_not w64 y)) i ≡ min (bit_at x i) (bit_at (bit_not w64 y) i) = bit_at_and x (bit_not w64 y) i in
    let n : bit_at (bit_not w64 y) i ≡ 1 - bit_at y i = bit_at_not w64 y i small low in
    let a = bit_at-lt x i in
    let b = bit_at-lt y i in (
      λ h. (omega (arith, e, n, a, b, h), λ one. omega (arith, e, n, a, one, h)),
      λ h. elim (cases_eq (bit_at y i) 1) [ inl one ↦ absurd (h.1 one) | inr other ↦ omega (arith, e, n, a, b, h.0, other) ],
    )

-- from `from` on each bit of the row below this place is one of the other row
pub record IsAgreed (row other : List ℕ) (from place : ℕ) : Type 0 where
  pub low : from ≤ place
  pub none : (a : ℕ) → from ≤ a → a < place → (HasBit row a × (HasBit other a → ⊥)) → ⊥

pub agreed_none : (row other : List ℕ) (from : ℕ) → IsAgreed row other from from
agreed_none row other from = record { low = omega arith; none = λ a low high. absurd (omega (arith, low, high)) }

-- a further part of the word has no bit that is missing
pub agreed_more : (row other : List ℕ) (from place bit x y : ℕ) → y < 2 ^ 64 → x ≡ get_or row (place / 64) 0 → y ≡ get_or other (place / 64) 0 →
    IsLeastFrom (λ (i : ℕ). bit_at (bit_and x (bit_not w64 y)) i ≡ 1) (place % 64) 64 bit → IsAgreed row other from place → IsAgreed row other from (place / 64 * 64 + bit)
agreed_more row other from place bit x y small left right first is = record {
  low = omega (arith, is.low, first.low);
  none = λ a low high has. elim (cases_lt a place) [
    | inl below ↦ is.none a low below has
    | inr over ↦
        let at : a / 64 ≡ place / 64 = omega (arith, over, high, first.high) in
        let bit_of : bit_at x (a % 64) ≡ 1 = rw left (rw at at has.0) in
        first.none (a % 64) (omega (arith, over, at)) (omega (arith, high, at))
        ((bits_without x y (a % 64) small (omega arith)).1 (bit_of, λ one. has.1 (rw at (rw right at one))))
  ];
}

-- the bit that was found is missing in the other row
pub missing_bit : (row other : List ℕ) (place bit x y : ℕ) → y < 2 ^ 64 → x ≡ get_or row (place / 64) 0 → y ≡ get_or other (place / 64) 0 → bit < 64 →
    IsLeastFrom (λ (i : ℕ). bit_at (bit_and x (bit_not w64 y)) i ≡ 1) (place % 64) 64 bit → HasBit row (place / 64 * 64 + bit) × (HasBit other (place / 64 * 64 + bit) → ⊥)
missing_bit row other place bit x y small left right below first =
    let at : (place / 64 * 64 + bit) / 64 ≡ place / 64 = omega (arith, below) in
    let rest : (place / 64 * 64 + bit) % 64 ≡ bit = omega (arith, below) in
    let some : bit_at (bit_and x (bit_not w64 y)) bit ≡ 1 = elim first.some [ inl none ↦ absurd (omega (arith, none, below)) | inr some ↦ some ] in
    let both = (bits_without x y bit small below).0 some in
    (rw (at, rest) (rw left at both.0), λ has. both.1 (rw right (rw (at, rest) at has)))

pub agreed_past : (row other : List ℕ) (from most place : ℕ) → from ≤ most → most ≤ place → IsAgreed row other from place → IsLeastFrom (λ (i : ℕ). HasBit row i × (HasBit other i → ⊥)) from most most
agreed_past row other from most place low past is = record {
  low = low;
  high = omega arith;
  none = λ a over below. is.none a over (omega (arith, below, past));
  some = inl refl;
}

pub agreed_found : (row other : List ℕ) (from most place : ℕ) → place < most → HasBit row place × (HasBit other place → ⊥) → IsAgreed row other from place → IsLeastFrom (λ (i : ℕ). HasBit row i × (HasBit other i → ⊥)) from most place
agreed_found row other from most place below has is = record {
  low = is.low;
  high = omega (arith, below);
  none = is.none;
  some = inr has;
}
