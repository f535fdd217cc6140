-- Laws on the moves read so far and their labels.
use Rattle.std.proofs.Common.{◌≡◌, ◌∙◌, ℕ, zero, suc, ◌+◌, ◌-◌, ◌^◌, ◌<◌, ◌≤◌, List, [], ◌∷◌, ◌++◌, length, map, ◌⊎◌, inl, inr, Option, Some, None, refl, sym, ap, arith}
use Rattle.std.proofs.lemmas.List.{get_or_append_left, get_or_push, length_push, map_push}
use Rattle.std.proofs.lemmas.Bool.{cases_lt}
use Rattle.lts_base.specs.declared.raw.RawMove.{RawMove}
use Rattle.lts_base.specs.Alphabet.{text_at}
use Rattle.lts_base.specs.Raw.{Carries}
use Rattle.aut_text.specs.Parts.{Parts, NamedMove, IsParts, AreTexts, IsAt, IsNumber, AddsMove, named}

pub Carries-keep : (moves : List RawMove) (m : RawMove) (k a : ℕ) → Carries moves k a → Carries (moves ++ m ∷ []) k a
Carries-keep moves m k a (below, at) =
    let count : length (moves ++ m ∷ []) ≡ length moves + 1 = length_push moves m in
    (omega (arith, below, count), rw (get_or_append_left moves (m ∷ []) (record { from = 0; label = None; to = 0 }) k below) at)

pub Carries-last : (moves : List RawMove) (m : RawMove) (a : ℕ) → m.label ≡ Some a → Carries (moves ++ m ∷ []) (length moves) a
Carries-last moves m a is =
    let count : length (moves ++ m ∷ []) ≡ length moves + 1 = length_push moves m in
    (omega (arith, count), rw (get_or_push moves m (record { from = 0; label = None; to = 0 }) (length moves) refl) is)

pub Carries-cases : (moves : List RawMove) (m : RawMove) (k a : ℕ) → Carries (moves ++ m ∷ []) k a → Carries moves k a ⊎ ((k ≡ length moves) × (m.label ≡ Some a))
Carries-cases moves m k a (below, at) = elim (cases_lt k (length moves)) [
  | inl old ↦ inl (old, rw (get_or_append_left moves (m ∷ []) (record { from = 0; label = None; to = 0 }) k old) at at)
  | inr past ↦
      let count : length (moves ++ m ∷ []) ≡ length moves + 1 = length_push moves m in
      let last : length moves ≡ k = omega (arith, past, below, count) in
      inr (sym last, rw (get_or_push moves m (record { from = 0; label = None; to = 0 }) k last) at at)
]

-- what a new move asks so that the parts stay as they should be
pub record Suits (p : Parts) (m : RawMove) (labels : List (List ℕ)) : Type 0 where
  pub texts : AreTexts labels
  pub grown : length p.labels ≤ length labels
  pub few : length p.moves < 2 ^ 32 - 1
  pub once : length labels ≤ length p.labels + 1
  pub inside : (b : ℕ) → m.label ≡ Some b → (b ≤ length p.labels) × (b < length labels)
  pub used : (a : ℕ) → length p.labels ≤ a → a < length labels → m.label ≡ Some a

pub IsParts-push : (p : Parts) (m : RawMove) (labels : List (List ℕ)) → IsParts p → Suits p m labels → IsParts (record { moves = p.moves ++ m ∷ []; labels = labels })
IsParts-push p m labels are fits =
    let count : length (p.moves ++ m ∷ []) ≡ length p.moves + 1 = length_push p.moves m in
    record {
      labels = record {
        few = omega (arith, fits.once, fits.few, are.counted);
        texts = fits.texts.texts;
        distinct = fits.texts.distinct;
        carried = λ a below. elim (cases_lt a (length p.labels)) [
          | inl old ↦ let (k, is) = are.labels.carried a old in (k, Carries-keep p.moves m k a is)
          | inr new ↦ (length p.moves, Carries-last p.moves m a (fits.used a new below))
        ];
        ordered = λ a b k below is. elim (Carries-cases p.moves m k b is) [
          | inl old ↦ let (j, earlier, at) = are.labels.ordered a b k below old in (j, earlier, Carries-keep p.moves m j a at)
          | inr (last, new) ↦
              let (j, at) = are.labels.carried a (omega (arith, below, (fits.inside b new).0)) in
              (j, rw last (at.0), Carries-keep p.moves m j a at)
        ];
      };
      counted = omega (arith, count, fits.once, are.counted);
      within = λ k a is. elim (Carries-cases p.moves m k a is) [
        | inl old ↦ omega (arith, are.within k a old, fits.grown)
        | inr (last, new) ↦ (fits.inside a new).1
      ];
    }

-- the moves have the same texts by two lists that agree at the labels that they carry
pub named_same : (old new : List (List ℕ)) (moves : List RawMove) → ((k a : ℕ) → Carries moves k a → text_at new a ≡ text_at old a) → map (named new) moves ≡ map (named old) moves
named_same old new [] same = refl
named_same old new (m ∷ moves) same =
    let rest : map (named new) moves ≡ map (named old) moves = named_same old new moves (λ k a is. same (suc k) a (omega (arith, is.0), is.1)) in
    rw rest (ap {A = NamedMove} {B = List NamedMove} (λ n. n ∷ map (named old) moves) (one m (λ a is. same zero a (omega arith, is))))
  where
    one : (m : RawMove) → ((a : ℕ) → m.label ≡ Some a → text_at new a ≡ text_at old a) → named new m ≡ named old m
    one m agree = go m.label refl
      where
        go : (label : Option ℕ) → m.label ≡ label → named new m ≡ named old m
        go None is = rw is refl
        go (Some a) is = rw is (ap {A = List ℕ} {B = NamedMove} (λ t. record { from = m.from; label = Some t; to = m.to }) (agree a is))

pub AddsMove-push : (p : Parts) (m : RawMove) (labels : List (List ℕ)) (n : NamedMove) → IsParts p → ((a : ℕ) → a < length p.labels → text_at labels a ≡ text_at p.labels a) → named labels m ≡ n → AddsMove p (record { moves = p.moves ++ m ∷ []; labels = labels }) n
AddsMove-push p m labels n are agree is = record {
  count = length_push p.moves m;
  moves = rw (map_push (named labels) p.moves m, named_same p.labels labels p.moves (λ k a at. agree a (are.within k a at)), is) refl;
}

-- a move of Tau
pub Suits-tau : (p : Parts) (m : RawMove) → IsParts p → length p.moves < 2 ^ 32 - 1 → m.label ≡ None → Suits p m p.labels
Suits-tau p m are few none = record {
  texts = record { texts = are.labels.texts; distinct = are.labels.distinct };
  grown = omega arith;
  few = few;
  once = omega arith;
  inside = λ b is. absurd (differ b (sym none ∙ is));
  used = λ a over below. absurd (never a over below);
}
  where
    differ : (b : ℕ) → None ≡ Some b → ⊥
    differ b e = cc

    never : (a : ℕ) → length p.labels ≤ a → a < length p.labels → ⊥
    never a over below = omega (arith, over, below)

-- a move whose label is put in its place in the list
pub Suits-label : (p : Parts) (m : RawMove) (labels : List (List ℕ)) (text : List ℕ) (n : ℕ) → IsParts p → length p.moves < 2 ^ 32 - 1 → AreTexts labels → IsNumber p.labels labels text n → m.label ≡ Some n → Suits p m labels
Suits-label p m labels text n are few texts (inl (same, below, at)) is =
    let size : length labels ≡ length p.labels = ap {A = List (List ℕ)} {B = ℕ} length same in
    record {
      texts = texts;
      grown = omega (arith, size);
      few = few;
      once = omega (arith, size);
      inside = λ b some. let b_is : b ≡ n = some_same b n (sym some ∙ is) in (omega (arith, b_is, below), omega (arith, b_is, below, size));
      used = λ a over inside. absurd (never a over inside size);
    }
  where
    some_same : (b n : ℕ) → Some b ≡ Some n → b ≡ n
    some_same b n e = cc

    never : (a : ℕ) → length p.labels ≤ a → a < length labels → length labels ≡ length p.labels → ⊥
    never a over inside size = omega (arith, over, inside, size)
Suits-label p m labels text n are few texts (inr (longer, last, lacks)) is =
    let size : length labels ≡ length p.labels + 1 = ap {A = List (List ℕ)} {B = ℕ} length longer ∙ length_push p.labels text in
    record {
      texts = texts;
      grown = omega (arith, size);
      few = few;
      once = omega (arith, size);
      inside = λ b some. let b_is : b ≡ n = some_same b n (sym some ∙ is) in (omega (arith, b_is, last), omega (arith, b_is, last, size));
      used = λ a over inside. let a_is : n ≡ a = omega (arith, last, over, inside, size) in is ∙ ap {A = ℕ} {B = Option ℕ} Some a_is;
    }
  where
    some_same : (b n : ℕ) → Some b ≡ Some n → b ≡ n
    some_same b n e = cc

-- the old texts keep their places
pub IsNumber-keeps : (old new : List (List ℕ)) (text : List ℕ) (n : ℕ) → IsNumber old new text n → (a : ℕ) → a < length old → text_at new a ≡ text_at old a
IsNumber-keeps old new text n (inl (same, below, at)) a inside = rw same refl
IsNumber-keeps old new text n (inr (longer, last, lacks)) a inside = rw (longer, get_or_append_left old (text ∷ []) [] a inside) refl

-- the text stands at its number
pub IsNumber-at : (old new : List (List ℕ)) (text : List ℕ) (n : ℕ) → IsNumber old new text n → text_at new n ≡ text
IsNumber-at old new text n (inl (same, below, at)) = rw same at
IsNumber-at old new text n (inr (longer, last, lacks)) = rw longer (get_or_push old text [] n (sym last))

-- the move that names the text by its number
pub named_at : (old new : List (List ℕ)) (text : List ℕ) (n from to : ℕ) → IsNumber old new text n → named new (record { from = from; label = Some n; to = to }) ≡ record { from = from; label = Some text; to = to }
named_at old new text n from to is = ap {A = List ℕ} {B = NamedMove} (λ t. record { from = from; label = Some t; to = to }) (IsNumber-at old new text n is)

-- a move whose label stands in the list
pub Suits-known : (p : Parts) (m : RawMove) (text : List ℕ) (n : ℕ) → IsParts p → length p.moves < 2 ^ 32 - 1 → IsAt p.labels text n → m.label ≡ Some n → Suits p m p.labels
Suits-known p m text n are few (below, at) is = Suits-label p m p.labels text n are few (record { texts = are.labels.texts; distinct = are.labels.distinct }) (inl (refl, below, at)) is
