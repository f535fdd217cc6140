-- Laws on lists of numbers, as texts.
use Rattle.std.proofs.Common.{◌≡◌, ◌∙◌, ℕ, zero, suc, ◌^◌, ◌<◌, ◌≤◌, List, [], ◌∷◌, ◌++◌, map, All, get_or, refl, sym, ap, subst, arith, decimal, add-one}
use Rattle.std.specs.List.Sorted.{IsStrictlyIncreasing}
use Rattle.std.proofs.lemmas.List.{append_assoc, append-nil, map-append}
use Rattle.std.proofs.lemmas.List.Elements.{All-nil, All-cons, All-push, All-append}
use Rattle.std.proofs.lemmas.Grind.{flat_map-append}
use Rattle.lts_base.proofs.ListLaws.{IsStrictlyIncreasing-rest}
use Rattle.text_scan.specs.Cut.{Lacks}
use Rattle.cert_text.specs.Printed.{spaced}
use Rattle.cert_text.specs.Certificate.{IsStates}
use Rattle.cert_text.specs.Numbers.{IsNumber, IsNumberList, GoesOn, HasLarge, AreNumbers, AreStatesOf, IsListOf, IsPiece, Rises, value_of}
use Rattle.cert_text.proofs.NumberLaws.{IsNumber-decimal, value-decimal}
use Rattle.cert_text.proofs.PieceLaws.{piece_of, number_free, spaced_once}

-- the text is a list exactly where the rest goes on from the last number read
pub record IsHalf (text rest : List ℕ) (low : ℕ) : Type 0 where
  pub to : GoesOn low rest → IsNumberList text
  pub from : IsNumberList text → GoesOn low rest

-- after the first number
pub IsHalf-none : (text first others : List ℕ) → IsPiece text first others → IsNumber first → IsHalf text others (value_of first)
IsHalf-none text first others piece number = record {
  to = λ on. record {
    first = first;
    others = on.numbers;
    spelled = piece.whole ∙ ap {A = List ℕ} {B = List ℕ} (λ t. 32 ∷ (first ++ t)) on.spelled;
    number = number;
    rising = on.rising;
  };
  from = λ is.
      let (same, rest) = piece_of text first others is.first is.others piece (number_free is.first is.number) is.spelled in
      record { numbers = is.others; spelled = rest; rising = subst (λ (n : List ℕ). Rises (value_of n) is.others) (sym same) is.rising };
}

-- after one number more
pub IsHalf-step : (text rest next after : List ℕ) (low : ℕ) → IsHalf text rest low → IsPiece rest next after → IsNumber next → low < value_of next → IsHalf text after (value_of next)
IsHalf-step text rest next after low half piece number less = record {
  to = λ on. half.to (record {
    numbers = next ∷ on.numbers;
    spelled = piece.whole ∙ ap {A = List ℕ} {B = List ℕ} (λ t. 32 ∷ (next ++ t)) on.spelled;
    rising = (number, less, on.rising);
  });
  from = λ is. go (half.from is);
}
  where
    go : GoesOn low rest → GoesOn (value_of next) after
    go on = cases on.numbers on.spelled on.rising
      where
        cases : (ns : List (List ℕ)) → rest ≡ spaced ns → Rises low ns → GoesOn (value_of next) after
        cases [] none rising = let e : 32 ∷ (next ++ after) ≡ [] = sym piece.whole ∙ none in cc
        cases (n ∷ ns) spelled rising =
            let (same, back) = piece_of rest next after n ns piece (number_free n rising.0) spelled in
            record { numbers = ns; spelled = back; rising = subst (λ (m : List ℕ). Rises (value_of m) ns) (sym same) rising.2 }

-- where nothing is left the text is a list
pub IsHalf-all : (text rest : List ℕ) (low : ℕ) → IsHalf text rest low → rest ≡ [] → IsNumberList text
IsHalf-all text rest low half none = half.to (record { numbers = []; spelled = none; rising = tt })

-- what goes on and isn't empty begins with a number that is greater
pub IsHalf-fault : (text rest : List ℕ) (low : ℕ) → IsHalf text rest low → (rest ≡ [] → ⊥) → ((n : List ℕ) (ns : List (List ℕ)) → IsNumber n → rest ≡ spaced (n ∷ ns) → low < value_of n → ⊥) → IsNumberList text → ⊥
IsHalf-fault text rest low half some none is = let on = half.from is in cases on.numbers on.spelled on.rising
  where
    cases : (ns : List (List ℕ)) → rest ≡ spaced ns → Rises low ns → ⊥
    cases [] spelled rising = some spelled
    cases (n ∷ ns) spelled rising = none n ns rising.0 spelled rising.1

-- the states of the numbers before the rest, all below the bound, while the rest has numbers too
pub record AreRead (bound : ℕ) (text rest states : List ℕ) : Type 0 where
  pub whole : text ≡ spaced (map decimal states) ++ rest
  pub below : All (λ q. q < bound) states
  pub numbers : AreNumbers rest

-- a piece of a list of numbers is a number, and numbers follow it
pub piece_number : (text piece after : List ℕ) → AreNumbers text → IsPiece text piece after → IsNumber piece × AreNumbers after
piece_number text piece after are is = cases are.numbers are.spelled are.each
  where
    cases : (ns : List (List ℕ)) → text ≡ spaced ns → All IsNumber ns → IsNumber piece × AreNumbers after
    cases [] spelled each = let e : 32 ∷ (piece ++ after) ≡ [] = sym is.whole ∙ spelled in cc
    cases (n ∷ ns) spelled each =
        let (same, back) = piece_of text piece after n ns is (number_free n (each zero [] (omega arith))) spelled in
        (subst IsNumber (sym same) (each zero [] (omega arith)), record { numbers = ns; spelled = back; each = λ k d below. each (suc k) d (omega (arith, below)) })

-- one state more
pub AreRead-step : (bound : ℕ) (text rest states piece after : List ℕ) (q : ℕ) → AreRead bound text rest states → IsPiece rest piece after → q < bound → piece ≡ decimal q → AreRead bound text after (states ++ q ∷ [])
AreRead-step bound text rest states piece after q read is small written = record {
  whole = read.whole ∙ ap {A = List ℕ} {B = List ℕ} (λ t. spaced (map decimal states) ++ t) (is.whole ∙ ap {A = List ℕ} {B = List ℕ} (λ t. 32 ∷ (t ++ after)) written) ∙ joined;
  below = All-push (λ p. p < bound) states q read.below small;
  numbers = (piece_number rest piece after read.numbers is).1;
}
  where
    joined : spaced (map decimal states) ++ 32 ∷ (decimal q ++ after) ≡ spaced (map decimal (states ++ q ∷ [])) ++ after
    joined = rw (map-append decimal states (q ∷ []), flat_map-append (λ (t : List ℕ). 32 ∷ t) (map decimal states) (decimal q ∷ []), append-nil (32 ∷ decimal q), append_assoc (spaced (map decimal states)) (32 ∷ decimal q) after) refl

-- where no piece is left, the text has these states
pub AreRead-all : (bound : ℕ) (text rest states : List ℕ) → AreRead bound text rest states → ((t : List ℕ) → rest ≡ 32 ∷ t → ⊥) → AreStatesOf bound text states
AreRead-all bound text rest states read none = record { spelled = read.whole ∙ cases read.numbers.numbers read.numbers.spelled; below = read.below }
  where
    cases : (ns : List (List ℕ)) → rest ≡ spaced ns → spaced (map decimal states) ++ rest ≡ spaced (map decimal states)
    cases [] spelled = rw spelled (append-nil (spaced (map decimal states)))
    cases (n ∷ ns) spelled = absurd (none (n ++ spaced ns) spelled)

-- what holds of all elements holds of all but the first
All-rest : {X : Type 0} (P : X → Type 0) (x : X) (xs : List X) → All P (x ∷ xs) → All P xs
All-rest P x xs all k d below = all (suc k) d (omega (arith, below))

-- what is written of states are numbers
pub numbers_of : (bound : ℕ) (states : List ℕ) → bound ≤ 2 ^ 64 → All (λ q. q < bound) states → All IsNumber (map decimal states)
numbers_of bound [] few below = All-nil IsNumber
numbers_of bound (q ∷ states) few below =
    let small : q < bound = below zero q (omega arith) in
    All-cons IsNumber (decimal q) (map decimal states) (IsNumber-decimal q (omega (arith, small, few))) (numbers_of bound states few (All-rest (λ p. p < bound) q states below))

-- a number that is too large is one of the text
pub AreRead-large : (bound : ℕ) (text rest states piece after : List ℕ) → bound ≤ 2 ^ 64 → AreRead bound text rest states → IsPiece rest piece after → bound ≤ value_of piece → HasLarge bound text
AreRead-large bound text rest states piece after few read is over = record {
  before = map decimal states;
  large = piece;
  after = follow.1.numbers;
  spelled = read.whole ∙ ap {A = List ℕ} {B = List ℕ} (λ t. spaced (map decimal states) ++ t) (is.whole ∙ ap {A = List ℕ} {B = List ℕ} (λ t. 32 ∷ (piece ++ t)) follow.1.spelled) ∙ sym (flat_map-append (λ (t : List ℕ). 32 ∷ t) (map decimal states) (piece ∷ follow.1.numbers));
  each = All-append IsNumber (map decimal states) (piece ∷ follow.1.numbers) (numbers_of bound states few read.below) (All-cons IsNumber piece follow.1.numbers follow.0 follow.1.each);
  over = over;
}
  where
    follow : IsNumber piece × AreNumbers after
    follow = piece_number rest piece after read.numbers is

-- numbers that rise are numbers
rises_numbers : (low : ℕ) (ns : List (List ℕ)) → Rises low ns → All IsNumber ns
rises_numbers low [] rising = All-nil IsNumber
rises_numbers low (n ∷ ns) rising = All-cons IsNumber n ns rising.0 (rises_numbers (value_of n) ns rising.2)

-- a list of numbers has numbers
pub AreNumbers-list : (text : List ℕ) → IsNumberList text → AreNumbers text
AreNumbers-list text is = record { numbers = is.first ∷ is.others; spelled = is.spelled; each = All-cons IsNumber is.first is.others is.number (rises_numbers (value_of is.first) is.others is.rising) }

-- numbers have no spaces
numbers_free : (ns : List (List ℕ)) → All IsNumber ns → All (Lacks 32) ns
numbers_free ns each k d below = number_free (get_or ns k d) (each k d below)

-- numbers are told by the text that lists them
pub numbers_once : (xs ys : List (List ℕ)) → All IsNumber xs → All IsNumber ys → spaced xs ≡ spaced ys → xs ≡ ys
numbers_once xs ys one two e = spaced_once xs ys (numbers_free xs one) (numbers_free ys two) e

-- a lesser number may stand before numbers that rise
increasing_front : (q r : ℕ) (qs : List ℕ) → q < r → IsStrictlyIncreasing (r ∷ qs) → IsStrictlyIncreasing (q ∷ r ∷ qs)
increasing_front q r qs less rising zero below = less
increasing_front q r qs less rising (suc k) below = rw (add-one (suc k)) (rw (add-one k) at (rising k (omega (arith, below))))

-- where what is written rises the states rise
rises_states : (bound q : ℕ) (qs : List ℕ) → bound ≤ 2 ^ 64 → All (λ p. p < bound) (q ∷ qs) → Rises (value_of (decimal q)) (map decimal qs) → IsStrictlyIncreasing (q ∷ qs)
rises_states bound q [] few below rising = λ k over. absurd (omega (arith, over))
rises_states bound q (r ∷ qs) few below rising =
    let one : q < bound = below zero q (omega arith) in
    let two : r < bound = below (suc zero) r (omega arith) in
    let value_q : value_of (decimal q) ≡ q = value-decimal q (omega (arith, one, few)) in
    let value_r : value_of (decimal r) ≡ r = value-decimal r (omega (arith, two, few)) in
    let less : value_of (decimal q) < value_of (decimal r) = rising.1 in
    increasing_front q r qs (omega (arith, less, value_q, value_r)) (rises_states bound r qs few (All-rest (λ p. p < bound) q (r ∷ qs) below) rising.2)

-- the states that a list gives are at least one, and rise
pub states_sound : (bound : ℕ) (text states : List ℕ) → bound ≤ 2 ^ 64 → IsNumberList text → AreStatesOf bound text states → IsStates states
unfolding AreNumbers-list
states_sound bound text states few is of = go states of.below (numbers_once (is.first ∷ is.others) (map decimal states) (AreNumbers-list text is).each (numbers_of bound states few of.below) (sym is.spelled ∙ of.spelled))
  where
    go : (states : List ℕ) → All (λ q. q < bound) states → is.first ∷ is.others ≡ map decimal states → IsStates states
    go [] below e = cc
    go (q ∷ states) below e =
        let first : is.first ≡ decimal q = cc in
        let others : is.others ≡ map decimal states = cc in
        record {
          some = omega arith;
          rising = rises_states bound q states few below (subst (λ (ns : List (List ℕ)). Rises (value_of (decimal q)) ns) others (subst (λ (n : List ℕ). Rises (value_of n) is.others) first is.rising));
        }

-- where the states rise what is written of them rises
states_rise : (bound q : ℕ) (qs : List ℕ) → bound ≤ 2 ^ 64 → All (λ p. p < bound) (q ∷ qs) → IsStrictlyIncreasing (q ∷ qs) → Rises (value_of (decimal q)) (map decimal qs)
states_rise bound q [] few below rising = tt
states_rise bound q (r ∷ qs) few below rising =
    let one : q < bound = below zero q (omega arith) in
    let two : r < bound = below (suc zero) r (omega arith) in
    let value_q : value_of (decimal q) ≡ q = value-decimal q (omega (arith, one, few)) in
    let value_r : value_of (decimal r) ≡ r = value-decimal r (omega (arith, two, few)) in
    let less : q < r = rising zero (omega arith) in
    (IsNumber-decimal r (omega (arith, two, few)), omega (arith, less, value_q, value_r), states_rise bound r qs few (All-rest (λ p. p < bound) q (r ∷ qs) below) (IsStrictlyIncreasing-rest q (r ∷ qs) rising))

-- what is written of states is a list of numbers
pub IsNumberList-states : (bound : ℕ) (text states : List ℕ) → bound ≤ 2 ^ 64 → IsListOf bound text states → IsNumberList text
IsNumberList-states bound text states few is = go states is.list.spelled is.list.below is.sound
  where
    go : (states : List ℕ) → text ≡ spaced (map decimal states) → All (λ q. q < bound) states → IsStates states → IsNumberList text
    go [] spelled below sound = absurd (omega (arith, sound.some))
    go (q ∷ states) spelled below sound =
        let small : q < bound = below zero q (omega arith) in
        record {
          first = decimal q;
          others = map decimal states;
          spelled = spelled;
          number = IsNumber-decimal q (omega (arith, small, few));
          rising = states_rise bound q states few below sound.rising;
        }
