-- A content is an Aldebaran file of one raw system.
use Rattle.std.proofs.Common.{◌≡◌, ◌∙◌, ℕ, zero, suc, ◌<◌, List, [], length, map, get_or, Option, Some, None, option_map, Result, Ok, Err, MatchResult, IfOk, inl, inr, refl, sym, ap, subst, arith}
use Rattle.std.proofs.lemmas.Bool.{cases_lt}
use Rattle.std.proofs.lemmas.List.{length-map, get_or-map, ext_get_or}
use Rattle.lts_base.specs.declared.raw.RawMove.{RawMove}
use Rattle.lts_base.specs.System.{IsMoveOf, IsActOf}
use Rattle.lts_base.specs.Alphabet.{text_at}
use Rattle.lts_base.specs.Raw.{RawSystem, IsRaw, as_move, raw_act, raw_move_at}
use Rattle.aut_text.specs.Parts.{NamedMove, named}
use Rattle.aut_text.specs.declared.error.AutError.{AutError}
use Rattle.aut_text.specs.declared.error.AutError.TheVariants.{Memory}
use Rattle.aut_text.specs.Grammar.{IsAut, IsAutFile, SaysSame}
use Rattle.aut_text.specs.Faults.{RefusesAut}
use Rattle.aut_text.proofs.OnceLaws.{aut_once, aut_excludes}

-- a move without a label, by the texts
named_0 : NamedMove
named_0 = record { from = 0; label = None; to = 0 }

-- the same, said the other way round
says_back : (r q : RawSystem) → SaysSame r q → SaysSame q r
says_back r q says = record { states = sym says.states; start = sym says.start; moves = sym says.moves }

-- they have as many moves
same_long : (r q : RawSystem) → SaysSame r q → length r.moves ≡ length q.moves
same_long r q says = sym (length-map r.moves (named r.labels)) ∙ ap length (sym says.moves) ∙ length-map q.moves (named q.labels)

-- moves of one number are the same by the texts of their labels
same_move : (r q : RawSystem) → SaysSame r q → (k : ℕ) → k < length r.moves → named r.labels (raw_move_at r.moves k) ≡ named q.labels (raw_move_at q.moves k)
same_move r q says k below =
    let low : k < length q.moves = omega (arith, below, same_long r q says) in
    sym (get_or-map (named r.labels) r.moves k (record { from = 0; label = None; to = 0 }) named_0 below) ∙
    ap (λ (ms : List NamedMove). get_or ms k named_0) (sym says.moves) ∙
    get_or-map (named q.labels) q.moves k (record { from = 0; label = None; to = 0 }) named_0 low

-- a move carries none but a label of its system
raw_carried : (r : RawSystem) → IsRaw r → (k : ℕ) → k < length r.moves → IsActOf (length r.labels) (raw_act (raw_move_at r.moves k).label)
raw_carried r raw k below =
    let d : RawMove = record { from = 0; label = None; to = 0 } in
    let moved : get_or (map as_move r.moves) k (as_move d) ≡ as_move (get_or r.moves k d) = get_or-map as_move r.moves k d (as_move d) below in
    let one : IsMoveOf r.states (length r.labels) (as_move (get_or r.moves k d)) = subst (IsMoveOf r.states (length r.labels)) moved (raw.moves k (as_move d) (omega (arith, below, length-map r.moves as_move))) in
    one.act

-- the number of the label that a move carries
abbrev label_of : RawSystem → ℕ → Option ℕ
label_of r k = (raw_move_at r.moves k).label

-- moves of one number carry labels of one text
same_text : (r q : RawSystem) → SaysSame r q → (k : ℕ) → k < length r.moves → option_map (text_at r.labels) (label_of r k) ≡ option_map (text_at q.labels) (label_of q k)
same_text r q says k below = ap (λ (m : NamedMove). m.label) (same_move r q says k below)

-- the number of a label that a move carries is below the number of labels
carried_low : (r : RawSystem) (k a : ℕ) → IsRaw r → k < length r.moves → label_of r k ≡ Some a → a < length r.labels
carried_low r k a raw below is = subst (λ (o : Option ℕ). IsActOf (length r.labels) (raw_act o)) is (raw_carried r raw k below)

-- texts of given labels are the same
given_text : (r q : RawSystem) (k a b : ℕ) → SaysSame r q → k < length r.moves → label_of r k ≡ Some a → label_of q k ≡ Some b → text_at r.labels a ≡ text_at q.labels b
given_text r q k a b says below one two =
    let e : Some (text_at r.labels a) ≡ Some (text_at q.labels b) = sym (ap (option_map (text_at r.labels)) one) ∙ same_text r q says k below ∙ ap (option_map (text_at q.labels)) two in
    cc

-- where the numbers before it are the same, the first system's number isn't the lower one
not_lower : (r q : RawSystem) (k a b : ℕ) → IsRaw q → SaysSame r q → k < length r.moves → ((j : ℕ) → j < k → label_of r j ≡ label_of q j) → label_of r k ≡ Some a → label_of q k ≡ Some b → a < b → ⊥
not_lower r q k a b other says below before one two less =
    let low : k < length q.moves = omega (arith, below, same_long r q says) in
    let (j, earlier, carries) = other.labels.ordered a b k less (low, two) in
    let first : text_at r.labels a ≡ text_at q.labels a = given_text r q j a a says (omega (arith, earlier, below)) (before j earlier ∙ carries.1) carries.1 in
    let second : text_at r.labels a ≡ text_at q.labels b = given_text r q k a b says below one two in
    other.labels.distinct a b less (carried_low q k b other low two) (sym first ∙ second)

-- a move without a label carries none in the other system
not_none : (r q : RawSystem) (k b : ℕ) → SaysSame r q → k < length r.moves → label_of r k ≡ None → label_of q k ≡ Some b → ⊥
not_none r q k b says below one two =
    let e : None ≡ Some (text_at q.labels b) = sym (ap (option_map (text_at r.labels)) one) ∙ same_text r q says k below ∙ ap (option_map (text_at q.labels)) two in
    cc e

-- where the numbers before it are the same, so is this one
number_meets : (r q : RawSystem) (k : ℕ) → IsRaw r → IsRaw q → SaysSame r q → k < length r.moves → ((j : ℕ) → j < k → label_of r j ≡ label_of q j) → (o p : Option ℕ) → label_of r k ≡ o → label_of q k ≡ p → o ≡ p
number_meets r q k raw other says below before None None one two = refl
number_meets r q k raw other says below before None (Some b) one two = absurd (not_none r q k b says below one two)
number_meets r q k raw other says below before (Some a) None one two = absurd (not_none q r k a (says_back r q says) (omega (arith, below, same_long r q says)) two one)
number_meets r q k raw other says below before (Some a) (Some b) one two =
    elim (cases_lt a b) [
      | inl less ↦ absurd (not_lower r q k a b other says below before one two less)
      | inr least ↦
          elim (cases_lt b a) [
            | inl more ↦ absurd (not_lower q r k b a raw (says_back r q says) (omega (arith, below, same_long r q says)) (λ j earlier. sym (before j earlier)) two one more)
            | inr most ↦ let same : a ≡ b = omega (arith, least, most) in ap Some same
          ]
    ]

-- the numbers of the first n moves' labels are the same
numbers_below : (r q : RawSystem) → IsRaw r → IsRaw q → SaysSame r q → (n k : ℕ) → k < n → k < length r.moves → label_of r k ≡ label_of q k
numbers_below r q raw other says zero k less below = absurd (omega (arith, less))
numbers_below r q raw other says (suc n) k less below =
    number_meets r q k raw other says below (λ j earlier. numbers_below r q raw other says n j (omega (arith, earlier, less)) (omega (arith, earlier, below))) (label_of r k) (label_of q k) refl refl

-- the number of each label is carried by a move of the other system
other_carries : (r q : RawSystem) → IsRaw r → IsRaw q → SaysSame r q → (k a : ℕ) → k < length r.moves → label_of r k ≡ Some a → label_of q k ≡ Some a
other_carries r q raw other says k a below is = sym (numbers_below r q raw other says (suc k) k (omega arith) below) ∙ is

-- each number of a label is one of the other system
number_low : (r q : RawSystem) → IsRaw r → IsRaw q → SaysSame r q → (a : ℕ) → a < length r.labels → a < length q.labels
number_low r q raw other says a low =
    let (k, (below, is)) = raw.labels.carried a low in
    carried_low q k a other (omega (arith, below, same_long r q says)) (other_carries r q raw other says k a below is)

-- both systems have as many labels
same_count : (r q : RawSystem) → IsRaw r → IsRaw q → SaysSame r q → length r.labels ≡ length q.labels
same_count r q raw other says =
    elim (cases_lt (length r.labels) (length q.labels)) [
      | inl less ↦ absurd (let low = number_low q r other raw (says_back r q says) (length r.labels) less in omega (arith, low))
      | inr least ↦
          elim (cases_lt (length q.labels) (length r.labels)) [
            | inl more ↦ absurd (let low = number_low r q raw other says (length q.labels) more in omega (arith, low))
            | inr most ↦ omega (arith, least, most)
          ]
    ]

-- labels of one number have one text
same_label : (r q : RawSystem) → IsRaw r → IsRaw q → SaysSame r q → (a : ℕ) → a < length r.labels → text_at r.labels a ≡ text_at q.labels a
same_label r q raw other says a low =
    let (k, (below, is)) = raw.labels.carried a low in
    given_text r q k a a says below is (other_carries r q raw other says k a below is)

-- raw systems that say the same have the same labels
labels_same : (r q : RawSystem) → IsRaw r → IsRaw q → SaysSame r q → r.labels ≡ q.labels
labels_same r q raw other says = ext_get_or [] r.labels q.labels (same_count r q raw other says) (λ a low. same_label r q raw other says a low)

-- moves of one number are equal
move_meets : (r q : RawSystem) → IsRaw r → IsRaw q → SaysSame r q → (k : ℕ) → k < length r.moves → raw_move_at r.moves k ≡ raw_move_at q.moves k
move_meets r q raw other says k below =
    let same : named r.labels (raw_move_at r.moves k) ≡ named q.labels (raw_move_at q.moves k) = same_move r q says k below in
    let F : ℕ → Option ℕ → ℕ → RawMove = λ p l t. record { from = p; label = l; to = t } in
    let from : (raw_move_at r.moves k).from ≡ (raw_move_at q.moves k).from = ap (λ (m : NamedMove). m.from) same in
    let to : (raw_move_at r.moves k).to ≡ (raw_move_at q.moves k).to = ap (λ (m : NamedMove). m.to) same in
    let label : label_of r k ≡ label_of q k = numbers_below r q raw other says (suc k) k (omega arith) below in
    ap (λ p. F p (label_of r k) (raw_move_at r.moves k).to) from ∙ ap (λ l. F (raw_move_at q.moves k).from l (raw_move_at r.moves k).to) label ∙ ap (F (raw_move_at q.moves k).from (label_of q k)) to

-- raw systems that say the same are equal, since labels are numbered in the order of their first use
pub raw_same : (r q : RawSystem) → IsRaw r → IsRaw q → SaysSame r q → r ≡ q
raw_same r q raw other says =
    let G : ℕ → ℕ → List (List ℕ) → List RawMove → RawSystem = λ n p ls ms. record { states = n; start = p; labels = ls; moves = ms } in
    let moves : r.moves ≡ q.moves = ext_get_or (record { from = 0; label = None; to = 0 }) r.moves q.moves (same_long r q says) (λ k below. move_meets r q raw other says k below) in
    ap (λ n. G n r.start r.labels r.moves) (sym says.states) ∙ ap (λ p. G q.states p r.labels r.moves) (sym says.start) ∙
    ap (λ ls. G q.states q.start ls r.moves) (labels_same r q raw other says) ∙ ap (G q.states q.start q.labels) moves

-- a content is the file of one raw system
pub raw_once : (c : List ℕ) (r q : RawSystem) → IsAutFile c r → IsAutFile c q → r ≡ q
raw_once c r q one two = raw_same r q one.sound two.sound (aut_once c r q one.file two.file)

-- what is read of a content is sound
pub file_of : (c : List ℕ) (r : Result RawSystem AutError) → MatchResult r (IsAut c) (RefusesAut c) → IfOk r IsRaw → MatchResult r (IsAutFile c) (RefusesAut c)
file_of c (Ok raw) read sound = record { file = read; sound = sound }
file_of c (Err e) read sound = read

pub file_refused : (c : List ℕ) (r : Result RawSystem AutError) → MatchResult r (IsAutFile c) (RefusesAut c) → MatchResult r (IsAut c) (RefusesAut c)
file_refused c (Ok raw) read = read.file
file_refused c (Err e) read = read

-- what is read of a content is its one system
pub file_only : (c : List ℕ) (q : RawSystem) (r : Result RawSystem AutError) → MatchResult r (IsAutFile c) (RefusesAut c) → IsAutFile c q → MatchResult r (λ raw. raw ≡ q) (λ e. e ≡ Memory)
file_only c q (Ok raw) read file = raw_once c raw q read file
file_only c q (Err e) read file = aut_excludes c q e file.file read
