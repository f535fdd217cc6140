-- Laws on the completion by loops.
use Rattle.std.proofs.Common.{◌≡◌, ◌≢◌, ◌↔◌, ℕ, suc, ◌+◌, ◌<◌, ◌≤◌, List, [], ◌∷◌, ◌++◌, Result, Ok, Err, IfOk, IfErr, length, get_or, remove, All, Contains, Bool, true, false, inl, inr, ◌⊎◌, refl, sym, ◌∙◌, ap, arith}
use Rattle.std.specs.List.{AllPairs}
use Rattle.std.specs.List.Sorted.{IsPermutation}
use Rattle.std.proofs.lemmas.List.{append-nil, append_assoc, length-append, length_push, get_or_default, get_or_read}
use Rattle.std.proofs.lemmas.List.Elements.{All-nil, All-push, All-contains, Contains-push, Contains-push_cases, Contains-append_left, Contains-append_right, Contains-append_cases}
use Rattle.std.proofs.lemmas.List.Quantifiers.{all_pairs_push}
use Rattle.std.proofs.lemmas.List.Sorted.{length_permutation, Contains-permutation, IsPermutation-sym, IsPermutation-remove}
use Rattle.std.proofs.lemmas.Bool.{cases_lt, false≢true}
use Rattle.lts_base.specs.declared.action.Act.{Act}
use Rattle.lts_base.specs.declared.action.Act.TheVariants.{Tau, Label}
use Rattle.lts_base.specs.declared.action.Move.{Move}
use Rattle.lts_base.specs.declared.limits.TheConstants.{MOST_MOVES}
use Rattle.lts_base.specs.Built.{IsBuiltOf}
use Rattle.lts_base.specs.System.{System, IsSystem, IsMoveOf, label_count, HasMove, IsTauPath, IsQuiet}
use Rattle.lts_base.specs.Path.{Step, Along, Rest, IsPath, item_of, trace_of}
use Rattle.lts_base.specs.Shape.{IsInputEnabled}
use Rattle.lts_base.proofs.Leads.{act_cases, Leads-here}
use Rattle.lts_base.specs.Alphabet.{Alphabet, IsOver}
use Rattle.lts_base.proofs.ListLaws.{Contains-none, Contains-first_cases}
use Rattle.lts_shape.specs.declared.completion.ShapeError.{ShapeError}
use Rattle.lts_shape.specs.declared.completion.ShapeError.TheVariants.{TooManyMoves, Memory}
use Rattle.lts_shape.specs.Inputs.{CanTake, Lacks, AreTakers}
use Rattle.lts_shape.specs.Marks.{AreMarks}
use Rattle.lts_shape.specs.Angelic.{loop_with, IsMissingLoop, AreMissingLoops, AreAllLoops, IsAngelic, RefusesAngelic, IsReadAs, IsCompletion, IsFull, IsEarlier, AreLoopsBelow, AreLoopsUpTo}
use Rattle.lts_shape.proofs.FollowLaws.{AreMarksOf-from_found}

no_loops : (s : System) → AreMissingLoops s []
no_loops s = record { each = All-nil (IsMissingLoop s); once = λ j k d before below. omega (arith, below) }

-- there are too many moves as it is
pub refused_at_once : (s : System) (count : ℕ) → count ≡ length s.moves → MOST_MOVES < count → RefusesAngelic s TooManyMoves
refused_at_once s count same over = ([], no_loops s, omega (arith, same, over))

never_earlier : (a q : ℕ) → IsEarlier 0 0 a q → ⊥
never_earlier a q (inl below) = omega (arith, below)
never_earlier a q (inr (same, below)) = omega (arith, below)

-- no loop yet
pub AreLoopsUpTo-none : (s : System) (moves : List Move) → moves ≡ s.moves → length s.moves ≤ MOST_MOVES → AreLoopsUpTo s 0 0 moves
AreLoopsUpTo-none s moves same within = rw same (
  within,
  (
    [],
    sym (append-nil s.moves),
    record {
      missing = no_loops s;
      early = λ q a inside. absurd (Contains-none (loop_with q a) inside);
      all = λ q a below input earlier. absurd (never_earlier a q earlier);
    },
  ),
)

-- the states are all done, so the next input is at hand
pub AreLoopsUpTo-input : (s : System) (n p : ℕ) (moves : List Move) → s.states ≤ p → AreLoopsUpTo s n p moves → AreLoopsUpTo s (n + 1) 0 moves
AreLoopsUpTo-input s n p moves over (within, (loops, same, are)) = (
  within,
  (
    loops,
    same,
    record {
      missing = are.missing;
      early = λ q a inside. raised a q (are.early q a inside);
      all = λ q a below input earlier. are.all q a below input (lowered a q below earlier);
    },
  ),
)
  where
    raised : (a q : ℕ) → IsEarlier n p a q → IsEarlier (n + 1) 0 a q
    raised a q (inl low) = inl (omega (arith, low))
    raised a q (inr (here, low)) = inl (omega (arith, here))

    lowered : (a q : ℕ) → q < s.states → IsEarlier (n + 1) 0 a q → IsEarlier n p a q
    lowered a q below (inl low) = elim (cases_lt a n) [
      | inl less ↦ inl less
      | inr more ↦ inr (omega (arith, low, more), omega (arith, below, over))
    ]
    lowered a q below (inr (here, low)) = absurd (omega (arith, low))

-- the next state can take the input
skipped : (s : System) (n p : ℕ) (loops : List Move) → CanTake s n p → AreLoopsBelow s n p loops → AreLoopsBelow s n (p + 1) loops
skipped s n p loops can are = record {
  missing = are.missing;
  early = λ q a inside. raised a q (are.early q a inside);
  all = found;
}
  where
    raised : (a q : ℕ) → IsEarlier n p a q → IsEarlier n (p + 1) a q
    raised a q (inl low) = inl low
    raised a q (inr (here, low)) = inr (here, omega (arith, low))

    found : (q a : ℕ) → q < s.states → a < s.inputs → IsEarlier n (p + 1) a q → CanTake s a q ⊎ Contains loops (loop_with q a)
    found q a below input (inl low) = are.all q a below input (inl low)
    found q a below input (inr (here, low)) = elim (cases_lt q p) [
      | inl less ↦ are.all q a below input (inr (here, less))
      | inr more ↦
          let same : q ≡ p = omega (arith, low, more) in
          let can' : CanTake s a q = rw (here, same) can in
          inl can'
    ]

-- one more loop, which isn't there yet
missing_push : (s : System) (loops : List Move) (n p : ℕ) → p < s.states → n < s.inputs → Lacks s n p → AreMissingLoops s loops → (Contains loops (loop_with p n) → ⊥) → AreMissingLoops s (loops ++ loop_with p n ∷ [])
missing_push s loops n p state input lacks are fresh = record {
  each = All-push (IsMissingLoop s) loops (loop_with p n) are.each (p, n, refl, state, input, lacks);
  once = all_pairs_push (λ m n. m ≢ n) loops (loop_with p n) are.once (λ k d below same. fresh (k, below, get_or_default loops k (loop_with p n) d below ∙ same));
}

-- the next state lacks the input, and has its loop
grown : (s : System) (n p : ℕ) (loops : List Move) → p < s.states → n < s.inputs → Lacks s n p → AreLoopsBelow s n p loops → AreLoopsBelow s n (p + 1) (loops ++ loop_with p n ∷ [])
grown s n p loops state input_n lacks_n are = record {
  missing = missing_push s loops n p state input_n lacks_n are.missing fresh;
  early = λ q a inside. raised q a (Contains-push_cases loops (loop_with p n) (loop_with q a) inside);
  all = found;
}
  where
    fresh : Contains loops (loop_with p n) → ⊥
    fresh inside = never (are.early p n inside)
      where
        never : IsEarlier n p n p → ⊥
        never (inl low) = omega (arith, low)
        never (inr (here, low)) = omega (arith, low)

    raised : (q a : ℕ) → Contains loops (loop_with q a) ⊎ (loop_with p n ≡ loop_with q a) → IsEarlier n (p + 1) a q
    raised q a (inl inside) = up (are.early q a inside)
      where
        up : IsEarlier n p a q → IsEarlier n (p + 1) a q
        up (inl low) = inl low
        up (inr (here, low)) = inr (here, omega (arith, low))
    raised q a (inr same) =
        let from : p ≡ q = ap {A = Move} {B = ℕ} (λ m. m.from) same in
        let act : Label n ≡ Label a = ap {A = Move} {B = Act} (λ m. m.act) same in
        inr (sym (labels n a act), omega (arith, from))
      where
        labels : (n a : ℕ) → Label n ≡ Label a → n ≡ a
        labels n a act = cc

    kept : (q a : ℕ) → CanTake s a q ⊎ Contains loops (loop_with q a) → CanTake s a q ⊎ Contains (loops ++ loop_with p n ∷ []) (loop_with q a)
    kept q a (inl can) = inl can
    kept q a (inr inside) = inr (Contains-append_left loops (loop_with p n ∷ []) (loop_with q a) inside)

    found : (q a : ℕ) → q < s.states → a < s.inputs → IsEarlier n (p + 1) a q → CanTake s a q ⊎ Contains (loops ++ loop_with p n ∷ []) (loop_with q a)
    found q a below input (inl low) = kept q a (are.all q a below input (inl low))
    found q a below input (inr (here, low)) = elim (cases_lt q p) [
      | inl less ↦ kept q a (are.all q a below input (inr (here, less)))
      | inr more ↦
          let same : q ≡ p = omega (arith, low, more) in
          let inside : Contains (loops ++ loop_with p n ∷ []) (loop_with q a) = rw (here, same) (Contains-push loops (loop_with p n)) in
          inr inside
    ]

-- what the marks of the states that can take the input say of a state
pub lacks_from_marks : (s : System) (n states p : ℕ) (found : List ℕ) (marks : List Bool) → AreTakers s n found → AreMarks found (length found) states marks → get_or marks p false ≡ false → Lacks s n p
lacks_from_marks s n states p found marks takers are unmarked can =
    let can_all = AreMarksOf-from_found (CanTake s n) found states marks takers.each takers.all are in
    false≢true (sym unmarked ∙ can_all.all p can)

pub can_from_marks : (s : System) (n states p : ℕ) (found : List ℕ) (marks : List Bool) → AreTakers s n found → AreMarks found (length found) states marks → get_or marks p false ≡ true → CanTake s n p
can_from_marks s n states p found marks takers are marked =
    let can_all = AreMarksOf-from_found (CanTake s n) found states marks takers.each takers.all are in
    can_all.each p marked

pub AreLoopsUpTo-skip : (s : System) (n p : ℕ) (moves : List Move) → CanTake s n p → AreLoopsUpTo s n p moves → AreLoopsUpTo s n (p + 1) moves
AreLoopsUpTo-skip s n p moves can (within, (loops, same, are)) = (within, (loops, same, skipped s n p loops can are))

pub AreLoopsUpTo-add : (s : System) (n p : ℕ) (moves new : List Move) → p < s.states → n < s.inputs → Lacks s n p → new ≡ moves ++ loop_with p n ∷ [] → length new ≤ MOST_MOVES → AreLoopsUpTo s n p moves → AreLoopsUpTo s n (p + 1) new
AreLoopsUpTo-add s n p moves new state input lacks more within (_, (loops, same, are)) =
    (within, (loops ++ loop_with p n ∷ [], more ∙ ap {A = List Move} {B = List Move} (λ z. z ++ loop_with p n ∷ []) same ∙ append_assoc s.moves loops (loop_with p n ∷ []), grown s n p loops state input lacks are))

-- the list is full, and one more loop is missing
pub refused_when_full : (s : System) (n p : ℕ) (moves : List Move) (e : ShapeError) → p < s.states → n < s.inputs → Lacks s n p → AreLoopsUpTo s n p moves → IsFull moves e → RefusesAngelic s e
refused_when_full s n p moves TooManyMoves state input lacks (within, (loops, same, are)) full =
    let more = grown s n p loops state input lacks are in
    let long : length moves ≡ length s.moves + length loops = ap (length {A = Move}) same ∙ length-append s.moves loops in
    (loops ++ loop_with p n ∷ [], more.missing, omega (arith, full, long, length_push loops (loop_with p n)))
refused_when_full s n p moves Memory state input lacks are full = tt

-- all inputs are done, and the system was built
pub IsAngelic-from_built : (s t u : System) (a : Alphabet) (moves : List Move) → IsOver a s → IsBuiltOf s.states s.start a t → AreLoopsUpTo s s.inputs 0 moves → IsPermutation moves t.moves → IsReadAs s.divergence t u → IsAngelic s u
IsAngelic-from_built s t u a moves over built (within, (loops, same, are)) sorted read = record {
  states = read.states ∙ built.states;
  start = read.start ∙ built.start;
  inputs = read.inputs ∙ built.inputs ∙ sym over.inputs;
  outputs = read.outputs ∙ built.outputs ∙ sym over.outputs;
  divergence = read.reading;
  moves = (loops, record { missing = are.missing; all = λ q a below input. are.all q a below input (inl input) }, rw (read.moves, ← same) sorted);
}

pub within_limit : (moves sorted read : List Move) → length moves ≤ MOST_MOVES → IsPermutation moves sorted → read ≡ sorted → length read ≤ MOST_MOVES
within_limit moves sorted read within permuted same = rw same (omega (arith, within, length_permutation moves sorted permuted))

-- the mark that was read at a state
pub read_mark : (found : List ℕ) (states : ℕ) (marks : List Bool) (q : ℕ) (mark value : Bool) → AreMarks found (length found) states marks → q < states → mark ≡ get_or marks q mark → mark ≡ value → get_or marks q false ≡ value
read_mark found states marks q mark value are below read is = sym (get_or_read marks q mark (omega (arith, below, are.long)) read false) ∙ is

-- the completed system is input-enabled
pub IsAngelic-enabled : (s t : System) → IsSystem s → IsAngelic s t → IsInputEnabled t
IsAngelic-enabled s t system is σ q (path, on, e) a input =
    let low : q < s.states = states_below path t.start (rw is.start system.start) on in
    let input' : a < s.inputs = rw is.inputs at input in
    elim (are.all q a low input') [
      | inl (r, (steps, silent, f), takes) ↦ let up = lifted steps q r silent f in (r, (steps, up.0, up.1), (takes.0, old (record { from = r; act = Label a; to = takes.0 }) takes.1))
      | inr inside ↦ (q, Leads-here t q, (q, new (loop_with q a) inside))
    ]
  where
    loops : List Move
    loops = is.moves.0

    are : AreAllLoops s loops
    are = is.moves.1

    sorted : IsPermutation (s.moves ++ loops) t.moves
    sorted = is.moves.2

    old : (m : Move) → Contains s.moves m → Contains t.moves m
    old m inside = Contains-permutation (s.moves ++ loops) t.moves m sorted (Contains-append_left s.moves loops m inside)

    new : (m : Move) → Contains loops m → Contains t.moves m
    new m inside = Contains-permutation (s.moves ++ loops) t.moves m sorted (Contains-append_right s.moves loops m inside)

    target_below : (m : Move) → Contains t.moves m → m.to < s.states
    target_below m inside = elim (Contains-append_cases s.moves loops m (Contains-permutation t.moves (s.moves ++ loops) m (IsPermutation-sym (s.moves ++ loops) t.moves sorted) inside)) [
      | inl here ↦
          let move = All-contains (IsMoveOf s.states (label_count s)) s.moves m system.moves here in
          move.to
      | inr here ↦
          let (p, b, same, low, input_b, lacks_b) = All-contains (IsMissingLoop s) loops m are.missing.each here in
          let e : m.to ≡ p = ap {A = Move} {B = ℕ} (λ x. x.to) same in
          rw e low
    ]

    states_below : (steps : List Step) (p : ℕ) → p < s.states → IsPath t p steps q → q < s.states
    states_below [] p low on = rw on at low
    states_below (Rest ∷ steps) p low on = states_below steps p low on.1
    states_below (Along m ∷ steps) p low on = states_below steps m.to (target_below m on.1) on.2

    lifted : (steps : List Step) (p r : ℕ) → IsPath s p steps r → trace_of s steps ≡ [] → IsPath t p steps r × (trace_of t steps ≡ [])
    lifted [] p r on e = (on, refl)
    lifted (Rest ∷ steps) p r on e = cc
    lifted (Along m ∷ steps) p r on e = elim (act_cases m.act) [
      | inl tau ↦
          let e' : trace_of s steps ≡ [] = rw tau at e in
          let rest = lifted steps m.to r on.2 e' in
          ((on.0, old m on.1, rest.0), rw tau rest.1)
      | inr (l, label) ↦
          let e' : item_of s l ∷ trace_of s steps ≡ [] = rw label at e in
          cc
    ]

-- distinct moves that are all in a list are at most as many
distinct_within : (some all : List Move) → AllPairs (λ m n. m ≢ n) some → All (Contains all) some → length some ≤ length all
distinct_within [] all once inside = omega arith
distinct_within (m ∷ some) all once inside =
    let (k, below, at) = inside 0 m (omega arith) in
    let rest : List Move = remove all k in
    let sorted : IsPermutation all (m ∷ rest) = IsPermutation-remove all k m below (sym at) in
    let long : length (m ∷ rest) ≡ length all = length_permutation all (m ∷ rest) sorted in
    let fewer = distinct_within some rest (λ i j d less low. once (suc i) (suc j) d (omega (arith, less)) (omega (arith, low)))
    (λ j d low. elim (Contains-first_cases m rest (get_or some j d) (Contains-permutation all (m ∷ rest) (get_or some j d) sorted (inside (suc j) d (omega (arith, low))))) [
      | inl same ↦ absurd (once 0 (suc j) d (omega arith) (omega (arith, low)) same)
      | inr later ↦ later
    ]) in
    omega (arith, fewer, long)

-- where the system is refused, its moves and all its loops are more than the limit
pub refused_by_all : (s : System) (loops : List Move) → AreAllLoops s loops → RefusesAngelic s TooManyMoves → MOST_MOVES < length s.moves + length loops
refused_by_all s loops are (some, missing, over) =
    let within = distinct_within some loops missing.once (λ k d below. there (get_or some k d) (missing.each k d below)) in
    omega (arith, over, within)
  where
    there : (m : Move) → IsMissingLoop s m → Contains loops m
    there m (q, a, same, low, input, lacks) = rw same (elim (are.all q a low input) [
      | inl can ↦ absurd (lacks can)
      | inr inside ↦ inside
    ])

-- two completions have as many moves
pub no_longer : (s t u : System) → IsAngelic s t → IsAngelic s u → length t.moves ≤ length u.moves
no_longer s t u one two =
    let long : length t.moves ≡ length (s.moves ++ one.moves.0) = length_permutation _ _ one.moves.2 in
    let other : length u.moves ≡ length (s.moves ++ two.moves.0) = length_permutation _ _ two.moves.2 in
    let fit = distinct_within one.moves.0 two.moves.0 one.moves.1.missing.once (each one.moves.0 one.moves.1.missing.each) in
    let sum = length-append s.moves one.moves.0 in
    let total = length-append s.moves two.moves.0 in
    omega (arith, long, other, fit, sum, total)
  where
    there : (m : Move) → IsMissingLoop s m → Contains two.moves.0 m
    there m (q, a, is, below, input, lacks) = elim (two.moves.1.all q a below input) [
      | inl can ↦ absurd (lacks can)
      | inr inside ↦ rw is inside
    ]

    each : (loops : List Move) → All (IsMissingLoop s) loops → All (Contains two.moves.0) loops
    each loops missing k d below = there (get_or loops k d) (missing k d below)

-- a refusal says that a completion has too many moves, or that memory ran out
pub too_many : (s t : System) (e : ShapeError) → IsAngelic s t → RefusesAngelic s e → (e ≡ Memory) ⊎ (MOST_MOVES < length t.moves)
too_many s t Memory is why = inl refl
too_many s t TooManyMoves is why =
    let long : length t.moves ≡ length (s.moves ++ is.moves.0) = length_permutation _ _ is.moves.2 in
    let over = refused_by_all s is.moves.0 is.moves.1 why in
    let sum = length-append s.moves is.moves.0 in
    inr (omega (arith, long, over, sum))

-- the answer is the completion exactly where that has at most 1,048,576 moves, but for memory
pub exactly : (s t : System) (result : Result System ShapeError) → IsAngelic s t → IfOk result (IsAngelic s) → IfOk result (λ u. length u.moves ≤ MOST_MOVES) → IfErr result (RefusesAngelic s) →
    IsCompletion t result
exactly s t (Ok u) is ok within err =
    let same = no_longer s t u is ok in
    omega (arith, same, within)
exactly s t (Err e) is ok within err = too_many s t e is err

-- the moves of the completion that carry Tau or an output are those of the system
old_move : (s t : System) (p q : ℕ) (act : Act) → IsAngelic s t → ((a : ℕ) → act ≡ Label a → s.inputs ≤ a) → HasMove t p act q ↔ HasMove s p act q
old_move s t p q act is high = (
  λ has. back (Contains-append_cases s.moves is.moves.0 m (Contains-permutation t.moves (s.moves ++ is.moves.0) m (IsPermutation-sym (s.moves ++ is.moves.0) t.moves is.moves.2) has)),
  λ has. Contains-permutation (s.moves ++ is.moves.0) t.moves m is.moves.2 (Contains-append_left s.moves is.moves.0 m has),
)
  where
    m : Move
    m = record { from = p; act = act; to = q }

    back : Contains s.moves m ⊎ Contains is.moves.0 m → HasMove s p act q
    back (inl here) = here
    back (inr loop) =
        let (r, b, same, low, input, lacks) = All-contains (IsMissingLoop s) is.moves.0 m is.moves.1.missing.each loop in
        let label : act ≡ Label b = ap {A = Move} {B = Act} (λ x. x.act) same in
        let above = high b label in
        absurd (omega (arith, above, input))

no_label : (a b : ℕ) → Tau ≡ Label a → b ≤ a
no_label a b e = cc

tau_path : (s t : System) (p : ℕ) (rs : List ℕ) (q : ℕ) → ((p q : ℕ) → HasMove s p Tau q → HasMove t p Tau q) → IsTauPath s p rs q → IsTauPath t p rs q
tau_path s t p [] q moves on = on
tau_path s t p (r ∷ rs) q moves on = (moves p r on.0, tau_path s t r rs q moves on.1)

-- the same states are quiet in the completion
pub IsAngelic-quiet : (s t : System) (p : ℕ) → IsAngelic s t → IsQuiet t p ↔ IsQuiet s p
IsAngelic-quiet s t p is = (to_old, to_new)
  where
    tau : (p q : ℕ) → HasMove t p Tau q ↔ HasMove s p Tau q
    tau p q = old_move s t p q Tau is (λ a e. no_label a s.inputs e)

    output : (p q a : ℕ) → s.inputs ≤ a → HasMove t p (Label a) q ↔ HasMove s p (Label a) q
    output p q a above = old_move s t p q (Label a) is (λ b e. let same : a ≡ b = label_same a b e in omega (arith, above, same))
      where
        label_same : (a b : ℕ) → Label a ≡ Label b → a ≡ b
        label_same a b e = cc

    to_old : IsQuiet t p → IsQuiet s p
    to_old (inl (stable, none)) = inl (λ q has. stable q ((tau p q).1 has), λ a above takes. none a (rw is.inputs above) (takes.0, (output p takes.0 a above).1 takes.1))
    to_old (inr (quiet, (r, rs, on))) = inr (sym is.divergence ∙ quiet, (r, rs, tau_path t s p (r ∷ rs) p (λ p q. (tau p q).0) on))

    to_new : IsQuiet s p → IsQuiet t p
    to_new (inl (stable, none)) = inl (λ q has. stable q ((tau p q).0 has), λ a above takes. let above' : s.inputs ≤ a = rw is.inputs at above in none a above' (takes.0, (output p takes.0 a above').0 takes.1))
    to_new (inr (quiet, (r, rs, on))) = inr (is.divergence ∙ quiet, (r, rs, tau_path s t p (r ∷ rs) p (λ p q. (tau p q).1) on))
