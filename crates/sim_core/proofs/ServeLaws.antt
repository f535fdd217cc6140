-- Laws on a session that is served, turn by turn.
use Rattle.std.proofs.Common.{◌≡◌, ℕ, ◌+◌, ◌<◌, List, [], ◌∷◌, ◌++◌, length, Bool, false, inl, inr, refl, ◌∙◌, arith, cond}
use Rattle.std.specs.List.{count_by, sum_by, AllZip}
use Rattle.std.proofs.Common.{All, true, ap, sym}
use Rattle.std.proofs.lemmas.Bool.{false≢true}
use Rattle.std.proofs.lemmas.List.Elements.{All-head, All-tail}
use Rattle.edge_io.specs.Links.{Leads as LeadsLink}
use Rattle.edge_io.specs.declared.act.Heard.{Heard}
use Rattle.edge_io.specs.declared.act.Heard.TheVariants.{Line, Idle, IdleMid, TooLong, End as HeardEnd}
use Rattle.edge_io.specs.declared.act.Act.TheVariants.{Listened, Gave as ActGave}
use Rattle.sim_core.specs.Acts.{GivesSimulated}
use Rattle.std.proofs.lemmas.List.{length_push}
use Rattle.std.proofs.lemmas.List.Sums.{sum_by-append}
use Rattle.edge_io.specs.declared.act.Act.{Act}
use Rattle.sim_core.specs.declared.serving.ServedEnd.{ServedEnd}
use Rattle.sim_core.specs.declared.serving.ServedEnd.TheVariants.{Spent}
use Rattle.sim_core.specs.declared.serving.ServedTurn.{ServedTurn}
use Rattle.sim_core.specs.declared.serving.ServedTurn.TheVariants.{Took, Gave, Waited, Ended}
use Rattle.sim_core.specs.Served.{Serving, IsTurn, AreTurns, AreServed, IsServed, is_taking, is_giving, is_ending, IsTaken, IsGiven, IsTurnAfter, IsActOf}

turns_push : {R S : Type 0} (gives : S → Act → S → Type 0) (step : R → ℕ × R) (p m q : Serving R S) (turns : List ServedTurn) (turn : ServedTurn) → AreTurns gives step p turns m → IsTurn gives step m turn q →
    AreTurns gives step p (turns ++ turn ∷ []) q
turns_push gives step p m q [] turn same one = (q, rw same at one, refl)
turns_push gives step p m q (first ∷ turns) turn (n, before, rest) one = (n, before, turns_push gives step n m q turns turn rest one)

-- 1 where it holds
abbrev one_if : Bool → ℕ
one_if b = cond b 1 0

count_push : (P : ServedTurn → Bool) (turns : List ServedTurn) (turn : ServedTurn) → count_by P (turns ++ turn ∷ []) ≡ count_by P turns + one_if (P turn)
count_push P turns turn =
    let whole : count_by P (turns ++ turn ∷ []) ≡ count_by P turns + sum_by (λ t. cond (P t) 1 0) (turn ∷ []) = sum_by-append (λ t. cond (P t) 1 0) turns (turn ∷ []) in
    let one : sum_by (λ t. cond (P t) 1 0) (turn ∷ []) ≡ 0 + one_if (P turn) = refl in
    omega (arith, whole, one)

-- so many turns went on, of which so many took a line and so many wrote one
abbrev pub HasServed : {R S : Type 0} → (S → Act → S → Type 0) → (R → ℕ × R) → Serving R S → ℕ → ℕ → ℕ → Serving R S → Type 0
HasServed gives step p inputs outputs count q = (turns : List ServedTurn) × AreServed gives step p turns inputs outputs q × (length turns ≡ count)

pub served_none : {R S : Type 0} (gives : S → Act → S → Type 0) (step : R → ℕ × R) (p : Serving R S) → HasServed gives step p 0 0 0 p
served_none gives step p = ([], record { are = refl; on = refl; taken = refl; given = refl }, refl)

-- one more turn that goes on
served_push : {R S : Type 0} (gives : S → Act → S → Type 0) (step : R → ℕ × R) (p m q : Serving R S) (turn : ServedTurn) (inputs outputs taken given count : ℕ) → is_ending turn ≡ false →
    taken ≡ inputs + one_if (is_taking turn) → given ≡ outputs + one_if (is_giving turn) → HasServed gives step p inputs outputs count m → IsTurn gives step m turn q →
    HasServed gives step p taken given (count + 1) q
served_push gives step p m q turn inputs outputs taken given count on more_taken more_given (turns, h, long) one = (
  turns ++ turn ∷ [],
  record {
    are = turns_push gives step p m q turns turn h.are one;
    on = let none : one_if (is_ending turn) ≡ 0 = rw on refl in omega (arith, count_push is_ending turns turn, none, h.on);
    taken = omega (arith, count_push is_taking turns turn, h.taken, more_taken);
    given = omega (arith, count_push is_giving turns turn, h.given, more_given);
  },
  omega (arith, length_push turns turn, long),
)

pub served_took : {R S : Type 0} (gives : S → Act → S → Type 0) (step : R → ℕ × R) (p m q : Serving R S) (inputs outputs count : ℕ) → HasServed gives step p inputs outputs count m → IsTurn gives step m Took q →
    HasServed gives step p (inputs + 1) outputs (count + 1) q
served_took gives step p m q inputs outputs count h one = served_push gives step p m q Took inputs outputs (inputs + 1) outputs count refl (omega arith) (omega arith) h one

pub served_gave : {R S : Type 0} (gives : S → Act → S → Type 0) (step : R → ℕ × R) (p m q : Serving R S) (inputs outputs count : ℕ) → HasServed gives step p inputs outputs count m → IsTurn gives step m Gave q →
    HasServed gives step p inputs (outputs + 1) (count + 1) q
served_gave gives step p m q inputs outputs count h one = served_push gives step p m q Gave inputs outputs inputs (outputs + 1) count refl (omega arith) (omega arith) h one

pub served_waited : {R S : Type 0} (gives : S → Act → S → Type 0) (step : R → ℕ × R) (p m q : Serving R S) (inputs outputs count : ℕ) → HasServed gives step p inputs outputs count m → IsTurn gives step m Waited q →
    HasServed gives step p inputs outputs (count + 1) q
served_waited gives step p m q inputs outputs count h one = served_push gives step p m q Waited inputs outputs inputs outputs count refl (omega arith) (omega arith) h one

-- the turns are spent
pub served_spent : {R S : Type 0} (gives : S → Act → S → Type 0) (step : R → ℕ × R) (p q : Serving R S) (inputs outputs count most : ℕ) → count ≡ most → HasServed gives step p inputs outputs count q →
    IsServed gives step most p (record { inputs = inputs; outputs = outputs; end = Spent }) q
served_spent gives step p q inputs outputs count most all (turns, h, long) = (turns, q, h, inl (long ∙ all, refl, refl))

-- a turn ends it
pub served_ended : {R S : Type 0} (gives : S → Act → S → Type 0) (step : R → ℕ × R) (p m q : Serving R S) (inputs outputs count most : ℕ) (end : ServedEnd) → count < most →
    HasServed gives step p inputs outputs count m → IsTurn gives step m (Ended end) q → IsServed gives step most p (record { inputs = inputs; outputs = outputs; end = end }) q
served_ended gives step p m q inputs outputs count most end below (turns, h, long) one = (turns, m, h, inr (omega (arith, below, long), one))

-- a turn that goes on is one act of the simulation
turn_act : {R S : Type 0} (gives : S → Act → S → Type 0) (step : R → ℕ × R) (p q : Serving R S) (turn : ServedTurn) → is_ending turn ≡ false → IsTurn gives step p turn q →
    (act : Act) × IsActOf turn act × GivesSimulated step p.sim act q.sim
turn_act gives step p q turn on (inr (fault, same)) = absurd (let ends : is_ending turn ≡ true = rw fault refl in false≢true (sym on ∙ ends))
turn_act gives step p q turn on (inl (heard, text, m, hears, after)) = go heard turn on after
  where
    given : (turn : ServedTurn) → is_ending turn ≡ false → IsGiven gives step (record p { link = m }) turn q → (act : Act) × IsActOf turn act × GivesSimulated step p.sim act q.sim
    given Took on gives = absurd gives
    given Gave on (line, shows, writes) = (Listened Line line, tt, shows)
    given Waited on (none, rests, same) = (Listened Idle none, tt, rests)
    given (Ended e) on gives = cc

    taken : (turn : ServedTurn) → is_ending turn ≡ false → IsTaken step p.sim text turn q.sim → (act : Act) × IsActOf turn act × GivesSimulated step p.sim act q.sim
    taken Took on takes = (ActGave text, tt, takes)
    taken Gave on takes = absurd takes
    taken Waited on takes = absurd takes
    taken (Ended e) on takes = cc

    go : (heard : Heard) (turn : ServedTurn) → is_ending turn ≡ false → IsTurnAfter gives step (record p { link = m }) heard text turn q → (act : Act) × IsActOf turn act × GivesSimulated step p.sim act q.sim
    go Line turn on (takes, same) = taken turn on takes
    go Idle turn on gives = given turn on gives
    go IdleMid turn on gives = given turn on gives
    go TooLong turn on (ends, same) = absurd (let e : is_ending turn ≡ true = rw ends refl in false≢true (sym on ∙ e))
    go HeardEnd turn on (ends, same) = absurd (let e : is_ending turn ≡ true = rw ends refl in false≢true (sym on ∙ e))

-- turns that go on are acts of the simulation
pub turns_act : {R S : Type 0} (gives : S → Act → S → Type 0) (step : R → ℕ × R) (p q : Serving R S) (turns : List ServedTurn) → All (λ turn. is_ending turn ≡ false) turns → AreTurns gives step p turns q →
    (acts : List Act) × AllZip IsActOf turns acts × LeadsLink (GivesSimulated step) p.sim acts q.sim
turns_act {R} {S} gives step p q [] on same = ([], tt, ap (λ (z : Serving R S). z.sim) same)
turns_act gives step p q (turn ∷ turns) on (m, one, rest) =
    let (act, is, does) = turn_act gives step p m turn (All-head (λ t. is_ending t ≡ false) turn turns on) one in
    let (acts, are, leads) = turns_act gives step m q turns (All-tail (λ t. is_ending t ≡ false) turn turns on) rest in
    (act ∷ acts, (is, are), (m.sim, does, leads))
