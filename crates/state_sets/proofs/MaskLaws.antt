-- Laws on the rows of bits of states and of lists of states.
use Rattle.std.proofs.Common.{◌≡◌, ℕ, ◌+◌, ◌*◌, ◌<◌, ◌≤◌, ◌⊎◌, ◌↔◌, List, [], ◌∷◌, ◌++◌, length, get_or, Contains, Bool, refl, sym, ◌∙◌, ap, inl, inr, arith}
use Rattle.std.specs.Prelude.{IsTrue}
use Rattle.std.proofs.lemmas.List.{length_push, get_or_push, get_or_append_left, get_or_default}
use Rattle.std.proofs.lemmas.List.Elements.{All-contains, Contains-get_or}
use Rattle.std.proofs.lemmas.Bool.{cases_lt}
use Rattle.lts_base.specs.declared.action.Act.TheVariants.{Tau, Label}
use Rattle.lts_base.specs.declared.action.Move.{Move}
use Rattle.lts_base.specs.declared.item.Item.TheVariants.{Output, Delta}
use Rattle.lts_base.specs.System.{System, IsSystem, IsMoveOf, IsItemOf, label_count, Takes, IsQuiet, AreMovesOf}
use Rattle.lts_base.specs.After.{Shows}
use Rattle.lts_base.proofs.ListLaws.{Contains-first_cases, Contains-first, none_contained}
use Rattle.state_sets.specs.Finds.{IsLeastFrom, IsTakenIn}
use Rattle.state_sets.specs.Rows.{Table, HasBit, HasPlace, IsRowOf, AreMasks, width_of}
use Rattle.state_sets.proofs.Reaching.{HasMove-at}
use Rattle.state_sets.proofs.OfferLaws.{Shows-output}

-- a label that some state takes is one of the alphabet
pub takes_within : (s : System) (p a : ℕ) → IsSystem s → Takes s p a → a < label_count s
takes_within s p a system (q, has) =
    let move : IsMoveOf s.states (label_count s) (record { from = p; act = Label a; to = q }) = All-contains (IsMoveOf s.states (label_count s)) s.moves (record { from = p; act = Label a; to = q }) system.moves has in
    move.act

-- a number of the alphabet, or the one after it, has a bit in a row
pub place_within : (s : System) (n a : ℕ) → n ≡ width_of s → a ≤ label_count s → a < 64 * n
place_within s n a e below = rw e (omega (arith, below))

-- of the first n moves the labels have been marked
pub record AreMarked (ms : List Move) (row : List ℕ) (n : ℕ) : Type 0 where
  pub each : (a : ℕ) → HasBit row a → (k : ℕ) × (k < n) × ((d : Move) → (get_or ms k d).act ≡ Label a)
  pub all : (k a : ℕ) (d : Move) → k < n → (get_or ms k d).act ≡ Label a → HasBit row a

pub marked_none : (ms : List Move) (bits : List ℕ) → ((a : ℕ) → HasBit bits a → ⊥) → AreMarked ms bits 0
marked_none ms row clear = record {
  each = λ a has. absurd (clear a has);
  all = λ k a d below. absurd (omega (arith, below));
}

-- the next move carries a label, which is marked
pub marked_label : (ms : List Move) (old new : List ℕ) (n b : ℕ) (e : Move) → n < length ms → (get_or ms n e).act ≡ Label b → ((a : ℕ) → HasBit new a ↔ (HasBit old a ⊎ (a ≡ b))) → AreMarked ms old n → AreMarked ms new (n + 1)
marked_label ms old new n b e inside carries bits is = record {
  each = λ a has. elim ((bits a).0 has) [
    | inl before ↦ let (k, below, at) = is.each a before in (k, omega (arith, below), at)
    | inr same ↦ (n, omega arith, λ d. rw (get_or_default ms n d e inside, same) carries)
  ];
  all = λ k a d below at. elim (cases_lt k n) [
    | inl earlier ↦ (bits a).1 (inl (is.all k a d earlier at))
    | inr late ↦
        let here : k ≡ n = omega (arith, late, below) in
        let there : (get_or ms n d).act ≡ Label a = rw here at at in
        let read : get_or ms n d ≡ get_or ms n e = get_or_default ms n d e inside in
        let both : Label a ≡ Label b = sym there ∙ rw read carries in
        (bits a).1 (inr (label_injective a b both))
  ];
}
  where
    label_injective : (a b : ℕ) → Label a ≡ Label b → a ≡ b
    label_injective a b same = cc

-- the next move is one with Tau
pub marked_tau : (ms : List Move) (row : List ℕ) (n : ℕ) (e : Move) → n < length ms → (get_or ms n e).act ≡ Tau → AreMarked ms row n → AreMarked ms row (n + 1)
marked_tau ms row n e inside tau is = record {
  each = λ a has. let (k, below, at) = is.each a has in (k, omega (arith, below), at);
  all = λ k a d below at. elim (cases_lt k n) [
    | inl earlier ↦ is.all k a d earlier at
    | inr late ↦
        let here : k ≡ n = omega (arith, late, below) in
        let there : (get_or ms n d).act ≡ Label a = rw here at at in
        let read : get_or ms n d ≡ get_or ms n e = get_or_default ms n d e inside in
        let both : Tau ≡ Label a = sym tau ∙ (rw read at there) in
        absurd (different a both)
  ];
}
  where
    different : (a : ℕ) → Tau ≡ Label a → ⊥
    different a same = cc

-- all moves of the state have been looked at
pub marked_all : (s : System) (p : ℕ) (ms : List Move) (row : List ℕ) (n : ℕ) → AreMovesOf s p ms → n ≡ length ms → AreMarked ms row n → (a : ℕ) → HasBit row a ↔ Takes s p a
marked_all s p ms row n these e is a = (
  λ has.
      let (k, below, at) = is.each a has in
      ((get_or ms k nowhere).to, HasMove-at s p (Label a) ms k nowhere these (omega (arith, below, e)) (at nowhere)),
  λ takes.
      let there = these.all (record { from = p; act = Label a; to = takes.0 }) refl takes.1 in
      is.all there.0 a (record { from = p; act = Label a; to = takes.0 }) (omega (arith, there.1, e)) (ap (λ (m : Move). m.act) there.2),
)
  where
    nowhere : Move
    nowhere = record { from = 0; act = Tau; to = 0 }

only : (p q : ℕ) → Contains (p ∷ []) q → p ≡ q
only p q inside = elim (Contains-first_cases p [] q inside) [ inl same ↦ same | inr rest ↦ absurd (none_contained (λ (x : ℕ). ⊥) [] 0 (omega arith) (λ k d below. absurd (omega (arith, below))) q rest) ]

-- the state is quiet, and has a bit more
pub row_quiet : (s : System) (p : ℕ) (old new : List ℕ) → length new ≡ width_of s → IsQuiet s p → ((a : ℕ) → HasBit new a ↔ (HasBit old a ⊎ (a ≡ label_count s))) → ((a : ℕ) → HasBit old a ↔ Takes s p a) → IsRowOf s (p ∷ []) new
row_quiet s p old new long quiet bits takes = record {
  long = long;
  bits = λ a below. (
    λ has. elim (cases_lt a (label_count s)) [
      | inl less ↦ elim ((bits a).0 has) [
        | inl before ↦ (p, Contains-first p [], inl (less, (takes a).0 before))
        | inr same ↦ absurd (omega (arith, less, same))
      ]
      | inr over ↦ (p, Contains-first p [], inr (omega (arith, over, below), quiet))
    ],
    λ some. elim some.2 [
      | inl label ↦ let same : p ≡ some.0 = only p some.0 some.1 in (bits a).1 (inl ((takes a).1 (rw same label.1)))
      | inr rest ↦ (bits a).1 (inr rest.0)
    ],
  );
}

-- the state isn't quiet
pub row_loud : (s : System) (p : ℕ) (row : List ℕ) → IsSystem s → length row ≡ width_of s → (IsQuiet s p → ⊥) → ((a : ℕ) → HasBit row a ↔ Takes s p a) → IsRowOf s (p ∷ []) row
row_loud s p row system long loud takes = record {
  long = long;
  bits = λ a below. (
    λ has. let t = (takes a).0 has in (p, Contains-first p [], inl (takes_within s p a system t, t)),
    λ some.
        let same : p ≡ some.0 = only p some.0 some.1 in
        elim some.2 [ inl label ↦ (takes a).1 (rw same label.1) | inr rest ↦ absurd (loud (rw same rest.1)) ],
  );
}

-- the rows of the states below n are there
pub record AreMasksTo (s : System) (masks : Table) (n : ℕ) : Type 0 where
  pub width : masks.width ≡ width_of s
  pub long : length masks.rows ≡ n
  pub each : (q : ℕ) → q < n → IsRowOf s (q ∷ []) (get_or masks.rows q [])

pub masks_none : (s : System) (masks : Table) → masks.width ≡ width_of s → masks.rows ≡ [] → AreMasksTo s masks 0
masks_none s masks width none = record { width = width; long = ap length none; each = λ q below. absurd (omega (arith, below)) }

pub masks_more : (s : System) (old new : Table) (n : ℕ) (row : List ℕ) → new.width ≡ old.width → new.rows ≡ old.rows ++ row ∷ [] → IsRowOf s (n ∷ []) row → AreMasksTo s old n → AreMasksTo s new (n + 1)
masks_more s old new n row same longer is are = record {
  width = same ∙ are.width;
  long = ap length longer ∙ (let e : length (old.rows ++ row ∷ []) ≡ length old.rows + 1 = length_push old.rows row in omega (arith, e, are.long));
  each = λ q below. elim (cases_lt q n) [
    | inl before ↦ rw (longer, get_or_append_left old.rows (row ∷ []) [] q (omega (arith, before, are.long))) (are.each q before)
    | inr last ↦
        let here : q ≡ n = omega (arith, last, below) in
        rw (here, longer, get_or_push old.rows row [] n are.long) is
  ];
}

pub masks_all : (s : System) (masks : Table) (n : ℕ) → n ≡ s.states → AreMasksTo s masks n → AreMasks s masks
masks_all s masks n e are = record { width = are.width; long = are.long ∙ e; each = λ q below. are.each q (omega (arith, below, e)) }

-- the rows of the first n members have been joined
pub record IsRowOfFirst (s : System) (ps row : List ℕ) (n : ℕ) : Type 0 where
  pub long : length row ≡ width_of s
  pub each : (a : ℕ) → a ≤ label_count s → HasBit row a → (q : ℕ) × Contains ps q × HasPlace s a q
  pub all : (a k d : ℕ) → a ≤ label_count s → k < n → HasPlace s a (get_or ps k d) → HasBit row a

pub first_clear : (s : System) (ps bits : List ℕ) → length bits ≡ width_of s → ((a : ℕ) → HasBit bits a → ⊥) → IsRowOfFirst s ps bits 0
first_clear s ps row long clear = record {
  long = long;
  each = λ a below has. absurd (clear a has);
  all = λ a k d below none. absurd (omega (arith, none));
}

pub first_join : (s : System) (ps old other new : List ℕ) (n e : ℕ) → n < length ps → length new ≡ length old → ((a : ℕ) → HasBit new a ↔ (HasBit old a ⊎ HasBit other a)) → IsRowOf s (get_or ps n e ∷ []) other →
    IsRowOfFirst s ps old n → IsRowOfFirst s ps new (n + 1)
first_join s ps old other new n e inside same bits row is = record {
  long = same ∙ is.long;
  each = λ a below has. elim ((bits a).0 has) [
    | inl before ↦ is.each a below before
    | inr here ↦
        let some = (row.bits a below).0 here in
        let q : get_or ps n e ≡ some.0 = only (get_or ps n e) some.0 some.1 in
        (get_or ps n e, Contains-get_or ps n e inside, rw q some.2)
  ];
  all = λ a k d below low place. elim (cases_lt k n) [
    | inl earlier ↦ (bits a).1 (inl (is.all a k d below earlier place))
    | inr late ↦
        let at : k ≡ n = omega (arith, late, low) in
        let there : HasPlace s a (get_or ps n d) = rw at at place in
        let here : HasPlace s a (get_or ps n e) = rw (get_or_default ps n e d inside) there in
        (bits a).1 (inr ((row.bits a below).1 (get_or ps n e, Contains-first (get_or ps n e) [], here)))
  ];
}

pub first_all : (s : System) (ps row : List ℕ) (n : ℕ) → length ps ≤ n → IsRowOfFirst s ps row n → IsRowOf s ps row
first_all s ps row n over is = record {
  long = is.long;
  bits = λ a below. (
    is.each a below,
    λ some. none_contained (λ q. HasPlace s a q → HasBit row a) ps n over (λ k d low. is.all a k d below low) some.0 some.1 some.2,
  );
}

-- the bit of a label says whether some member takes it
pub bit_taken : (s : System) (ps row : List ℕ) (a : ℕ) → IsRowOf s ps row → a < label_count s → HasBit row a ↔ IsTakenIn s ps a
bit_taken s ps row a is below = (
  λ has.
      let some = (is.bits a (omega (arith, below))).0 has in
      elim some.2 [ inl label ↦ (some.0, some.1, label.1) | inr rest ↦ absurd (omega (arith, below, rest.0)) ],
  λ taken. (is.bits a (omega (arith, below))).1 (taken.0, taken.1, inl (below, taken.2)),
)

pub told_taken : (s : System) (ps row : List ℕ) (a : ℕ) (b : Bool) → a < label_count s → IsTrue b ↔ HasBit row a → IsRowOf s ps row → IsTrue b ↔ IsTakenIn s ps a
told_taken s ps row a b below test is = (λ t. (bit_taken s ps row a is below).0 (test.0 t), λ taken. test.1 ((bit_taken s ps row a is below).1 taken))

pub told_shown : (s : System) (ps : List ℕ) (a : ℕ) (b : Bool) → IsItemOf s (Output a) → IsTrue b ↔ IsTakenIn s ps a → IsTrue b ↔ Shows s ps (Output a)
told_shown s ps a b item test = Shows-output s ps a b item test

-- the bit after those of the labels says whether some member is quiet
pub told_quiet : (s : System) (ps row : List ℕ) (a : ℕ) (b : Bool) → a ≡ label_count s → IsTrue b ↔ HasBit row a → IsRowOf s ps row → IsTrue b ↔ Shows s ps Delta
told_quiet s ps row a b e test is = (
  λ t.
      let some = (is.bits a (omega (arith, e))).0 (test.0 t) in
      elim some.2 [ inl label ↦ absurd (omega (arith, e, label.0)) | inr rest ↦ (some.0, some.1, rest.1) ],
  λ shows. test.1 ((is.bits a (omega (arith, e))).1 (shows.0, shows.1, inr (e, shows.2))),
)

-- the least bit is that of the least label
pub least_taken : (s : System) (ps row : List ℕ) (from n : ℕ) → IsRowOf s ps row → IsLeastFrom (HasBit row) from (label_count s) n → IsLeastFrom (IsTakenIn s ps) from (label_count s) n
least_taken s ps row from n is least = record {
  low = least.low;
  high = least.high;
  none = λ a over below taken. least.none a over below ((bit_taken s ps row a is (omega (arith, below, least.high))).1 taken);
  some = elim least.some [
    | inl most ↦ inl most
    | inr has ↦ elim (cases_lt n (label_count s)) [
      | inl below ↦ inr ((bit_taken s ps row n is below).0 has)
      | inr over ↦ inl (omega (arith, over, least.high))
    ]
  ];
}
