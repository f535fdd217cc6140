-- Laws on the flags of states that a move with Tau leaves.
use Rattle.std.proofs.Common.{◌≡◌, ℕ, ◌+◌, ◌<◌, ◌↔◌, List, [], ◌∷◌, ◌++◌, length, get_or, Bool, false, refl, sym, ◌∙◌, inl, inr, arith}
use Rattle.std.specs.Prelude.{IsTrue}
use Rattle.std.proofs.lemmas.List.{append-nil, length_push, get_or_push, get_or_append_left}
use Rattle.std.proofs.lemmas.List.Elements.{All-nil}
use Rattle.std.proofs.lemmas.Bool.{cases_lt, iff_false}
use Rattle.lts_base.specs.declared.action.Act.TheVariants.{Tau}
use Rattle.lts_base.specs.System.{System, HasMove}
use Rattle.lts_base.specs.Finds.{Adds}
use Rattle.state_sets.specs.Taus.{AreTauFlags, AreTauFlagsTo}

pub flags_none : (s : System) → AreTauFlagsTo s 0 []
flags_none s = record { long = refl; each = λ q below. absurd (omega (arith, below)) }

pub flags_more : (s : System) (n : ℕ) (flags : List Bool) (b : Bool) → (IsTrue b ↔ ((r : ℕ) × HasMove s n Tau r)) → AreTauFlagsTo s n flags → AreTauFlagsTo s (n + 1) (flags ++ b ∷ [])
flags_more s n flags b right are = record {
  long = let longer : length (flags ++ b ∷ []) ≡ length flags + 1 = length_push flags b in omega (arith, longer, are.long);
  each = λ q below. elim (cases_lt q n) [
    | inl before ↦ rw (get_or_append_left flags (b ∷ []) false q (omega (arith, before, are.long))) (are.each q before)
    | inr last ↦
        let here : q ≡ n = omega (arith, last, below) in
        rw (here, get_or_push flags b false n are.long) right
  ];
}

pub flags_all : (s : System) (n : ℕ) (flags : List Bool) → n ≡ s.states → AreTauFlagsTo s n flags → AreTauFlags s flags
flags_all s n flags e are = record { long = are.long ∙ e; each = λ q below. are.each q (omega (arith, below, e)) }

-- nothing is added where no move with Tau leaves the state
pub Adds-stable : (s : System) (p : ℕ) (flags : List Bool) (found : List ℕ) → AreTauFlags s flags → p < s.states → get_or flags p false ≡ false → Adds (HasMove s p Tau) found found
Adds-stable s p flags found are below e = record {
  kept = ([], sym (append-nil found), All-nil (HasMove s p Tau));
  all = λ q move. absurd (iff_false (are.each p below) e (q, move));
}
