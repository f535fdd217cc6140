-- Laws on the least state that lacks an input.
use Rattle.std.proofs.Common.{◌≡◌, ℕ, ◌+◌, ◌<◌, ◌≤◌, List, length, get_or, Bool, true, false, Option, Some, None, inl, inr, refl, sym, ◌∙◌, arith}
use Rattle.std.specs.Prelude.{MatchOption, ◌↔◌}
use Rattle.std.proofs.lemmas.List.{get_or_past}
use Rattle.std.proofs.lemmas.Bool.{cases_lt, false≢true, lt-ltb, le-ltb}
use Rattle.lts_base.specs.System.{System}
use Rattle.lts_base.specs.Shape.{IsInputEnabled}
use Rattle.lts_shape.specs.Marks.{AreMarks, AreMarksOf}
use Rattle.lts_shape.specs.Inputs.{EndsSome, CanTake, AllCanTake, IsLeastLacking, IsFirstMissing, AreTakers}
use Rattle.lts_shape.specs.Choice.{IsFirstUnmarked, with_lacking}
use Rattle.lts_shape.proofs.FollowLaws.{AreMarksOf-from_found}

-- after the first n inputs: no state lacks one of them, or the pair is the first
abbrev pub IsMissingSoFar : System → ℕ → Option (ℕ × ℕ) → Type 0
IsMissingSoFar s n first = MatchOption first ((a : ℕ) → a < n → AllCanTake s a) (λ pair. IsFirstMissing s n pair.0 pair.1)

pub IsMissingSoFar-none : (s : System) → IsMissingSoFar s 0 None
IsMissingSoFar-none s = λ a below. absurd (omega (arith, below))

marked_below : (P : ℕ → Type 0) (states : ℕ) (marks : List Bool) (q : ℕ) → AreMarksOf P states marks → P q → q < states
marked_below P states marks q is has = elim (cases_lt q states) [
  | inl below ↦ below
  | inr past ↦ absurd (false≢true (sym (get_or_past marks q false (omega (arith, past, is.long))) ∙ is.all q has))
]

-- what the marks say of one input
pub lacking_from_marks : (s : System) (a states : ℕ) (reached able : List Bool) (found : List ℕ) (lacking : Option ℕ) → AreMarksOf (EndsSome s) states reached → AreTakers s a found → AreMarks found (length found) states able →
    MatchOption lacking ((q : ℕ) → q < states → get_or reached q false ≡ true → get_or able q false ≡ true) (IsFirstUnmarked reached able) → MatchOption lacking (AllCanTake s a) (IsLeastLacking s a)
lacking_from_marks s a states reached able found None reach takers marks all =
    let can = AreMarksOf-from_found (CanTake s a) found states able takers.each takers.all marks in
    λ q ends. can.each q (all q (marked_below (EndsSome s) states reached q reach ends) (reach.all q ends))
lacking_from_marks s a states reached able found (Some q) reach takers marks is =
    let can = AreMarksOf-from_found (CanTake s a) found states able takers.each takers.all marks in
    record {
      ends = reach.each q is.here;
      lacks = λ able_q. false≢true (sym is.there ∙ can.all q able_q);
      least = λ p ends lacks. elim (cases_lt p q) [
        | inl below ↦ absurd (lacks (can.each p (is.before p below (reach.all p ends))))
        | inr above ↦ above
      ];
    }

-- one more input
pub IsMissingSoFar-more : (s : System) (n : ℕ) (first : Option (ℕ × ℕ)) (lacking : Option ℕ) → MatchOption lacking (AllCanTake s n) (IsLeastLacking s n) → IsMissingSoFar s n first → IsMissingSoFar s (n + 1) (with_lacking first lacking n)
IsMissingSoFar-more s n None None all is = λ a below. elim (cases_lt a n) [
  | inl low ↦ is a low
  | inr high ↦ let same : a ≡ n = omega (arith, below, high) in rw same all
]
IsMissingSoFar-more s n (Some pair) None all is = record {
  ends = is.ends;
  input = omega (arith, is.input);
  lacks = is.lacks;
  state = λ p b ends below lacks. elim (cases_lt b n) [
    | inl low ↦ is.state p b ends low lacks
    | inr high ↦ let same : b ≡ n = omega (arith, below, high) in absurd (rw same at lacks (all p ends))
  ];
  least = λ b below lacks. elim (cases_lt b n) [
    | inl low ↦ is.least b low lacks
    | inr high ↦ omega (arith, high, is.input)
  ];
}
IsMissingSoFar-more s n None (Some q) one is = record {
  ends = one.ends;
  input = omega arith;
  lacks = one.lacks;
  state = λ p b ends below lacks. elim (cases_lt b n) [
    | inl low ↦ absurd (lacks (is b low p ends))
    | inr high ↦ let same : b ≡ n = omega (arith, below, high) in one.least p ends (rw same at lacks)
  ];
  least = λ b below lacks. elim (cases_lt b n) [
    | inl low ↦ absurd (lacks (is b low q one.ends))
    | inr high ↦ high
  ];
}
IsMissingSoFar-more s n (Some pair) (Some q) one is = elim (cases_lt q pair.0) [
  | inl less ↦ rw (lt-ltb q pair.0 less) (less_one less)
  | inr more ↦ rw (le-ltb q pair.0 more) (more_one more)
]
  where
    less_one : q < pair.0 → IsFirstMissing s (n + 1) q n
    less_one less = record {
      ends = one.ends;
      input = omega arith;
      lacks = one.lacks;
      state = λ p b ends below lacks. elim (cases_lt b n) [
        | inl low ↦ let le : pair.0 ≤ p = is.state p b ends low lacks in omega (arith, le, less)
        | inr high ↦ let same : b ≡ n = omega (arith, below, high) in one.least p ends (rw same at lacks)
      ];
      least = λ b below lacks. elim (cases_lt b n) [
        | inl low ↦ let le : pair.0 ≤ q = is.state q b one.ends low lacks in absurd (omega (arith, le, less))
        | inr high ↦ high
      ];
    }

    more_one : pair.0 ≤ q → IsFirstMissing s (n + 1) pair.0 pair.1
    more_one more = record {
      ends = is.ends;
      input = omega (arith, is.input);
      lacks = is.lacks;
      state = λ p b ends below lacks. elim (cases_lt b n) [
        | inl low ↦ is.state p b ends low lacks
        | inr high ↦
            let same : b ≡ n = omega (arith, below, high) in
            let le : q ≤ p = one.least p ends (rw same at lacks) in
            omega (arith, le, more)
      ];
      least = λ b below lacks. elim (cases_lt b n) [
        | inl low ↦ is.least b low lacks
        | inr high ↦ omega (arith, high, is.input)
      ];
    }

-- all inputs have been looked at
pub found_missing : (s : System) (n : ℕ) (first : Option (ℕ × ℕ)) → n ≡ s.inputs → IsMissingSoFar s n first → MatchOption first (IsInputEnabled s) (λ pair. IsFirstMissing s s.inputs pair.0 pair.1)
found_missing s n None same is = λ σ q ends a below. is a (omega (arith, below, same)) q (σ, ends)
found_missing s n (Some pair) same is = rw same at is

pub exact_missing : (s : System) (n : ℕ) (first : Option (ℕ × ℕ)) → n ≡ s.inputs → IsMissingSoFar s n first → (first ≡ None) ↔ IsInputEnabled s
exact_missing s n None same is = (λ _. found_missing s n None same is, λ _. refl)
exact_missing s n (Some pair) same is = (
  λ e. absurd (cc e),
  λ enabled. absurd (is.lacks (enabled is.ends.0 pair.0 is.ends.1 pair.1 (omega (arith, is.input, same)))),
)
