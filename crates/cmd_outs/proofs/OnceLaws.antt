-- `outs` answers one thing for files whose contents are told.
use Rattle.std.proofs.Common.{◌≡◌, ◌∙◌, ℕ, zero, suc, ◌-◌, ◌<◌, ◌≤◌, List, [], ◌∷◌, ◌++◌, take, drop, Option, Some, None, inl, inr, ◌⊎◌, refl, sym, ap, subst, arith}
use Rattle.std.proofs.lemmas.Bool.{cases_lt}
use Rattle.std.proofs.lemmas.List.{append-nil, append_assoc, take-append-drop}
use Rattle.lts_base.specs.declared.item.Item.{Item}
use Rattle.lts_base.specs.declared.item.Mode.{Mode}
use Rattle.lts_base.specs.Alphabet.{Alphabet, IsAlphabet}
use Rattle.lts_base.specs.System.{System}
use Rattle.lts_base.specs.Conformance.{IsAllowed}
use Rattle.lts_base.proofs.AllowedLaws.{IsAllowed-front}
use Rattle.tool_base.specs.declared.refusal.Refusal.{Refusal}
use Rattle.tool_base.specs.Contents.{Contents, AreTold}
use Rattle.tool_base.specs.Kinds.{trace_kind}
use Rattle.tool_base.specs.Once.{IsLike, IsOnce}
use Rattle.tool_base.specs.Sources.{RefusesSources, AreSystems, all_names}
use Rattle.tool_base.proofs.InputOnce.{AreTold-left, AreTold-right, sources_refused_once, sources_apart, systems_once, file_once, file_apart, file_refused_once}
use Rattle.tool_base.proofs.KindLaws.{trace_is_kind}
use Rattle.cmd_outs.specs.declared.outcome.OutsOutcome.{OutsOutcome}
use Rattle.cmd_outs.specs.declared.outcome.OutsOutcome.TheVariants.{Printed, Absent}
use Rattle.cmd_outs.specs.Asked.{AskedOuts, outs_sources, trace_names}
use Rattle.cmd_outs.specs.Outs.{IsTraceOf, RefusesTraceOf, IsFirstAbsent, IsOffered, RefusesOuts, AnswersOuts, outs_page}

-- ---- the trace's file

trace_once : (contents : Contents) (a : Alphabet) (name : Option (List ℕ)) (σ τ : List Item) → IsAlphabet a → AreTold contents (trace_names name) → IsTraceOf contents a name σ → IsTraceOf contents a name τ → σ ≡ τ
trace_once contents a None σ τ alphabet told one other = one ∙ sym other
trace_once contents a (Some name) σ τ alphabet told one other = file_once (trace_kind a) contents name told.0.0 σ τ (trace_is_kind a alphabet) told.0.1 one other

trace_apart : (contents : Contents) (a : Alphabet) (name : Option (List ℕ)) (σ : List Item) (r : Refusal) → IsAlphabet a → AreTold contents (trace_names name) → IsTraceOf contents a name σ → ¬ RefusesTraceOf contents a name r
trace_apart contents a None σ r alphabet told is h = h
trace_apart contents a (Some name) σ r alphabet told is h = file_apart (trace_kind a) contents name told.0.0 σ r (trace_is_kind a alphabet) told.0.1 is h

trace_refused_once : (contents : Contents) (a : Alphabet) (name : Option (List ℕ)) (r q : Refusal) → IsAlphabet a → AreTold contents (trace_names name) → RefusesTraceOf contents a name r → RefusesTraceOf contents a name q → IsLike r q
trace_refused_once contents a None r q alphabet told one other = absurd one
trace_refused_once contents a (Some name) r q alphabet told one other = file_refused_once (trace_kind a) contents name told.0.0 r q (trace_is_kind a alphabet) told.0.1 one other

-- ---- the first place whose prefix isn't allowed

-- a prefix of an allowed trace is allowed
allowed_prefix : (mode : Mode) (s : System) (σ τ : List Item) → IsAllowed mode s (σ ++ τ) → IsAllowed mode s σ
allowed_prefix mode s σ [] allowed = subst (IsAllowed mode s) (append-nil σ) allowed
allowed_prefix mode s σ (x ∷ τ) allowed = IsAllowed-front mode s σ x (allowed_prefix mode s (σ ++ x ∷ []) τ (subst (IsAllowed mode s) (sym (append_assoc σ (x ∷ []) τ)) allowed))

-- the first items of an allowed trace are allowed
allowed_first : (mode : Mode) (s : System) (σ : List Item) (k : ℕ) → IsAllowed mode s σ → IsAllowed mode s (take k σ)
allowed_first mode s σ k allowed = allowed_prefix mode s (take k σ) (drop k σ) (subst (IsAllowed mode s) (sym (take-append-drop k σ)) allowed)

-- the first k of the first n items are the first k
take_fewer : (k n : ℕ) (σ : List Item) → k ≤ n → take k (take n σ) ≡ take k σ
take_fewer zero n σ fewer = refl
take_fewer (suc k) zero σ fewer = absurd (omega (arith, fewer))
take_fewer (suc k) (suc n) [] fewer = refl
take_fewer (suc k) (suc n) (x ∷ σ) fewer = let rest : take k (take n σ) ≡ take k σ = take_fewer k n σ (omega (arith, fewer)) in ap (λ (τ : List Item). x ∷ τ) rest

-- no place of an allowed trace has a prefix that isn't allowed
none_absent : (mode : Mode) (s : System) (σ : List Item) (k : ℕ) → IsAllowed mode s σ → ¬ IsFirstAbsent mode s σ k
none_absent mode s σ k allowed first = first.absent (allowed_first mode s σ k allowed)

-- no place is before the first one
none_earlier : (mode : Mode) (s : System) (σ : List Item) (j k : ℕ) → IsFirstAbsent mode s σ j → IsFirstAbsent mode s σ k → ¬ (j < k)
none_earlier mode s σ j k one other less =
    one.absent (subst (IsAllowed mode s) (take_fewer j (k - 1) σ (omega (arith, less))) (allowed_first mode s (take (k - 1) σ) j other.before))

absent_once : (mode : Mode) (s : System) (σ : List Item) (j k : ℕ) → IsFirstAbsent mode s σ j → IsFirstAbsent mode s σ k → j ≡ k
absent_once mode s σ j k one other =
    elim (cases_lt j k) [
      | inl less ↦ absurd (none_earlier mode s σ j k one other less)
      | inr least ↦
          elim (cases_lt k j) [
            | inl more ↦ absurd (none_earlier mode s σ k j other one more)
            | inr most ↦ omega (arith, least, most)
          ]
    ]

-- a trace has one answer
offered_once : (mode : Mode) (a : Alphabet) (s : System) (σ : List Item) (o p : OutsOutcome) (t u : List ℕ) → IsOffered mode a s σ o t → IsOffered mode a s σ p u → o ≡ p
offered_once mode a s σ Printed Printed t u one other = refl
offered_once mode a s σ Printed (Absent k) t u one other = absurd (none_absent mode s σ k one.0 other.0)
offered_once mode a s σ (Absent j) Printed t u one other = absurd (none_absent mode s σ j other.0 one.0)
offered_once mode a s σ (Absent j) (Absent k) t u one other = ap Absent (absent_once mode s σ j k one.0 other.0)

-- ---- all of it

same_head : (s t : System) → s ∷ [] ≡ t ∷ [] → s ≡ t
same_head s t e = cc

-- the alphabet of systems that are had is one
sound_alphabet : (contents : Contents) (asked : AskedOuts) (a : Alphabet) (systems : List System) → AreSystems contents (outs_sources asked) a systems → IsAlphabet a
sound_alphabet contents asked a systems are = are.split.alphabet.alphabet

pub outs_once : (contents : Contents) (asked : AskedOuts) → AreTold contents (outs_page contents asked).names → IsOnce (outs_page contents asked)
outs_once contents asked told = record { refused = refused; apart = apart; answered = answered }
  where
    files : AreTold contents (all_names (outs_sources asked))
    files = AreTold-left contents (all_names (outs_sources asked)) (trace_names asked.trace) told

    file : AreTold contents (trace_names asked.trace)
    file = AreTold-right contents (all_names (outs_sources asked)) (trace_names asked.trace) told

    refused : (r q : Refusal) → RefusesSources contents (outs_sources asked) r ⊎ RefusesOuts contents asked r → RefusesSources contents (outs_sources asked) q ⊎ RefusesOuts contents asked q → IsLike r q
    refused r q (inl one) (inl two) = sources_refused_once contents (outs_sources asked) r q files one two
    refused r q (inl one) (inr two) = absurd (sources_apart contents (outs_sources asked) r two.a (two.s ∷ []) files one two.systems)
    refused r q (inr one) (inl two) = absurd (sources_apart contents (outs_sources asked) q one.a (one.s ∷ []) files two one.systems)
    refused r q (inr one) (inr two) =
        let same = systems_once contents (outs_sources asked) two.a one.a (two.s ∷ []) (one.s ∷ []) files two.systems one.systems in
        trace_refused_once contents two.a asked.trace r q (sound_alphabet contents asked two.a (two.s ∷ []) two.systems) file
        (subst (λ (b : Alphabet). RefusesTraceOf contents b asked.trace r) same.0 one.refused) two.refused

    apart : (r : Refusal) (o : OutsOutcome) (t : List ℕ) → RefusesSources contents (outs_sources asked) r ⊎ RefusesOuts contents asked r → ¬ AnswersOuts contents asked o t
    apart r o t (inl one) two = sources_apart contents (outs_sources asked) r two.a (two.s ∷ []) files one two.systems
    apart r o t (inr one) two =
        let same = systems_once contents (outs_sources asked) two.a one.a (two.s ∷ []) (one.s ∷ []) files two.systems one.systems in
        trace_apart contents two.a asked.trace two.σ r (sound_alphabet contents asked two.a (two.s ∷ []) two.systems) file two.trace
        (subst (λ (b : Alphabet). RefusesTraceOf contents b asked.trace r) same.0 one.refused)

    answered : (o p : OutsOutcome) (t u : List ℕ) → AnswersOuts contents asked o t → AnswersOuts contents asked p u → o ≡ p
    answered o p t u one two =
        let same = systems_once contents (outs_sources asked) two.a one.a (two.s ∷ []) (one.s ∷ []) files two.systems one.systems in
        let system : one.s ≡ two.s = same_head one.s two.s same.1 in
        let read : IsTraceOf contents two.a asked.trace one.σ = subst (λ (b : Alphabet). IsTraceOf contents b asked.trace one.σ) same.0 one.trace in
        let trace : one.σ ≡ two.σ = trace_once contents two.a asked.trace one.σ two.σ (sound_alphabet contents asked two.a (two.s ∷ []) two.systems) file read two.trace in
        let first : IsOffered asked.mode two.a one.s one.σ o t = subst (λ (b : Alphabet). IsOffered asked.mode b one.s one.σ o t) same.0 one.offered in
        let second : IsOffered asked.mode two.a two.s one.σ o t = subst (λ (z : System). IsOffered asked.mode two.a z one.σ o t) system first in
        offered_once asked.mode two.a two.s two.σ o p t u (subst (λ (ρ : List Item). IsOffered asked.mode two.a two.s ρ o t) trace second) two.offered
