-- Laws on what is seen of a simulation: the acts are the trace of a path.
use Rattle.std.proofs.Common.{◌≡◌, ℕ, ◌<◌, ◌≤◌, List, [], ◌∷◌, ◌++◌, length, Option, Some, None, refl, subst, sym, ◌∙◌, arith, inl, inr, ◌⊎◌}
use Rattle.lts_base.specs.declared.item.Item.{Item}
use Rattle.lts_base.specs.declared.item.Item.TheVariants.{Input, Output, Delta}
use Rattle.lts_base.specs.System.{System, IsQuiet}
use Rattle.lts_base.specs.Path.{Leads}
use Rattle.lts_base.specs.Alphabet.{text_at}
use Rattle.lts_base.proofs.Leads.{Leads-here, Leads-append, Leads-step, IsSeen-from_quiet}
use Rattle.lts_base.proofs.UniqueLaws.{number_unique}
use Rattle.edge_io.specs.Links.{Leads as LeadsLink}
use Rattle.edge_io.specs.declared.act.Heard.{Heard}
use Rattle.edge_io.specs.declared.act.Act.{Act}
use Rattle.edge_io.specs.declared.act.Act.TheVariants.{Looked, Listened, Gave}
use Rattle.sim_core.specs.Acts.{Simulated, GivesSimulated, IsAnswer}
use Rattle.sim_core.specs.Seen.{alphabet_of, IsSimulated, IsOutputSeen, IsSeenAtLook, IsSeenAtHearing, IsSeenOf, AreSeenOf}
use Rattle.sim_core.proofs.LeadLaws.{HasHeard, HasLooked, IsShown, IsShown-label, Hears-heard, Looks-looked, TakesInput-leads}
use Rattle.sim_core.proofs.LinkLaws.{labels_all}

-- the label that was shown is one of the alphabet
shown_label : {R : Type 0} (x : Simulated R) (p k q : ℕ) → IsSimulated x → IsShown x.system p k q → k < length x.texts
shown_label x p k q is shown = omega (arith, IsShown-label x.system p k q is.system shown, labels_all (alphabet_of x) x.system is.alphabet is.over)

-- a line that was shown is seen as the output that was shown, and as no other
line_leads : {R : Type 0} (x : Simulated R) (p k q : ℕ) (text : List ℕ) (σ : List Item) → IsSimulated x → IsShown x.system p k q → text ≡ text_at x.texts k → IsOutputSeen (alphabet_of x) text σ →
    Leads x.system p σ q
line_leads x p k q text σ is shown said (j, above, below, at, seen) =
    let same : k ≡ j = number_unique (alphabet_of x) is.alphabet k j (shown_label x p k q is shown) below (sym said ∙ at) in
    rw (seen, ← same) shown.leads

line_seen : {R : Type 0} (x : Simulated R) (p k q : ℕ) (text : List ℕ) → IsSimulated x → IsShown x.system p k q → text ≡ text_at x.texts k → IsOutputSeen (alphabet_of x) text (Output k ∷ [])
line_seen x p k q text is shown said = (k, shown.output, shown_label x p k q is shown, said, refl)

-- a rest at the end of a path
rest_leads : (s : System) (p q : ℕ) (σ : List Item) → Leads s p [] q → IsQuiet s q → (σ ≡ Delta ∷ []) ⊎ (σ ≡ []) → Leads s p σ q
rest_leads s p q σ leads quiet (inl rests) = rw rests (Leads-append s p q q [] (Delta ∷ []) leads (Leads-step s q Delta q (IsSeen-from_quiet s q quiet)))
rest_leads s p q σ leads quiet (inr none) = rw none leads

heard_leads : {R : Type 0} (x : Simulated R) (p : ℕ) (label : Option ℕ) (q : ℕ) (heard : Heard) (text : List ℕ) (σ : List Item) → IsSimulated x → HasHeard x.system p label q →
    IsAnswer x.texts label heard text → IsSeenAtHearing (alphabet_of x) heard text σ → Leads x.system p σ q
heard_leads x p None q heard text σ is (leads, quiet) (idle, none) seen = rest_leads x.system p q σ leads quiet (rw idle at seen)
heard_leads x p (Some k) q heard text σ is shown (line, said) seen = line_leads x p k q text σ is shown said (rw line at seen)

looked_leads : {R : Type 0} (x : Simulated R) (p : ℕ) (label : Option ℕ) (q : ℕ) (heard : Heard) (text : List ℕ) (σ : List Item) → IsSimulated x → HasLooked x.system p label q →
    IsAnswer x.texts label heard text → IsSeenAtLook (alphabet_of x) heard text σ → Leads x.system p σ q
looked_leads x p None q heard text σ is leads (idle, none) seen = let nothing : σ ≡ [] = rw idle at seen in rw nothing leads
looked_leads x p (Some k) q heard text σ is shown (line, said) seen = line_leads x p k q text σ is shown said (rw line at seen)

-- what is seen of one act leads on
pub act_leads : {R : Type 0} (step : R → ℕ × R) (x y : Simulated R) (act : Act) (σ : List Item) → IsSimulated x → GivesSimulated step x act y → IsSeenOf (alphabet_of x) act σ → Leads x.system x.place.at σ y.place.at
act_leads step x y (Looked heard text) σ is (does, system, texts) seen =
    let (label, looks, answer) = does in
    looked_leads x x.place.at label y.place.at heard text σ is (Looks-looked step x.system x.place label y.place looks) answer seen
act_leads step x y (Listened heard text) σ is (does, system, texts) seen =
    let (label, hears, answer) = does in
    heard_leads x x.place.at label y.place.at heard text σ is (Hears-heard step x.system x.place label y.place hears) answer seen
act_leads step x y (Gave text) σ is (does, system, texts) (j, low, at, seen) =
    let (k, input, takes) = does in
    let most : x.system.inputs ≤ length x.texts = is.alphabet.inputs in
    let same : k ≡ j = number_unique (alphabet_of x) is.alphabet k j (omega (arith, input.0, most)) (omega (arith, low, most)) (sym input.1 ∙ at) in
    rw (seen, ← same) (TakesInput-leads step x.system x.place k y.place input.0 takes)

-- something is seen of one act
seen_of_hearing : {R : Type 0} (x : Simulated R) (p : ℕ) (label : Option ℕ) (q : ℕ) (heard : Heard) (text : List ℕ) → IsSimulated x → HasHeard x.system p label q → IsAnswer x.texts label heard text →
    (σ : List Item) × IsSeenAtHearing (alphabet_of x) heard text σ
seen_of_hearing x p None q heard text is (leads, quiet) (idle, none) = (Delta ∷ [], rw idle (inl refl))
seen_of_hearing x p (Some k) q heard text is shown (line, said) = (Output k ∷ [], rw line (line_seen x p k q text is shown said))

seen_of_look : {R : Type 0} (x : Simulated R) (p : ℕ) (label : Option ℕ) (q : ℕ) (heard : Heard) (text : List ℕ) → IsSimulated x → HasLooked x.system p label q → IsAnswer x.texts label heard text →
    (σ : List Item) × IsSeenAtLook (alphabet_of x) heard text σ
seen_of_look x p None q heard text is leads (idle, none) = ([], rw idle refl)
seen_of_look x p (Some k) q heard text is shown (line, said) = (Output k ∷ [], rw line (line_seen x p k q text is shown said))

pub act_seen : {R : Type 0} (step : R → ℕ × R) (x y : Simulated R) (act : Act) → IsSimulated x → GivesSimulated step x act y → (σ : List Item) × IsSeenOf (alphabet_of x) act σ
act_seen step x y (Looked heard text) is (does, system, texts) =
    let (label, looks, answer) = does in
    seen_of_look x x.place.at label y.place.at heard text is (Looks-looked step x.system x.place label y.place looks) answer
act_seen step x y (Listened heard text) is (does, system, texts) =
    let (label, hears, answer) = does in
    seen_of_hearing x x.place.at label y.place.at heard text is (Hears-heard step x.system x.place label y.place hears) answer
act_seen step x y (Gave text) is (does, system, texts) =
    let (k, input, takes) = does in
    (Input k ∷ [], (k, input.0, input.1, refl))

-- a simulation stays one
pub simulated_on : {R : Type 0} (step : R → ℕ × R) (x y : Simulated R) (act : Act) → GivesSimulated step x act y → IsSimulated x → IsSimulated y
simulated_on step x y act (does, system, texts) is = record {
  system = rw system is.system;
  alphabet = rw (system, texts) is.alphabet;
  over = rw (system, texts) is.over;
}

alphabet_kept : {R : Type 0} (step : R → ℕ × R) (x y : Simulated R) (act : Act) → GivesSimulated step x act y → alphabet_of y ≡ alphabet_of x
alphabet_kept step x y act (does, system, texts) = rw (system, texts) refl

-- what is seen of acts is a trace
pub acts_lead : {R : Type 0} (step : R → ℕ × R) (x y : Simulated R) (acts : List Act) (σ : List Item) → IsSimulated x → LeadsLink (GivesSimulated step) x acts y → AreSeenOf (alphabet_of x) acts σ →
    Leads x.system x.place.at σ y.place.at
acts_lead {R} step x y [] σ is same none = rw none (subst (λ (z : Simulated R). Leads x.system x.place.at [] z.place.at) (sym same) (Leads-here x.system x.place.at))
acts_lead step x y (act ∷ acts) σ is (m, gives, rest) (τ, υ, first, others, whole) =
    let after : Leads m.system m.place.at υ y.place.at = acts_lead step m y acts υ (simulated_on step x m act gives is) rest (rw (alphabet_kept step x m act gives) others) in
    rw whole (Leads-append x.system x.place.at m.place.at y.place.at τ υ (act_leads step x m act τ is gives first) (rw gives.1 at after))

pub acts_are_seen : {R : Type 0} (step : R → ℕ × R) (x y : Simulated R) (acts : List Act) → IsSimulated x → LeadsLink (GivesSimulated step) x acts y → (σ : List Item) × AreSeenOf (alphabet_of x) acts σ
acts_are_seen step x y [] is same = ([], refl)
acts_are_seen step x y (act ∷ acts) is (m, gives, rest) =
    let (τ, first) = act_seen step x m act is gives in
    let (υ, others) = acts_are_seen step m y acts (simulated_on step x m act gives is) rest in
    (τ ++ υ, (τ, υ, first, rw (alphabet_kept step x m act gives) at others, refl))
