-- Laws on a simulation as a link.
use Rattle.std.proofs.Common.{◌≡◌, ℕ, ◌<◌, ◌≤◌, List, [], ◌∷◌, length, Contains, Option, Some, None, refl, ap, subst, sym, ◌∙◌, arith}
use Rattle.std.proofs.lemmas.List.Elements.{All-contains, Contains-get_or}
use Rattle.lts_base.specs.System.{System, label_count}
use Rattle.lts_base.specs.Alphabet.{Alphabet, IsAlphabet, IsLabel, IsOver, text_at}
use Rattle.lts_base.proofs.UniqueLaws.{number_unique}
use Rattle.edge_io.specs.Links.{IsWithinLine}
use Rattle.edge_io.specs.declared.act.TheConstants.{MOST_HEARD_BYTES}
use Rattle.std.specs.Option.{is_some}
use Rattle.lts_base.specs.declared.item.Item.TheVariants.{Input}
use Rattle.edge_io.specs.declared.act.Heard.{Heard}
use Rattle.edge_io.specs.declared.act.Act.TheVariants.{Looked, Listened, Gave}
use Rattle.sim_core.specs.Simulated.{Place, Hears, Looks, TakesInput}
use Rattle.sim_core.specs.Acts.{Simulated, GivesSimulated, IsAnswer, IsInputText, IsNoInput, IsShownBy}
use Rattle.sim_core.specs.Gone.{IsSimulating}
use Rattle.sim_core.specs.Linked.{IsSaying, said_text}
use Rattle.sim_core.proofs.LeadLaws.{HasHeard, HasLooked, IsShown, IsShown-label, simulating_on, TakesInput-leads}

-- a label's text is a line
pub label_line : (a : Alphabet) (k : ℕ) → IsAlphabet a → k < length a.texts → IsWithinLine MOST_HEARD_BYTES (text_at a.texts k)
label_line a k alphabet below =
    let label : IsLabel (text_at a.texts k) = All-contains IsLabel a.texts (text_at a.texts k) alphabet.labels (Contains-get_or a.texts k [] below) in
    ((λ inside. let high : 32 ≤ 10 = All-contains (λ b. 32 ≤ b) (text_at a.texts k) 10 label.plain inside in omega (arith, high)), label.short)

-- an alphabet over which a system is has a text for each of its labels
pub labels_all : (a : Alphabet) (s : System) → IsAlphabet a → IsOver a s → label_count s ≡ length a.texts
labels_all a s alphabet over = omega (arith, over.inputs, over.outputs, alphabet.inputs)

pub saying_shown : (a : Alphabet) (s : System) (p k q : ℕ) → IsAlphabet a → IsOver a s → IsSimulating s p → IsShown s p k q → k < length a.texts
saying_shown a s p k q alphabet over h shown = omega (arith, IsShown-label s p k q h.system shown, labels_all a s alphabet over)

pub saying_heard : (a : Alphabet) (s : System) (p : ℕ) (label : Option ℕ) (q : ℕ) → IsAlphabet a → IsOver a s → IsSimulating s p → HasHeard s p label q → IsSaying a.texts label
saying_heard a s p None q alphabet over h heard = tt
saying_heard a s p (Some k) q alphabet over h heard = saying_shown a s p k q alphabet over h heard

pub saying_looked : (a : Alphabet) (s : System) (p : ℕ) (label : Option ℕ) (q : ℕ) → IsAlphabet a → IsOver a s → IsSimulating s p → HasLooked s p label q → IsSaying a.texts label
saying_looked a s p None q alphabet over h heard = tt
saying_looked a s p (Some k) q alphabet over h heard = saying_shown a s p k q alphabet over h heard

-- a text that is no label is no input
pub no_label : (a : Alphabet) (s : System) (text : List ℕ) → IsAlphabet a → IsOver a s → (Contains a.texts text → ⊥) → IsNoInput s a.texts text
no_label a s text alphabet over none k (low, is) = none (rw is (Contains-get_or a.texts k [] (omega (arith, low, over.inputs, alphabet.inputs))))

-- neither is that of a label which is no input
pub other_label : (a : Alphabet) (s : System) (text : List ℕ) (l : ℕ) → IsAlphabet a → IsOver a s → l < length a.texts → text_at a.texts l ≡ text → s.inputs ≤ l → IsNoInput s a.texts text
other_label a s text l alphabet over below at above k (low, is) =
    let same : k ≡ l = number_unique a alphabet k l (omega (arith, low, over.inputs, alphabet.inputs)) below (sym is ∙ sym at) in
    omega (arith, low, above, same)

-- what a hearing gives
pub heard_gives : {R : Type 0} (step : R → ℕ × R) (s : System) (texts : List (List ℕ)) (p q : Place R) (label said : Option ℕ) (heard : Heard) (x y : Simulated R) →
    record { system = s; texts = texts; place = p } ≡ x → y ≡ record { system = s; texts = texts; place = q } → Hears step s p label q → IsAnswer y.texts label heard (said_text y.texts said) →
    GivesSimulated step x (Listened heard (said_text y.texts said)) y
heard_gives {R} step s texts p q label said heard x y old new hears answer =
    let text : List ℕ = said_text y.texts said in
    subst (λ (z : Simulated R). GivesSimulated step z (Listened heard text) y) old (
      (label, subst (λ (z : Simulated R). Hears step s p label z.place) (sym new) hears, subst (λ (ts : List (List ℕ)). IsAnswer ts label heard text) (ap (λ z. z.texts) new) answer),
      ap (λ z. z.system) new,
      ap (λ z. z.texts) new,
    )

-- what a look gives
pub looked_gives : {R : Type 0} (step : R → ℕ × R) (s : System) (texts : List (List ℕ)) (p q : Place R) (label said : Option ℕ) (heard : Heard) (x y : Simulated R) →
    record { system = s; texts = texts; place = p } ≡ x → y ≡ record { system = s; texts = texts; place = q } → Looks step s p label q → IsAnswer y.texts label heard (said_text y.texts said) →
    GivesSimulated step x (Looked heard (said_text y.texts said)) y
looked_gives {R} step s texts p q label said heard x y old new looks answer =
    let text : List ℕ = said_text y.texts said in
    subst (λ (z : Simulated R). GivesSimulated step z (Looked heard text) y) old (
      (label, subst (λ (z : Simulated R). Looks step s p label z.place) (sym new) looks, subst (λ (ts : List (List ℕ)). IsAnswer ts label heard text) (ap (λ z. z.texts) new) answer),
      ap (λ z. z.system) new,
      ap (λ z. z.texts) new,
    )

-- what a text that was sent gives
pub sent_gives : {R : Type 0} (step : R → ℕ × R) (s : System) (texts : List (List ℕ)) (p q : Place R) (a : ℕ) (text : List ℕ) (x : Simulated R) → record { system = s; texts = texts; place = p } ≡ x →
    IsInputText s texts text a → TakesInput step s p a q → GivesSimulated step x (Gave text) (record { system = s; texts = texts; place = q })
sent_gives {R} step s texts p q a text x old is takes =
    subst (λ (z : Simulated R). GivesSimulated step z (Gave text) (record { system = s; texts = texts; place = q })) old ((a, is, takes), refl, refl)

-- an input that was taken leads to where a simulation may be
pub sent_on : {R : Type 0} (step : R → ℕ × R) (s : System) (texts : List (List ℕ)) (p q : Place R) (a : ℕ) (text : List ℕ) → IsInputText s texts text a → TakesInput step s p a q → IsSimulating s p.at → IsSimulating s q.at
sent_on step s texts p q a text is takes h = simulating_on s p.at q.at (Input a ∷ []) h (TakesInput-leads step s p a q is.0 takes)

-- whether a hearing shows something
pub shown_gives : {R : Type 0} (step : R → ℕ × R) (s : System) (texts : List (List ℕ)) (p q : Place R) (label said : Option ℕ) (heard : Heard) (x y : Simulated R) →
    record { system = s; texts = texts; place = p } ≡ x → y ≡ record { system = s; texts = texts; place = q } → Hears step s p label q → IsAnswer y.texts label heard (said_text y.texts said) →
    IsShownBy step x (is_some label) (said_text y.texts said) y
shown_gives step s texts p q None said heard x y old new hears answer = rw answer.0 at (heard_gives step s texts p q None said heard x y old new hears answer)
shown_gives step s texts p q (Some a) said heard x y old new hears answer = rw answer.0 at (heard_gives step s texts p q (Some a) said heard x y old new hears answer)
