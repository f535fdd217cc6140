-- Promise: what is seen of a simulated implementation, act by act.
use Rattle.std.specs.Prelude.{◌≡◌, ℕ, ◌<◌, ◌≤◌, List, [], ◌∷◌, ◌++◌, length, ◌⊎◌}
use Rattle.lts_base.specs.declared.item.Item.{Item}
use Rattle.lts_base.specs.declared.item.Item.TheVariants.{Input, Output, Delta}
use Rattle.lts_base.specs.Alphabet.{Alphabet, IsAlphabet, IsOver, text_at}
use Rattle.lts_base.specs.System.{IsSystem}
use Rattle.edge_io.specs.declared.act.Heard.{Heard}
use Rattle.edge_io.specs.declared.act.Heard.TheVariants.{Line, Idle, IdleMid, TooLong, End}
use Rattle.edge_io.specs.declared.act.Act.{Act}
use Rattle.edge_io.specs.declared.act.Act.TheVariants.{Looked, Listened, Gave}
use Rattle.lts_base.specs.Path.{Leads}
use Rattle.edge_io.specs.Links.{Leads as LeadsLink}
use Rattle.sim_core.specs.Acts.{Simulated, GivesSimulated}

-- the labels of a simulation
abbrev pub alphabet_of : {R : Type 0} → Simulated R → Alphabet
alphabet_of x = record { texts = x.texts; inputs = x.system.inputs }

-- the simulation is of a system over these labels
pub record IsSimulated {R : Type 0} (x : Simulated R) : Type 0 where
  pub system : IsSystem x.system
  pub alphabet : IsAlphabet (alphabet_of x)
  pub over : IsOver (alphabet_of x) x.system

-- the line is the text of an output, which is seen
abbrev pub IsOutputSeen : Alphabet → List ℕ → List Item → Type 0
IsOutputSeen a text σ = (k : ℕ) × (a.inputs ≤ k) × (k < length a.texts) × (text ≡ text_at a.texts k) × (σ ≡ Output k ∷ [])

-- the text is that of an input, which is seen
abbrev pub IsInputSeen : Alphabet → List ℕ → List Item → Type 0
IsInputSeen a text σ = (k : ℕ) × (k < a.inputs) × (text ≡ text_at a.texts k) × (σ ≡ Input k ∷ [])

-- what is seen at a look: a line, or nothing
abbrev pub IsSeenAtLook : Alphabet → Heard → List ℕ → List Item → Type 0
IsSeenAtLook a Line text σ = IsOutputSeen a text σ
IsSeenAtLook a Idle text σ = σ ≡ []
IsSeenAtLook a IdleMid text σ = ⊥
IsSeenAtLook a TooLong text σ = ⊥
IsSeenAtLook a End text σ = ⊥

-- what is seen at a hearing: a line, or quiescence, which needn't be counted
abbrev pub IsSeenAtHearing : Alphabet → Heard → List ℕ → List Item → Type 0
IsSeenAtHearing a Line text σ = IsOutputSeen a text σ
IsSeenAtHearing a Idle text σ = (σ ≡ Delta ∷ []) ⊎ (σ ≡ [])
IsSeenAtHearing a IdleMid text σ = ⊥
IsSeenAtHearing a TooLong text σ = ⊥
IsSeenAtHearing a End text σ = ⊥

-- what is seen of an act
abbrev pub IsSeenOf : Alphabet → Act → List Item → Type 0
IsSeenOf a (Looked heard text) σ = IsSeenAtLook a heard text σ
IsSeenOf a (Listened heard text) σ = IsSeenAtHearing a heard text σ
IsSeenOf a (Gave text) σ = IsInputSeen a text σ

-- what is seen of acts, one after the other
abbrev pub AreSeenOf : Alphabet → List Act → List Item → Type 0
AreSeenOf a [] σ = σ ≡ []
AreSeenOf a (act ∷ acts) σ = (τ : List Item) × (υ : List Item) × IsSeenOf a act τ × AreSeenOf a acts υ × (σ ≡ τ ++ υ)

-- the acts lead a simulation from x to y
abbrev pub AreActsFrom : {R : Type 0} → (R → ℕ × R) → Simulated R → List Act → Simulated R → Type 0
AreActsFrom step x acts y = IsSimulated x × LeadsLink (GivesSimulated step) x acts y

-- the items are the trace of a path of the system, from the state of x to that of y
abbrev pub IsTraceBetween : {R : Type 0} → Simulated R → List Item → Simulated R → Type 0
IsTraceBetween x σ y = Leads x.system x.place.at σ y.place.at
