-- Promise: the rule of a simulated implementation, as a link.
use Rattle.std.specs.Prelude.{◌≡◌, ℕ, ◌<◌, Bool, true, false, List, [], Option, Some, None}
use Rattle.lts_base.specs.Alphabet.{text_at}
use Rattle.lts_base.specs.System.{System}
use Rattle.edge_io.specs.declared.act.Heard.{Heard}
use Rattle.edge_io.specs.declared.act.Heard.TheVariants.{Line, Idle}
use Rattle.edge_io.specs.declared.act.Act.{Act}
use Rattle.edge_io.specs.declared.act.Act.TheVariants.{Looked, Listened, Gave}
use Rattle.sim_core.specs.Simulated.{Place, Hears, Looks, TakesInput}

-- a simulation as a link has it: the system and the texts of its labels, and where it is
pub record Simulated (R : Type 0) : Type 0 where
  pub system : System
  pub texts : List (List ℕ)
  pub place : Place R

-- what is answered where this is shown: the line of the output, or nothing
abbrev pub IsAnswer : List (List ℕ) → Option ℕ → Heard → List ℕ → Type 0
IsAnswer texts None heard text = (heard ≡ Idle) × (text ≡ [])
IsAnswer texts (Some a) heard text = (heard ≡ Line) × (text ≡ text_at texts a)

-- the text is that of the input a
abbrev pub IsInputText : System → List (List ℕ) → List ℕ → ℕ → Type 0
IsInputText s texts text a = (a < s.inputs) × (text ≡ text_at texts a)

-- the text is that of no input
abbrev pub IsNoInput : System → List (List ℕ) → List ℕ → Type 0
IsNoInput s texts text = (a : ℕ) → ¬ IsInputText s texts text a

-- what the act does to the place of a simulation
abbrev pub Simulates : {R : Type 0} → (R → ℕ × R) → System → List (List ℕ) → Place R → Act → Place R → Type 0
Simulates step s texts p (Looked heard text) q = (label : Option ℕ) × Looks step s p label q × IsAnswer texts label heard text
Simulates step s texts p (Listened heard text) q = (label : Option ℕ) × Hears step s p label q × IsAnswer texts label heard text
Simulates step s texts p (Gave text) q = (a : ℕ) × IsInputText s texts text a × TakesInput step s p a q

-- the rule of a simulation; the system and the texts stay
abbrev pub GivesSimulated : {R : Type 0} → (R → ℕ × R) → Simulated R → Act → Simulated R → Type 0
GivesSimulated step x act y = Simulates step x.system x.texts x.place act y.place × (y.system ≡ x.system) × (y.texts ≡ x.texts)

-- a hearing that shows this line, or that is idle
abbrev pub IsShownBy : {R : Type 0} → (R → ℕ × R) → Simulated R → Bool → List ℕ → Simulated R → Type 0
IsShownBy step x true text y = GivesSimulated step x (Listened Line text) y
IsShownBy step x false text y = GivesSimulated step x (Listened Idle text) y
