-- Private: a simulation as a link keeps it. Promise: how it begins.
use Rattle.std.specs.Prelude.{◌≡◌, ℕ, ◌<◌, List, [], length, Option, Some, None}
use Rattle.lts_base.specs.Alphabet.{Alphabet, IsAlphabet, IsOver, text_at}
use Rattle.lts_base.specs.System.{System}
use Rattle.edge_io.specs.Links.{ToldLink}
use Rattle.sim_core.specs.Acts.{Simulated}
use Rattle.sim_core.specs.Gone.{IsSimulating}

-- a link to a simulation: the simulation, the label of the output that was answered last, and how many faults and idle answers
-- there were
pub record Linked (R : Type 0) : Type 0 where
  pub simulated : Simulated R
  pub said : Option ℕ
  pub faults : ℕ
  pub idles : ℕ

-- the text of the output that was answered last
abbrev pub said_text : List (List ℕ) → Option ℕ → List ℕ
said_text texts None = []
said_text texts (Some a) = text_at texts a

-- what the link tells; it keeps no acts
abbrev pub told_of : {R : Type 0} → Linked R → ToldLink
told_of k = record { acts = None; said = said_text k.simulated.texts k.said; faults = k.faults; idles = k.idles }

-- a simulation of the system, over these labels, at its start
abbrev pub begun : {R : Type 0} → System → Alphabet → R → Linked R
begun s a rng = record {
  simulated = record { system = s; texts = a.texts; place = record { at = s.start; rng = rng } };
  said = None;
  faults = 0;
  idles = 0;
}

-- the label that was answered, if there was one, has a text
abbrev pub IsSaying : List (List ℕ) → Option ℕ → Type 0
IsSaying texts None = Unit {0}
IsSaying texts (Some a) = a < length texts

-- what a link keeps: a state that can be reached, labels that are those of the system, and room for a search that isn't under way
pub record IsLinked (a : Alphabet) (s : System) (at : ℕ) (said : Option ℕ) (room : ℕ) (found : List ℕ) : Type 0 where
  pub simulating : IsSimulating s at
  pub alphabet : IsAlphabet a
  pub over : IsOver a s
  pub saying : IsSaying a.texts said
  pub room_is : room ≡ s.states
  pub none : found ≡ []
