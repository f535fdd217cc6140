-- Private: a session over a simulated implementation, while it goes on.
use Rattle.std.specs.Prelude.{◌≡◌, ℕ, None, ◌⊎◌}
use Rattle.lts_base.specs.System.{System}
use Rattle.lts_base.specs.Path.{Ends}
use Rattle.edge_io.specs.declared.act.Act.{Act}
use Rattle.edge_io.specs.declared.act.Act.TheVariants.{Looked, Listened, Gave}
use Rattle.edge_io.specs.Links.{ToldLink}
use Rattle.session_core.specs.Table.{Rules, Sitting}
use Rattle.session_core.specs.Driven.{Playing}
use Rattle.sim_core.specs.Acts.{Simulated, GivesSimulated, IsNoInput}
use Rattle.sim_core.specs.Linked.{Linked, said_text}
use Rattle.sim_core.specs.Seen.{IsSimulated}
use Rattle.sim_session.specs.Rehearsed.{IsSoundIn}

-- a text that is no input is passed over
abbrev pub IsPassedOver : {R : Type 0} → Simulated R → Act → Simulated R → Type 0
IsPassedOver x (Looked heard text) y = ⊥
IsPassedOver x (Listened heard text) y = ⊥
IsPassedOver x (Gave text) y = IsNoInput x.system x.texts text × (y ≡ x)

-- the rule of a simulation that passes over what is no input
abbrev pub GivesAny : {R : Type 0} → (R → ℕ × R) → Simulated R → Act → Simulated R → Type 0
GivesAny step x act y = GivesSimulated step x act y ⊎ IsPassedOver x act y

-- what the link tells: it has no faults
abbrev pub sure_told : {R : Type 0} → Linked R → ToldLink
sure_told k = record { acts = None; said = said_text k.simulated.texts k.said; faults = 0; idles = k.idles }

-- the items are a trace of the implementation, which ends at this state; no text was strange
pub record IsTracing (r : Rules) (i : System) (s : Sitting) (state : ℕ) : Type 0 where
  pub ends : Ends i s.items state
  pub strange : s.strange ≡ None
  pub sound : IsSoundIn s.phase r i s.items

-- the session goes by the rules over a simulation with the labels of the rules
pub record IsAlong {C R : Type 0} (r : Rules) (i : System) (p : Playing C (Simulated R)) : Type 0 where
  pub rules : p.seat.rules ≡ r
  pub simulated : IsSimulated p.link
  pub system : p.link.system ≡ i
  pub inputs : p.link.system.inputs ≡ r.system.inputs
  pub texts : p.link.texts ≡ r.texts
  pub tracing : IsTracing r p.link.system p.seat.sitting p.link.place.at
