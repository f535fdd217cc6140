use Rattle.std.proofs.Common.{◌≡◌, ◌<◌, ◌≤◌, sym, arith}
use Rattle.std.proofs.lemmas.Bool.{iff_false}
use Rattle.session_core.specs.declared.phase.Phase.TheVariants.{Ask}
use Rattle.session_core.specs.Seat.{rules_of}
use Rattle.session_core.proofs.SoundLaws.{offered_in, allowed_in, no_input}
use Rattle.session_core.proofs.session.Session.offered.Goals.{else-a-inputs-via-then-a-inputs+else-is_allowed, else-a-inputs-via-else-a-inputs}
use Rattle.session_core.proofs.session.Session.offered.Goals as goal

pub returns-then-is_allowed : goal.returns-then-is_allowed
returns-then-is_allowed g c =
    let sound = c.self.invariant.0 in
    let asks : c.self.inside.state.sitting.phase ≡ Ask = rw (← c.self.view_is) at c.requires in
    let w = g.W.Walk.walked c.self.inside.walk in
    let r = rules_of w c.self.inside.labels.now c.self.inside.setup in
    let low : c.in-Input.a < r.system.inputs = rw (sound.rules.inputs, ← c.inputs.ensures.inputs) c.if-a-inputs.true in
    rw (← c.self.view_is) (c.in-Input.is, low, offered_in w r c.in-Input.a c.self.inside.state.sitting.items sound.rules.system ((c.is_allowed.ensures c.self.inside.state.sitting.items (sound.at (rw asks tt))).0 c.if-is_allowed.true))

pub returns-else-a-inputs : goal.returns-else-a-inputs
returns-else-a-inputs g c =
    let sound = c.self.invariant.0 in
    let asks : c.self.inside.state.sitting.phase ≡ Ask = rw (← c.self.view_is) at c.requires in
    let w = g.W.Walk.walked c.self.inside.walk in
    let r = rules_of w c.self.inside.labels.now c.self.inside.setup in
    let σ = c.self.inside.state.sitting.items in
    let at = sound.at (rw asks tt) in
    elim c.else-a-inputs.branch [
      | else-a-inputs-via-then-a-inputs+else-is_allowed w2 ↦
          rw (← c.self.view_is, c.in-Input.is) (λ offered. iff_false (w2.is_allowed.ensures σ at) w2.if-is_allowed.false (allowed_in w r c.in-Input.a σ sound.rules.system offered))
      | else-a-inputs-via-else-a-inputs w2 ↦
          let high : r.system.inputs ≤ c.in-Input.a = rw (sound.rules.inputs, ← c.inputs.ensures.inputs) w2.if-a-inputs.false in
          rw (← c.self.view_is, c.in-Input.is) (no_input w r c.in-Input.a c.self.inside.here.0 σ sound.rules.system at high)
    ]
