use Rattle.std.proofs.Common.{◌≡◌, ◌≤◌, ◌++◌, ◌∷◌, [], refl, sym, inl, inr}
use Rattle.std.proofs.lemmas.Result.{err_from_is_err_and}
use Rattle.lts_base.specs.declared.item.Item.TheVariants.{Input}
use Rattle.session_core.specs.declared.phase.Phase.TheVariants.{Ask}
use Rattle.session_core.specs.Table.{Offered}
use Rattle.session_core.specs.Seat.{Seat, rules_of, Counts}
use Rattle.session_core.proofs.SoundLaws.{sound_look, allowed_in, rules_same}
use Rattle.session_core.proofs.TakeLaws.{takes_choice, refuses_choice}
use Rattle.session_core.proofs.session.Session.choose.Goals as goal

pub step-requires-clause-placed : goal.step-requires-clause-placed
step-requires-clause-placed g c =
    let w = g.W.Walk.walked c.self.inside.walk in
    let r = rules_of w c.self.inside.labels.now c.self.inside.setup in
    let s = c.self.inside.state.sitting in
    let asks : s.phase ≡ Ask = rw (← c.self.view_is) at c.requires in
    let offered : Offered r s.items c.in-Some.a = rw (← c.self.view_is) at c.in-Some.ensures.2 in
    (s.items, c.self.invariant.0.at (rw asks tt), allowed_in w r c.in-Some.a s.items refl offered)

pub returns-in_err-self-inside-in-Some-clause-err : goal.returns-in_err-self-inside-in-Some-clause-err
returns-in_err-self-inside-in-Some-clause-err g c =
    let w = g.W.Walk.walked c.self.inside.walk in
    let r = rules_of w c.self.inside.labels.now c.self.inside.setup in
    let s = c.self.inside.state.sitting in
    let asks : s.phase ≡ Ask = rw (← c.self.view_is) at c.requires in
    let offered : Offered r s.items c.in-Some.a = rw (← c.self.view_is) at c.in-Some.ensures.2 in
    let at = c.self.invariant.0.at (rw asks tt) in
    let allowed = allowed_in w r c.in-Some.a s.items refl offered in
    let seat : Seat = record { walked = w; rules = r; sitting = s } in
    let p = err_from_is_err_and c.from_residual.result c.from_residual.ensures.1 in
    rw (p.1, p.2, ← c.self.view_is, c.in-Some.ensures.0) (refuses_choice seat c.in-Some.a _ asks offered (λ traces account. c.in_err-self-inside-in-Some.ensures.account traces s.items account at allowed))

pub invariant_of-self-in-Some : goal.invariant_of-self-in-Some
invariant_of-self-in-Some g c =
    let w = g.W.Walk.walked c.self.inside.walk in
    let a = c.self.inside.labels.now in
    let r = rules_of w a c.self.inside.setup in
    let s = c.self.inside.state.sitting in
    let asks : s.phase ≡ Ask = rw (← c.self.view_is) at c.requires in
    let offered : Offered r s.items c.in-Some.a = rw (← c.self.view_is) at c.in-Some.ensures.2 in
    let at = c.self.invariant.0.at (rw asks tt) in
    let allowed = allowed_in w r c.in-Some.a s.items refl offered in
    let next = c.in_ok-self-inside-in-Some.ensures.ok s.items at allowed in (
      sound_look w (g.W.Walk.walked c.step.new.walk) a c.self.inside.setup c.self.inside.state c.self.inside.here.0 c.self.inside.next.0 c.self.inside.offers.items c.turn_to.new.self c.in-Some.a _ c.step.ensures.grows.system c.step.ensures.kept c.self.invariant.0 asks next c.turn_to.ensures.sitting c.turn_to.ensures.room,
      c.self.invariant.1,
    )

pub returns-in_ok-self-inside-in-Some-clause-ok : goal.returns-in_ok-self-inside-in-Some-clause-ok
returns-in_ok-self-inside-in-Some-clause-ok g c =
    let w = g.W.Walk.walked c.self.inside.walk in
    let v = g.W.Walk.walked c.step.new.walk in
    let a = c.self.inside.labels.now in
    let r = rules_of w a c.self.inside.setup in
    let s = c.self.inside.state.sitting in
    let asks : s.phase ≡ Ask = rw (← c.self.view_is) at c.requires in
    let offered : Offered r s.items c.in-Some.a = rw (← c.self.view_is) at c.in-Some.ensures.2 in
    let at = c.self.invariant.0.at (rw asks tt) in
    let allowed = allowed_in w r c.in-Some.a s.items refl offered in
    let counts : Counts w v (s.items ++ Input c.in-Some.a ∷ []) = record {
      grows = c.step.ensures.grows;
      walk = (c.in_ok-self-inside-in-Some.ensures.ok s.items at allowed).walk;
      account = λ traces account. c.in_ok-self-inside-in-Some.ensures.account traces s.items account at allowed;
    } in
    let seat : Seat = record { walked = w; rules = r; sitting = s } in
    let after : Seat = record { walked = v; rules = rules_of v a c.self.inside.setup; sitting = c.turn_to.new.self.sitting } in
    rw (← c.self.view_is, c.in-Some.ensures.0) (takes_choice seat after c.in-Some.a asks offered counts (rw asks (inl (offered, c.turn_to.ensures.sitting))) (rules_same w v a c.self.inside.setup c.step.ensures.grows.system))
