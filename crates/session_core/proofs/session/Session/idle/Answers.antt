use Rattle.std.proofs.Common.{◌≡◌, ◌≤◌, ◌+◌, None, refl, sym, ◌∙◌, inr}
use Rattle.std.proofs.lemmas.Result.{err_from_is_err_and}
use Rattle.lts_base.specs.declared.item.Item.TheVariants.{Delta}
use Rattle.session_core.specs.declared.phase.Phase.TheVariants.{Hear}
use Rattle.session_core.specs.Sound.{Saw}
use Rattle.session_core.proofs.SawLaws.{saw_quiet, hears_idle}
use Rattle.session_core.proofs.TakeLaws.{takes_quiet, refuses_quiet}
use Rattle.session_core.proofs.session.Session.idle.Goals as goal

pub returns-in_err-observe : goal.returns-in_err-observe
returns-in_err-observe g c =
    let p = c.args.self.now in
    let inside : c.self.inside.state.sitting.phase ≡ p.sitting.phase = rw (← c.self.view_is) refl in
    let hears : p.sitting.phase ≡ Hear = hears_idle p.sitting.phase c.requires.0 (λ a e. c.in_default.not-Look a (c.phase.ensures ∙ inside ∙ e)) in
    let long : p.rules.patience ≤ p.sitting.idles + 1 = rw (← c.self.view_is) (rw c.idles.ensures at c.if-idles-self.false) in
    let q = err_from_is_err_and c.from_residual.result c.from_residual.ensures.1 in
    rw (q.1, q.2) (record { ok = tt; err = refuses_quiet p _ hears long c.in_err-observe.ensures.err; same = c.in_err-observe.ensures.same; steps = c.in_err-observe.ensures.steps })

pub returns-in_ok-observe : goal.returns-in_ok-observe
returns-in_ok-observe g c =
    let p = c.args.self.now in
    let inside : c.self.inside.state.sitting.phase ≡ p.sitting.phase = rw (← c.self.view_is) refl in
    let hears : p.sitting.phase ≡ Hear = hears_idle p.sitting.phase c.requires.0 (λ a e. c.in_default.not-Look a (c.phase.ensures ∙ inside ∙ e)) in
    let long : p.rules.patience ≤ p.sitting.idles + 1 = rw (← c.self.view_is) (rw c.idles.ensures at c.if-idles-self.false) in
    let mid : c.mid-mid.result ≡ p.sitting.mid = rw (← c.self.view_is) c.mid-mid.ensures in
    let none : p.sitting.strange ≡ None = rw (← c.self.view_is) (c.self.invariant.0.strange (rw (inside ∙ hears) tt)) in
    let e = c.in_ok-observe.ensures in
    let saw : Saw p.rules p.sitting Delta c.observe.new.self.sitting = rw mid at e.saw in
    record { ok = takes_quiet p c.observe.new.self hears long (rw hears (inr (long, saw_quiet p.rules p.sitting c.observe.new.self.sitting none saw))) e.rules e.walk; err = tt; same = tt; steps = e.steps }
