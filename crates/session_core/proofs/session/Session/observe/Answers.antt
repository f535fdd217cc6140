use Rattle.std.proofs.Common.{◌≡◌, ◌≤◌, ◌++◌, ◌∷◌, [], refl, sym, ◌∙◌, subst, arith, IsTrue}
use Rattle.std.proofs.lemmas.Bool.{iff_false}
use Rattle.std.proofs.lemmas.Result.{err_from_is_err_and}
use Rattle.lts_base.specs.System.{IsItemOf}
use Rattle.lts_base.specs.After.{ShowsAfter}
use Rattle.session_core.specs.Table.{Rules, IsOpen, IsOver, Settles}
use Rattle.session_core.specs.Placed.{IsAt}
use Rattle.session_core.specs.Seat.{rules_of}
use Rattle.session_core.proofs.SoundLaws.{sound_kept, rules_same}
use Rattle.session_core.proofs.SawLaws.{seen_allowed, saw_shown, saw_other, saw_in_shown, saw_in_other, refuses_shown}
use Rattle.session_core.proofs.session.Session.observe.Goals as goal

pub step-requires-clause-placed : goal.step-requires-clause-placed
step-requires-clause-placed g c =
    let w = g.W.Walk.walked c.self.inside.walk in
    let s = c.self.inside.state.sitting in
    let at = c.self.invariant.0.at (rw (← c.self.view_is) at c.requires.open) in
    let item : IsItemOf w.system c.args.item = rw (← c.self.view_is) at c.requires.item in
    (s.items, at, seen_allowed w c.self.inside.setup.mode _ s.items c.args.item at item c.requires.seen ((c.is_shown.ensures s.items at).0 c.if-is_shown.true))

pub returns-in_err-next-clause-err : goal.returns-in_err-next-clause-err
returns-in_err-next-clause-err g c =
    let w = g.W.Walk.walked c.self.inside.walk in
    let r = rules_of w c.self.inside.labels.now c.self.inside.setup in
    let s = c.self.inside.state.sitting in
    let at = c.self.invariant.0.at (rw (← c.self.view_is) at c.requires.open) in
    let item : IsItemOf w.system c.args.item = rw (← c.self.view_is) at c.requires.item in
    let shown : ShowsAfter w.system s.items c.args.item = (c.is_shown.ensures s.items at).0 c.if-is_shown.true in
    let allowed = seen_allowed w c.self.inside.setup.mode _ s.items c.args.item at item c.requires.seen shown in
    let p = err_from_is_err_and c.from_residual.result c.from_residual.ensures.1 in
    rw (p.1, p.2, ← c.self.view_is) (refuses_shown r w s.items c.args.item _ shown (λ traces account. c.in_err-next.ensures.account traces s.items account at allowed))

pub invariant_of-self-then-is_shown : goal.invariant_of-self-then-is_shown
invariant_of-self-then-is_shown g c = (
  sound_kept (g.W.Walk.walked c.self.inside.walk) (g.W.Walk.walked c.step.new.walk) c.self.inside.labels.now c.self.inside.setup c.self.inside.state c.self.inside.here.0 c.self.inside.next.0 c.self.inside.offers.items c.step.ensures.grows.system c.step.ensures.kept c.self.invariant.0,
  c.self.invariant.1,
)

pub log_item-requires-clause-next : goal.log_item-requires-clause-next
log_item-requires-clause-next g c =
    let w = g.W.Walk.walked c.self.inside.walk in
    let s = c.self.inside.state.sitting in
    let at = c.self.invariant.0.at (rw (← c.self.view_is) at c.requires.open) in
    let item : IsItemOf w.system c.args.item = rw (← c.self.view_is) at c.requires.item in
    c.in_ok-next.ensures.ok s.items at (seen_allowed w c.self.inside.setup.mode _ s.items c.args.item at item c.requires.seen ((c.is_shown.ensures s.items at).0 c.if-is_shown.true))

pub returns-in_ok-next-clause-saw : goal.returns-in_ok-next-clause-saw
returns-in_ok-next-clause-saw g c =
    let w = g.W.Walk.walked c.self.inside.walk in
    let a = c.self.inside.labels.now in
    let r = rules_of w a c.self.inside.setup in
    let s = c.self.inside.state.sitting in
    let at = c.self.invariant.0.at (rw (← c.self.view_is) at c.requires.open) in
    let settles : Settles r (record s { mid = c.args.mid }) c.args.item c.log_item.new.self.sitting =
    subst (λ (q : Rules). Settles q (record s { mid = c.args.mid }) c.args.item c.log_item.new.self.sitting) (rules_same w (g.W.Walk.walked c.step.new.walk) a c.self.inside.setup c.step.ensures.grows.system) c.log_item.ensures.settles in
    rw (← c.self.view_is) (saw_shown r (record s { mid = c.args.mid }) c.log_item.new.self.sitting c.args.item ((c.is_shown.ensures s.items at).0 c.if-is_shown.true) settles)

pub returns-in_ok-next-clause-walk : goal.returns-in_ok-next-clause-walk
returns-in_ok-next-clause-walk g c =
    let w = g.W.Walk.walked c.self.inside.walk in
    let r = rules_of w c.self.inside.labels.now c.self.inside.setup in
    let s = c.self.inside.state.sitting in
    let at = c.self.invariant.0.at (rw (← c.self.view_is) at c.requires.open) in
    let item : IsItemOf w.system c.args.item = rw (← c.self.view_is) at c.requires.item in
    let shown : ShowsAfter w.system s.items c.args.item = (c.is_shown.ensures s.items at).0 c.if-is_shown.true in
    let allowed = seen_allowed w c.self.inside.setup.mode _ s.items c.args.item at item c.requires.seen shown in
    rw (← c.self.view_is, c.log_item.ensures.walked) (saw_in_shown r w (g.W.Walk.walked c.step.new.walk) s.items c.args.item shown (record {
      grows = c.step.ensures.grows;
      walk = (c.in_ok-next.ensures.ok s.items at allowed).walk;
      account = λ traces account. c.in_ok-next.ensures.account traces s.items account at allowed;
    }))

pub returns-else-is_shown-clause-saw : goal.returns-else-is_shown-clause-saw
returns-else-is_shown-clause-saw g c =
    let w = g.W.Walk.walked c.self.inside.walk in
    let r = rules_of w c.self.inside.labels.now c.self.inside.setup in
    let s = c.self.inside.state.sitting in
    let at = c.self.invariant.0.at (rw (← c.self.view_is) at c.requires.open) in
    rw (← c.self.view_is) (saw_other r (record s { mid = c.args.mid }) c.log.new.self.sitting c.args.item (iff_false (c.is_shown.ensures s.items at) c.if-is_shown.false) (rw c.items.ensures at c.log.ensures.sitting))

pub returns-else-is_shown-clause-walk : goal.returns-else-is_shown-clause-walk
returns-else-is_shown-clause-walk g c =
    let w = g.W.Walk.walked c.self.inside.walk in
    let r = rules_of w c.self.inside.labels.now c.self.inside.setup in
    let s = c.self.inside.state.sitting in
    let at = c.self.invariant.0.at (rw (← c.self.view_is) at c.requires.open) in
    rw (← c.self.view_is) (saw_in_other r w w s.items c.args.item (iff_false (c.is_shown.ensures s.items at) c.if-is_shown.false) refl)
