use Rattle.std.proofs.Common.{refl, inl, inr}
use Rattle.std.proofs.lemmas.Result.{err_from_is_err_and}
use Rattle.edge_io.specs.declared.act.Act.TheVariants.{Looked, Listened, Gave}
use Rattle.session_core.specs.Driven.{Picked, Acted}
use Rattle.session_core.proofs.DueLaws.{due_look, due_hear, due_send, stopped_refused}
use Rattle.session_core.proofs.StallLaws.{stalls_heard, stalls_chosen, stalls_sent}
use Rattle.session_core.proofs.turn.turn_one.Goals as goal

pub returns-in_err-event-in-Ask-clause-turned : goal.returns-in_err-event-in-Ask-clause-turned
returns-in_err-event-in-Ask-clause-turned g c =
    let e = c.in_err-event-in-Ask.ensures in
    let q = err_from_is_err_and c.from_residual.result c.from_residual.ensures.1 in
    rw (q.1, q.2) (stopped_refused g.C.Choose.answer g.K.Link.gives
    (record { seat = c.args.session.now; chooser = c.args.chooser.now; link = g.K.Link.state c.args.link.now; acts = (g.K.Link.told c.args.link.now).acts })
    (record { seat = c.event.new.self; chooser = c.choose-choice.new.self; link = g.K.Link.state c.args.link.now; acts = (g.K.Link.told c.args.link.now).acts }) _
    (inl (c.choose-choice.result, (c.offers.result.now, c.offers.ensures c.requires.open, rw c.items.ensures at c.choose-choice.ensures, refl, refl), e.err, e.same)))

pub returns-in_err-event-in-Look-clause-turned : goal.returns-in_err-event-in-Look-clause-turned
returns-in_err-event-in-Look-clause-turned g c =
    let met = c.in_ok-heard-in-Look in
    let e = c.in_err-event-in-Look.ensures in
    let q = err_from_is_err_and c.from_residual-in_err-event-in-Look.result c.from_residual-in_err-event-in-Look.ensures.1 in
    rw (q.1, q.2) (stopped_refused g.C.Choose.answer g.K.Link.gives
    (record { seat = c.args.session.now; chooser = c.args.chooser.now; link = g.K.Link.state c.args.link.now; acts = (g.K.Link.told c.args.link.now).acts })
    (record { seat = c.event-in-Look.new.self; chooser = c.args.chooser.now; link = g.K.Link.state c.look.new.self; acts = (g.K.Link.told c.look.new.self).acts }) _
    (inr (Looked met.heard (g.K.Link.told c.look.new.self).said, (due_look c.args.session.now.rules c.args.session.now.sitting.phase _ _ c.in-Look.ensures.action, met.ensures.gives, met.ensures.acts, refl), rw (c.event_of.ensures, c.text.ensures) at e.err, e.same)))

pub returns-in_err-event-in-Hear-clause-turned : goal.returns-in_err-event-in-Hear-clause-turned
returns-in_err-event-in-Hear-clause-turned g c =
    let met = c.in_ok-heard-in-Hear in
    let e = c.in_err-event-in-Hear.ensures in
    let q = err_from_is_err_and c.from_residual-in_err-event-in-Hear.result c.from_residual-in_err-event-in-Hear.ensures.1 in
    rw (q.1, q.2) (stopped_refused g.C.Choose.answer g.K.Link.gives
    (record { seat = c.args.session.now; chooser = c.args.chooser.now; link = g.K.Link.state c.args.link.now; acts = (g.K.Link.told c.args.link.now).acts })
    (record { seat = c.event-in-Hear.new.self; chooser = c.args.chooser.now; link = g.K.Link.state c.hear.new.self; acts = (g.K.Link.told c.hear.new.self).acts }) _
    (inr (Listened met.heard (g.K.Link.told c.hear.new.self).said, (due_hear c.args.session.now.rules c.args.session.now.sitting.phase _ _ c.in-Hear.ensures.action, met.ensures.gives, met.ensures.acts, refl), rw (c.event_of-in-Hear.ensures, c.text-in-Hear.ensures) at e.err, e.same)))

pub returns-in_ok-event-in-Ask-clause-turned : goal.returns-in_ok-event-in-Ask-clause-turned
returns-in_ok-event-in-Ask-clause-turned g c =
    record { deed = Picked c.choose-choice.result; does = ((c.offers.result.now, c.offers.ensures c.requires.open, rw c.items.ensures at c.choose-choice.ensures, refl, refl), c.in_ok-event-in-Ask.ensures.ok) }

pub returns-in_ok-event-in-Look-clause-turned : goal.returns-in_ok-event-in-Look-clause-turned
returns-in_ok-event-in-Look-clause-turned g c =
    let met = c.in_ok-heard-in-Look in
    record {
      deed = Acted (Looked met.heard (g.K.Link.told c.look.new.self).said);
      does = ((due_look c.args.session.now.rules c.args.session.now.sitting.phase _ _ c.in-Look.ensures.action, met.ensures.gives, met.ensures.acts, refl), rw (c.event_of.ensures, c.text.ensures) at c.in_ok-event-in-Look.ensures.ok);
    }

pub returns-in_ok-event-in-Hear-clause-turned : goal.returns-in_ok-event-in-Hear-clause-turned
returns-in_ok-event-in-Hear-clause-turned g c =
    let met = c.in_ok-heard-in-Hear in
    record {
      deed = Acted (Listened met.heard (g.K.Link.told c.hear.new.self).said);
      does = ((due_hear c.args.session.now.rules c.args.session.now.sitting.phase _ _ c.in-Hear.ensures.action, met.ensures.gives, met.ensures.acts, refl), rw (c.event_of-in-Hear.ensures, c.text-in-Hear.ensures) at c.in_ok-event-in-Hear.ensures.ok);
    }

pub returns-in_ok-event-in-Send-clause-turned : goal.returns-in_ok-event-in-Send-clause-turned
returns-in_ok-event-in-Send-clause-turned g c =
    let put = c.in_ok-send-in-Send in
    record {
      deed = Acted (Gave c.text-in-Send.result.now);
      does = ((due_send c.args.session.now.rules c.args.session.now.sitting.phase c.in-Send.input _ c.in-Send.ensures.action c.text-in-Send.ensures, put.ensures.gives, put.ensures.acts, refl), c.in_ok-event-in-Send.ensures.ok);
    }

pub returns-in_ok-event-in-Ask-clause-stalled : goal.returns-in_ok-event-in-Ask-clause-stalled
returns-in_ok-event-in-Ask-clause-stalled g c = stalls_chosen _ _ _ _ _ c.in_ok-event-in-Ask.ensures.ok

pub returns-in_ok-event-in-Look-clause-stalled : goal.returns-in_ok-event-in-Look-clause-stalled
returns-in_ok-event-in-Look-clause-stalled g c =
    let met = c.in_ok-heard-in-Look in
    stalls_heard _ _ _ _ met.heard (g.K.Link.told c.look.new.self).said (rw (c.event_of.ensures, c.text.ensures) at c.in_ok-event-in-Look.ensures.ok) met.ensures.idle

pub returns-in_ok-event-in-Hear-clause-stalled : goal.returns-in_ok-event-in-Hear-clause-stalled
returns-in_ok-event-in-Hear-clause-stalled g c =
    let met = c.in_ok-heard-in-Hear in
    stalls_heard _ _ _ _ met.heard (g.K.Link.told c.hear.new.self).said (rw (c.event_of-in-Hear.ensures, c.text-in-Hear.ensures) at c.in_ok-event-in-Hear.ensures.ok) met.ensures.idle

pub returns-in_ok-event-in-Send-clause-stalled : goal.returns-in_ok-event-in-Send-clause-stalled
returns-in_ok-event-in-Send-clause-stalled g c = stalls_sent _ _ _ _ c.in_ok-event-in-Send.ensures.ok
