use Rattle.session_core.specs.Seat.{rules_of}
use Rattle.session_core.proofs.FormLaws.{log_form, rules_labelled}
use Rattle.session_core.proofs.JudgeLaws.{reading_judged}
use Rattle.session_core.proofs.session.Session.log.Goals as goal

pub returns-clause-form : goal.returns-clause-form
returns-clause-form g c =
    let w = g.W.Walk.walked c.self.inside.walk in
    let a = c.self.inside.labels.now in
    let r = rules_of w a c.self.inside.setup in
    rw (c.in_ok-log.ensures, ← c.self.view_is) (log_form w a r c.self.inside.state c.self.inside.here.0 c.self.inside.next.0 c.self.inside.offers.items c.args.otherwise c.inputs.ensures.alphabet c.self.invariant.0 c.left.ensures.loggable)

pub returns-clause-judged : goal.returns-clause-judged
returns-clause-judged g c = λ events reading.
    let w = g.W.Walk.walked c.self.inside.walk in
    let a = c.self.inside.labels.now in
    let r = rules_of w a c.self.inside.setup in
    let s = c.self.inside.state.sitting in
    rw (c.in_ok-log.ensures, ← c.self.view_is) (reading_judged r events s c.args.otherwise (rules_labelled w a r c.inputs.ensures.alphabet c.begin.ensures.walk.system c.self.invariant.0.rules) (rw (← c.self.view_is) at reading))
