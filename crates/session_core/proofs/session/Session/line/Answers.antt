use Rattle.std.proofs.Common.{◌≡◌, ◌≤◌, ◌<◌, ◌++◌, ◌∷◌, [], length, None, refl, sym}
use Rattle.std.proofs.lemmas.Result.{err_from_is_err_and}
use Rattle.lts_base.specs.Alphabet.{text_at}
use Rattle.session_core.specs.Table.{IsOpen}
use Rattle.session_core.specs.Seat.{Seat, rules_of}
use Rattle.session_core.proofs.SawLaws.{saw_line, saw_strange, line_turn, open_line}
use Rattle.session_core.proofs.TakeLaws.{takes_line, refuses_line, takes_strange}
use Rattle.session_core.proofs.session.Session.line.Goals as goal

pub returns-in_ok-observe-in-Some-clause-ok : goal.returns-in_ok-observe-in-Some-clause-ok
returns-in_ok-observe-in-Some-clause-ok g c =
    let p = c.args.self.now in
    let is = c.in-Some.ensures.output in
    let opened : IsOpen p.sitting.phase = open_line p.sitting.phase c.args.text.now c.requires.0 in
    let none : p.sitting.strange ≡ None = rw (← c.self.view_is) (c.self.invariant.0.strange (rw (← c.self.view_is) at opened)) in
    let texts : p.rules.texts ≡ c.self.inside.labels.now.texts = rw (← c.self.view_is) refl in
    let low : p.rules.system.inputs ≤ c.in-Some.output = rw (← c.self.view_is) (rw c.self.invariant.0.rules.inputs is.0) in
    let high : c.in-Some.output < length p.rules.texts = rw texts is.1 in
    let same : text_at p.rules.texts c.in-Some.output ≡ c.args.text.now = rw texts is.2 in
    let e = c.in_ok-observe-in-Some.ensures in
    takes_line c.self.inside.labels.now p c.observe.new.self c.args.text.now c.in-Some.output c.output_of.ensures.alphabet texts c.requires.0 low high same
    (line_turn p.sitting.phase p.rules p.sitting c.observe.new.self.sitting c.args.text.now c.requires.0 (saw_line p.rules (record p.sitting { mid = 0 }) c.observe.new.self.sitting c.args.text.now c.in-Some.output none low high same e.saw))
    e.rules e.walk

pub returns-in_err-observe-in-Some-clause-err : goal.returns-in_err-observe-in-Some-clause-err
returns-in_err-observe-in-Some-clause-err g c =
    let p = c.args.self.now in
    let is = c.in-Some.ensures.output in
    let texts : p.rules.texts ≡ c.self.inside.labels.now.texts = rw (← c.self.view_is) refl in
    let low : p.rules.system.inputs ≤ c.in-Some.output = rw (← c.self.view_is) (rw c.self.invariant.0.rules.inputs is.0) in
    let high : c.in-Some.output < length p.rules.texts = rw texts is.1 in
    let same : text_at p.rules.texts c.in-Some.output ≡ c.args.text.now = rw texts is.2 in
    let q = err_from_is_err_and c.from_residual.result c.from_residual.ensures.1 in
    rw (q.1, q.2) (refuses_line p c.args.text.now c.in-Some.output _ c.requires.0 low high same c.in_err-observe-in-Some.ensures.err)

pub returns-in-None-clause-ok : goal.returns-in-None-clause-ok
returns-in-None-clause-ok g c =
    let w = g.W.Walk.walked c.self.inside.walk in
    let a = c.self.inside.labels.now in
    let r = rules_of w a c.self.inside.setup in
    let s = c.self.inside.state.sitting in
    let seat : Seat = record { walked = w; rules = r; sitting = s } in
    let after : Seat = record { walked = w; rules = r; sitting = c.fail_strange.new.self.sitting } in
    let can = rw (← c.self.view_is) at c.requires.0 in
    let none = rw (← c.self.invariant.0.rules.inputs) at c.in-None.ensures.output in
    rw (← c.self.view_is) (takes_strange seat after c.args.text.now none
    (line_turn s.phase r s after.sitting c.args.text.now can (saw_strange r (record s { mid = 0 }) after.sitting c.args.text.now none (rw c.items.ensures at c.fail_strange.ensures.sitting)))
    refl refl)
