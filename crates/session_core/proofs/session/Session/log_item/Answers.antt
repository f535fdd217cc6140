use Rattle.std.proofs.Common.{◌≡◌, ◌∙◌, ◌≤◌, ◌++◌, ◌∷◌, [], sym, arith}
use Rattle.std.proofs.lemmas.Bool.{iff_false}
use Rattle.lts_base.specs.System.{IsItemOf}
use Rattle.session_core.specs.declared.verdict.Verdict.TheVariants.{Pass}
use Rattle.session_core.specs.Table.{IsOpen, IsOver}
use Rattle.session_core.specs.Placed.{IsAt}
use Rattle.session_core.specs.Seat.{rules_of}
use Rattle.session_core.proofs.SoundLaws.{item_at, sound_done, sound_logged}
use Rattle.session_core.proofs.session.Session.log_item.Goals as goal

pub invariant_of-self-else-is_over : goal.invariant_of-self-else-is_over
invariant_of-self-else-is_over g c =
    let w = g.W.Walk.walked c.self.inside.walk in
    let a = c.self.inside.labels.now in
    let r = rules_of w a c.self.inside.setup in
    let s = c.self.inside.state.sitting in
    let (sound, room) = c.self.invariant in
    let opened : IsOpen s.phase = rw (← c.self.view_is) at c.requires.open in
    let low : c.args.mid ≤ s.mid = rw (← c.self.view_is) at c.requires.mid in
    let at : IsAt w r.mode c.args.next.0 (s.items ++ c.args.item ∷ []) = rw (← c.self.view_is) at c.requires.next in
    let more : ¬ IsOver r (s.items ++ c.args.item ∷ []) = rw (c.items.ensures, c.log.ensures.sitting) at (iff_false c.is_over.ensures c.if-is_over.false) in (
      sound_logged w a r c.self.inside.state c.self.inside.here.0 c.self.inside.next.0 c.self.inside.offers.items c.log.new.self c.args.item c.args.mid c.args.next.0 c.self.inside.next.0 c.fill.new.offers.items sound opened low at more c.log.ensures.sitting c.log.ensures.room
          (rw c.inputs-inputs.ensures.inputs at (c.fill.ensures.offers (s.items ++ c.args.item ∷ []) at)),
      rw c.fill.ensures.capacity room,
    )

pub invariant_of-self : goal.invariant_of-self
invariant_of-self g c =
    let w = g.W.Walk.walked c.self.inside.walk in
    let a = c.self.inside.labels.now in
    let r = rules_of w a c.self.inside.setup in
    let s = c.self.inside.state.sitting in
    let (sound, room) = c.self.invariant in
    let at : IsAt w r.mode c.args.next.0 (s.items ++ c.args.item ∷ []) = rw (← c.self.view_is) at c.requires.next in
    let item : IsItemOf w.system c.args.item = item_at w r.mode c.args.next.0 s.items c.args.item at in (
      sound_done w a r c.self.inside.state c.self.inside.here.0 c.self.inside.next.0 c.self.inside.offers.items c.turn_to.new.self c.args.item c.args.mid c.args.next.0 Pass sound item (rw c.log.ensures.sitting at c.turn_to.ensures.sitting) (c.turn_to.ensures.room ∙ c.log.ensures.room),
      room,
    )
