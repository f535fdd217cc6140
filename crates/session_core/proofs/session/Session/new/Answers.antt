use Rattle.std.proofs.Common.{◌≡◌, ◌≤◌, [], refl, sym, vec_capacity}
use Rattle.session_core.specs.Placed.{IsAt}
use Rattle.session_core.specs.Seat.{rules_of}
use Rattle.session_core.proofs.SoundLaws.{at_opening, rules_new, sound_new}
use Rattle.session_core.proofs.session.Session.new.Goals as goal

pub fill-requires-clause-placed : goal.fill-requires-clause-placed
fill-requires-clause-placed g c =
    let begins = c.begin-here.ensures in
    ([], at_opening (g.W.Walk.walked c.args.walk) c.args.setup.mode c.begin-here.result.0 begins.walk begins.node begins.opening)

pub invariant_of-result : goal.invariant_of-result
invariant_of-result g c =
    let w = g.W.Walk.walked c.args.walk in
    let a = c.args.labels.now in
    let begins = c.begin-here.ensures in
    let at = at_opening w c.args.setup.mode c.begin-here.result.0 begins.walk begins.node begins.opening in
    let needs = c.requires in
    let rules = rules_new w a c.args.setup c.inputs.ensures.alphabet needs.over needs.patience.0 needs.patience.1 needs.steps.0 needs.steps.1 in
    let room : a.inputs ≤ vec_capacity c.in_ok-offers.offers = rw c.inputs.ensures.inputs at c.in_ok-offers.ensures.capacity in (
      rw c.in_ok-state.ensures (sound_new w a (rules_of w a c.args.setup) c.args.setup.steps c.begin-here.result.0 c.begin-here.result.0 c.fill.new.offers.items rules refl at (rw c.inputs-2.ensures.inputs at (c.fill.ensures.offers [] at))),
      rw c.fill.ensures.capacity room,
    )
