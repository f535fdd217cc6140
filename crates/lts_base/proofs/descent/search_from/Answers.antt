use Rattle.std.proofs.Common.{◌≡◌, ◌<◌, length, get_or, None, rules}
use Rattle.lts_base.proofs.DescentEnds.{new_falls, IsKept-set, IsKept-seen, set_seen}
use Rattle.lts_base.proofs.descent.search_from.Goals as goal

pub steps-init : goal.steps-init
steps-init c =
    let w0 = c.args.descent.now in
    let new : get_or w0.places.items c.args.root None ≡ None = search rules in
    let below : c.args.root < length w0.places.items = rw c.requires.descent.standing.places_long c.requires.root in
    record {
      kept = rw c.in_ok-enter.ensures.places (IsKept-set w0.places.items w0.places.items _ _ new (λ p i e. e));
      seen = rw c.in_ok-enter.ensures.places (set_seen _ _ _ below);
      descent = c.in_ok-enter.ensures.descent;
    }

pub steps-preserved : goal.steps-preserved
steps-preserved c =
    let w1 = c.steps.descent in
    let new : get_or w1.places.items c.in-Some.state None ≡ None = rw c.in-Some.ensures.places at c.in-Some.ensures.found.1 in
    record {
      kept = rw (c.in_ok-enter-2.ensures.places, c.in-Some.ensures.places) (IsKept-set _ w1.places.items _ _ new c.steps.invariant.kept);
      seen = rw (c.in_ok-enter-2.ensures.places, c.in-Some.ensures.places) (IsKept-seen w1.places.items _ _ (IsKept-set w1.places.items w1.places.items _ _ new (λ p i e. e)) c.steps.invariant.seen);
      descent = c.in_ok-enter-2.ensures.descent;
    }

pub steps-smaller : goal.steps-smaller
steps-smaller c =
    let w1 = c.steps.descent in
    let new : get_or w1.places.items c.in-Some.state None ≡ None = rw c.in-Some.ensures.places at c.in-Some.ensures.found.1 in
    let below : c.in-Some.state < length w1.places.items = rw c.steps.invariant.descent.standing.places_long c.in-Some.ensures.found.0 in
    rw (c.in_ok-enter-2.ensures.places, c.in-Some.ensures.places) (new_falls w1.places.items _ _ below new)
