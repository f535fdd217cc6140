use Rattle.std.proofs.lemmas.Bool.{false≢true}
use Rattle.std.proofs.Common.{◌∙◌, refl, ap, ℕ, ◌+◌, subst, sym}
use Rattle.cmd_outs.specs.Outs.{IsFirstAbsent}
use Rattle.cmd_outs.proofs.OfferLaws.{followed_none, followed_more, followed_absent}
use Rattle.cmd_outs.proofs.follow.follow.Goals as goal

pub items-init : goal.items-init
items-init c = record { states = c.in_ok-set.ensures.states ∙ (c.in_ok-search.ensures.states ∙ c.states-states.ensures.states); place = refl; followed = followed_none c.args.mode c.args.lts.now c.args.trace.now c.in_ok-set.set c.in_ok-set.ensures.opening c.in_ok-set.ensures.within }

pub returns-then-not-allows : goal.returns-then-not-allows
returns-then-not-allows c =
    subst (λ (n : ℕ). IsFirstAbsent c.args.mode c.args.lts.now c.args.trace.now (n + 1)) (sym c.items.invariant.place)
    (followed_absent c.args.mode c.args.lts.now c.args.trace.now c.items.item-index _ c.items.set c.states-states.ensures.system c.items.invariant.followed c.items-test.true (λ h. false≢true (c.if-not-allows.ensures.set.1 h)))

pub items-preserved : goal.items-preserved
items-preserved c = record {
  states = c.in_ok-set-2.ensures.states ∙ c.items.invariant.states;
  place = ap {A = ℕ} {B = ℕ} (λ n. n + 1) c.items.invariant.place;
  followed = followed_more c.args.mode c.args.lts.now c.args.trace.now c.items.item-index _ c.items.set c.in_ok-set-2.set c.states-states.ensures.system c.items.invariant.followed c.items-test.true
      (c.requires.items c.items.item-index _ c.items-test.true) (c.if-not-allows.ensures.set.0 refl) c.in_ok-set-2.ensures.next c.in_ok-set-2.ensures.within;
}
