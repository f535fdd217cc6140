use Rattle.std.proofs.Common.{None, Some, List, ℕ, ap, ◌∙◌}
use Rattle.lts_base.specs.System.{System}
use Rattle.walk_core.specs.Walked.{Walked, IsWalk}
use Rattle.walk_core.specs.Interned.{IsNextOf}
use Rattle.walk_core.specs.declared.interned.Next.TheVariants.{Known, Made}
use Rattle.walk_core.proofs.WalkLaws.{none_from_test, IsSetOf-from_next, IsAccount-step, IsStep-known, RefusesAccount-from_set, MatchResult-from_err}
use Rattle.walk_core.proofs.interned.Interned.step.Goals as goal

pub returns-in-Known-clause-ok : goal.returns-in-Known-clause-ok
returns-in-Known-clause-ok c =
    let there : IsNextOf c.args.self.now c.args.node.0 c.args.item (Known c.in-Known.number) = rw c.in-Known.is at c.in_ok-number.ensures.next in
    let walk : IsWalk c.args.self.now = rw c.in_ok-number.ensures.same at c.in_ok-number.ensures.walk in
    rw c.in_ok-number.ensures.same (IsStep-known c.args.self.now c.args.node.0 c.args.item c.in-Known.number walk there.0 there.1)

pub returns-in-Known-clause-account : goal.returns-in-Known-clause-account
returns-in-Known-clause-account c =
    λ traces σ account set has.
    IsAccount-step c.args.self.now c.next_of.new.self c.args.node.0 c.args.item (Some c.in-Known.number) traces σ
    (ap {A = Walked} {B = System} (λ w. w.system) c.in_ok-number.ensures.same) (returns-in-Known-clause-ok c) account set has

pub returns-then-is_empty-clause-account : goal.returns-then-is_empty-clause-account
returns-then-is_empty-clause-account c =
    let made : IsNextOf c.args.self.now c.args.node.0 c.args.item (Made c.in-Made.next) = rw c.in-Made.is at c.in_ok-number.ensures.next in
    let none = none_from_test _ _ c.if-is_empty.ensures c.states.ensures.value in
    λ traces σ account set has.
    IsAccount-step c.args.self.now c.next_of.new.self c.args.node.0 c.args.item None traces σ
    (ap {A = Walked} {B = System} (λ w. w.system) c.in_ok-number.ensures.same)
    (rw none at made.0, ap {A = Walked} {B = List (List ℕ)} (λ w. w.sets) c.in_ok-number.ensures.same) account set has

pub returns-in_err-number-2-clause-account : goal.returns-in_err-number-2-clause-account
returns-in_err-number-2-clause-account c =
    let made : IsNextOf c.args.self.now c.args.node.0 c.args.item (Made c.in-Made.next) = rw c.in-Made.is at c.in_ok-number.ensures.next in
    let is = IsSetOf-from_next _ _ _ _ _ made.0 made.1 c.if-is_empty.ensures c.states.ensures.value in
    λ traces σ account set has.
    MatchResult-from_err c.from_residual-in_err-number-2.result _ _ _ c.from_residual-in_err-number-2.ensures.1
    (λ y same. rw same (RefusesAccount-from_set c.args.self.now c.args.node.0 c.args.item c.in-Made.next c.in_err-number-2.field-0.0 traces σ
    made.0 is (rw c.in_ok-number.ensures.same at c.in_err-number-2.ensures.err) account set))

pub returns-clause-account : goal.returns-clause-account
returns-clause-account c =
    let made : IsNextOf c.args.self.now c.args.node.0 c.args.item (Made c.in-Made.next) = rw c.in-Made.is at c.in_ok-number.ensures.next in
    let is = IsSetOf-from_next _ _ _ _ _ made.0 made.1 c.if-is_empty.ensures c.states.ensures.value in
    let same_system = c.in_ok-number-2.ensures.system ∙ ap {A = Walked} {B = System} (λ w. w.system) c.in_ok-number.ensures.same in
    λ traces σ account set has.
    IsAccount-step c.args.self.now c.keep.new.self c.args.node.0 c.args.item (Some c.in_ok-number-2.number) traces σ same_system
    (c.in-Made.next, made.0, is, rw c.in_ok-number.ensures.same at c.in_ok-number-2.ensures.sets, c.in_ok-number-2.ensures.number.0, c.in_ok-number-2.ensures.number.1) account set has
