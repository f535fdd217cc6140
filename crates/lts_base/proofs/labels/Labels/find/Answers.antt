use Rattle.std.proofs.Common.{List, ℕ, take, drop, length, Contains, subst, ◌-◌}
use Rattle.std.proofs.lemmas.List.{take_rest}
use Rattle.lts_base.proofs.LabelLaws.{Contains-halves}
use Rattle.lts_base.proofs.labels.Labels.find.Goals as goal

pub returns-in-None : goal.returns-in-None
returns-in-None c =
    let text = c.args.text.now in
    let n = c.self.inside.inputs in
    let front : Contains (take n c.self.inside.texts.items) text → ⊥ =
    subst (λ (xs : List (List ℕ)). Contains (take n xs) text → ⊥) c.deref.ensures.value c.in_default.ensures in
    let rest : Contains (take (length c.self.inside.texts.items - n) (drop n c.self.inside.texts.items)) text → ⊥ =
    subst (λ (xs : List (List ℕ)). Contains (take (length xs - n) (drop n xs)) text → ⊥) c.deref-2.ensures.value c.in-None.ensures in
    let back : Contains (drop n c.self.inside.texts.items) text → ⊥ = rw take_rest at rest in
    rw (← c.self.view_is) (Contains-halves c.self.inside.texts.items n text front back)
