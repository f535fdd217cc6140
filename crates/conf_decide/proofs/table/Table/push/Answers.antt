use Rattle.std.proofs.Common.{eqb, ◌≡◌, ap, sym, ◌∙◌, not, Bool, true}
use Rattle.std.specs.HashSet.{Updates}
use Rattle.conf_decide.proofs.TableLaws.{AreKeys-push, popped, on_ok, on_err}
use Rattle.conf_decide.proofs.table.Table.push.Goals as goal

pub invariant_of-self-then-is_err : goal.invariant_of-self-then-is_err
invariant_of-self-then-is_err c =
    let failed = c.is_err.ensures.negation ∙ ap {A = Bool} {B = Bool} not c.if-is_err.true in
    let keys = on_err {P = c.insert.new.self.keys ≡ c.self.inside.keys.keys} _ failed c.insert.ensures.err in
    let items = popped _ _ _ _ _ _ _ _ (sym c.in_ok-push.ensures.items ∙ c.pop.ensures.items) c.pop.ensures.cases c.in_ok-push.ensures.len in
    rw (items, keys) c.self.invariant

pub invariant_of-self-else-is_err : goal.invariant_of-self-else-is_err
invariant_of-self-else-is_err c =
    let fine = c.is_err.ensures.negation ∙ ap {A = Bool} {B = Bool} not c.if-is_err.false in
    let updates = on_ok {P = Updates eqb c.self.inside.keys c.insert.new.self c.key_of.result true} _ fine c.insert.ensures.updates in
    rw c.in_ok-push.ensures.items (AreKeys-push _ _ c.self.inside.keys c.insert.new.self c.key_of.ensures.small c.self.invariant (rw c.key_of.ensures.key at updates))
