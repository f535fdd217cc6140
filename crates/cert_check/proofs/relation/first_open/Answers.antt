use Rattle.std.proofs.Common.{◌<◌, sym, ◌∙◌, arith}
use Rattle.lts_base.specs.System.{label_count}
use Rattle.cert_check.proofs.RelationLaws.{closed_pass, closed_next, closed_all, first_open_at}
use Rattle.cert_check.proofs.relation.first_open.Goals.{then-present-number+in_ok-closed+else-not-closed, else-present-number}
use Rattle.cert_check.proofs.relation.first_open.Goals as goal

pub is_closed-requires-clause-imp_item : goal.is_closed-requires-clause-imp_item
is_closed-requires-clause-imp_item c =
    c.item_at-item.ensures.item c.args.imp.now (sym (c.inputs-inputs.ensures.inputs ∙ c.requires.relation.inputs)) (sym (c.outputs-outputs.ensures.outputs ∙ c.requires.relation.outputs))

pub is_closed-requires-clause-spec_item : goal.is_closed-requires-clause-spec_item
is_closed-requires-clause-spec_item c = c.item_at-item.ensures.item c.args.spec.now (sym c.inputs-inputs.ensures.inputs) (sym c.outputs-outputs.ensures.outputs)

pub returns-then-not-closed-clause-open_at : goal.returns-then-not-closed-clause-open_at
returns-then-not-closed-clause-open_at c =
    first_open_at _ _ _ _ _ _ _ _ _ _ c.inputs-inputs.ensures.inputs c.outputs-outputs.ensures.outputs c.item_at-item.ensures.place
    (rw c.if-not-closed.true at c.in_ok-closed.ensures.closed) c.items.invariant.closed

pub items-preserved : goal.items-preserved
items-preserved c =
    elim c.if-present-number.branch [
      | then-present-number+in_ok-closed+else-not-closed w ↦
          rw (w.imp_marks-is, w.spec_marks-is) (record {
            imp_marks = w.in_ok-closed.ensures.imp_states ∙ c.items.invariant.imp_marks;
            spec_marks = w.in_ok-closed.ensures.spec_states ∙ c.items.invariant.spec_marks;
            closed = closed_next _ _ _ _ _ _ _ _ _ _ c.inputs-inputs.ensures.inputs c.outputs-outputs.ensures.outputs
                (w.item_at-item.ensures.item c.args.spec.now (sym c.inputs-inputs.ensures.inputs) (sym c.outputs-outputs.ensures.outputs)) w.item_at-item.ensures.place
                (rw w.if-not-closed.false at w.in_ok-closed.ensures.closed) c.items.invariant.closed;
          })
      | else-present-number w ↦
          rw (w.imp_marks-is, w.spec_marks-is) (record {
            imp_marks = c.items.invariant.imp_marks;
            spec_marks = c.items.invariant.spec_marks;
            closed = closed_pass _ c.args.imp.now c.args.spec.now _ _ _ c.args.present.now _ c.requires.relation.inputs c.requires.relation.outputs c.requires.present w.if-present-number.false c.items.invariant.closed;
          })
    ]

pub returns-clause-open_at : goal.returns-clause-open_at
returns-clause-open_at c =
    let over : label_count c.args.spec.now < c.items.number = omega (arith, c.items-test.false, c.inputs-inputs.ensures.inputs, c.outputs-outputs.ensures.outputs) in
    closed_all _ _ _ _ _ _ _ over c.items.invariant.closed
