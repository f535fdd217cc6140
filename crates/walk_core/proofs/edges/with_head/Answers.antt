use Rattle.std.proofs.Common.{◌≡◌, ◌/◌, get_or, Some, sym, ap, ◌∙◌, arith}
use Rattle.walk_core.specs.Packing.{key_from}
use Rattle.walk_core.proofs.PackedLaws.{run_found, run_none, run_past, before_point}
use Rattle.walk_core.proofs.edges.with_head.Goals as goal

pub returns-then-place-run : goal.returns-then-place-run
returns-then-place-run c =
    sym (run_none c.args.run.now (key_from c.args.head) 0
    (run_past c.args.run.now c.args.head c.place_of-place.result 0 c.requires c.place_of-place.ensures.point (λ inside here. omega (arith, inside, c.if-place-run.true))))

pub returns-then-head_in-head : goal.returns-then-head_in-head
returns-then-head_in-head c =
    let here : get_or c.args.run.now c.place_of-place.result 0 / 16777216 ≡ c.args.head = sym c.head_in.ensures ∙ c.if-head_in-head.true in
    ap Some c.answer_in.ensures ∙ sym (run_found c.args.run.now c.args.head c.place_of-place.result 0 (before_point c.args.run.now c.args.head c.place_of-place.result 0 c.place_of-place.ensures.point) c.if-place-run.false here)

pub returns : goal.returns
returns c =
    sym (run_none c.args.run.now (key_from c.args.head) 0
    (run_past c.args.run.now c.args.head c.place_of-place.result 0 c.requires c.place_of-place.ensures.point (λ inside here. c.if-head_in-head.false (c.head_in.ensures ∙ here))))
