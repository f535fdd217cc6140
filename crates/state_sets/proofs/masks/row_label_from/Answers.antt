use Rattle.std.proofs.Common.{◌≡◌, ◌+◌, arith}
use Rattle.lts_base.specs.System.{label_count}
use Rattle.state_sets.proofs.MaskLaws.{least_taken}
use Rattle.state_sets.proofs.masks.row_label_from.Goals as goal

pub returns : goal.returns
returns c ps is =
    let e : c.inputs.result + c.outputs.result ≡ label_count c.args.lts.now = omega (arith, c.inputs.ensures.inputs, c.outputs.ensures.outputs) in
    least_taken c.args.lts.now ps c.args.row.now c.args.from _ is (rw e at c.next_bit.ensures)
