use Rattle.state_sets.proofs.MaskLaws.{told_taken}
use Rattle.state_sets.proofs.masks.row_has.Goals as goal

pub returns : goal.returns
returns c ps is = told_taken c.args.lts.now ps c.args.row.now c.args.label _ c.requires.label c.has_bit.ensures is
