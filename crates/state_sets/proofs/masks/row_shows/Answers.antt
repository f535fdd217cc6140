use Rattle.state_sets.proofs.MaskLaws.{told_shown}
use Rattle.state_sets.proofs.masks.row_shows.Goals as goal

pub returns-in-Output : goal.returns-in-Output
returns-in-Output c = rw c.in-Output.is (λ ps is. told_shown c.args.lts.now ps _ _ (rw c.in-Output.is at c.requires.item) (c.row_has.ensures ps is))
