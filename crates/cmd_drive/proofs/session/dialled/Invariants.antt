use Rattle.cmd_drive.proofs.session.dialled.Given as goal

abbrev pub ghosts-linked : goal.ghosts-linked
ghosts-linked g a = record { name = a.blank.name; parts = a.blank.parts }
