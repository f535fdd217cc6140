use Rattle.cmd_drive.proofs.rehearsal.over_walk.Given as goal

abbrev pub ghosts-simulated : goal.ghosts-simulated
ghosts-simulated g a = record { name = a.blank.name; parts = a.blank.parts }
