use Rattle.torx_tool.proofs.session_tests.sessions.Given as goal

abbrev pub ghosts-try_all : goal.ghosts-try_all
ghosts-try_all g a = record { name = a.blank.name; parts = a.blank.parts }
