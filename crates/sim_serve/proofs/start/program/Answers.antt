use Rattle.sim_serve.proofs.start.program.Goals as goal

pub returns-in-Ok-clause-run : goal.returns-in-Ok-clause-run
returns-in-Ok-clause-run g c = rw c.in-Ok.is (rw (c.words_after_name.ensures, c.deref.ensures.value) at c.serve.ensures.served)
