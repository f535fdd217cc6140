use Rattle.sim_core.proofs.session.serve_session.Goals as goal

pub returns-clause-served : goal.returns-clause-served
returns-clause-served g c = (c.serve_over.new.sim.simulated, rw c.in_ok-sim.ensures at c.serve_over.ensures.served)
