use Rattle.sim_serve.proofs.words.read_four.Goals as goal

pub returns-in_default : goal.returns-in_default
returns-in_default c = λ asked is. c.in_default.ensures asked.number is.number_is

pub returns-in_default-sessions_of : goal.returns-in_default-sessions_of
returns-in_default-sessions_of c = λ asked is. c.in_default-sessions_of.ensures asked.sessions is.sessions_is
