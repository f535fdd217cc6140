use Rattle.sim_serve.specs.Asked.{request_from}
use Rattle.sim_serve.specs.Serve.{scene}
use Rattle.sim_serve.specs.Turn.{IsSoFar}
use Rattle.sim_serve.proofs.serving.serve_all.Given as goal

abbrev pub invariant-sessions : goal.invariant-sessions
invariant-sessions g l =
    IsSoFar (request_from l.request) l.imp.labels l.imp.system (scene (g.R.Door.told l.fn.door) (g.R.Door.told l.door) (g.S.Sink.told l.fn.out) (g.S.Sink.told l.out)) l.place
