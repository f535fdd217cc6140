use Rattle.std.proofs.Common.{map, string_bytes, inr}
use Rattle.sim_serve.specs.Asked.{request_from}
use Rattle.sim_serve.specs.Serve.{scene}
use Rattle.sim_serve.proofs.ExactLaws.{served_answered}
use Rattle.sim_serve.proofs.answer.serve.Goals as goal

pub returns-in-Some-clause-answered : goal.returns-in-Some-clause-answered
returns-in-Some-clause-answered g c =
    served_answered (map string_bytes c.args.words.now) (g.F.Files.told c.args.files.now) (g.F.Files.told c.serve_request.new.files)
    (scene (g.R.Door.told c.args.door.now) (g.R.Door.told c.serve_request.new.door) (g.S.Sink.told c.args.out.now) (g.S.Sink.told c.serve_request.new.out)) c.serve_request.result
    (inr (request_from c.in-Some.request, c.in-Some.ensures, c.serve_request.ensures.served))
