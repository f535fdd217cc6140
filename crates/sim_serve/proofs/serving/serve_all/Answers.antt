use Rattle.std.proofs.Common.{ℕ, ap, inl}
use Rattle.sim_serve.specs.Asked.{request_from}
use Rattle.sim_serve.specs.Sessions.{number_at}
use Rattle.sim_serve.proofs.LetLaws.{Lets-none}
use Rattle.sim_serve.proofs.ServeLaws.{sofar_halted, sofar_more, sofar_none}
use Rattle.sim_serve.proofs.serving.serve_all.Goals as goal

pub returns-in-Err-put_all : goal.returns-in-Err-put_all
returns-in-Err-put_all g c = inl (record {
  lets = Lets-none c.args.request.now.address.now (g.R.Door.told c.args.door.now) (g.R.Door.told c.bind.new.self) c.bind.ensures.asked c.bind.ensures.accepted c.bind.ensures.closed c.bind.ensures.later;
  fails = c.in-Err-put_all.ensures.failed;
  front = rw c.listening_line.ensures at c.in-Err-put_all.ensures.front;
})

pub sessions-init : goal.sessions-init
sessions-init g c =
    sofar_none (request_from c.args.request.now) _ _ (g.R.Door.told c.args.door.now) (g.R.Door.told c.bind.new.self) _ _ c.bind.ensures.asked c.bind.ensures.accepted c.bind.ensures.closed c.bind.ensures.later c.in-Ok.ensures.listens
    (rw c.listening_line.ensures at c.in-Ok-put_all.ensures.ok) c.put_all.ensures.keeps

pub returns-in-Some : goal.returns-in-Some
returns-in-Some g c =
    rw c.status_of.ensures (sofar_halted (request_from c.args.request.now) _ _ (g.R.Door.told c.args.door.now) (g.R.Door.told c.sessions.door) _ (g.S.Sink.told c.args.out.now) (g.S.Sink.told c.sessions.out) _ c.sessions.place _ c.in-Some.halt
    c.sessions.invariant c.sessions-test.true (ap {A = ℕ} {B = ℕ} (number_at c.args.request.now.number) c.from.ensures) c.in-Some.ensures.next)

pub sessions-preserved : goal.sessions-preserved
sessions-preserved g c =
    sofar_more (request_from c.args.request.now) _ _ (g.R.Door.told c.args.door.now) (g.R.Door.told c.sessions.door) _ (g.S.Sink.told c.args.out.now) (g.S.Sink.told c.sessions.out) _ c.sessions.place _ c.sessions.invariant c.sessions-test.true
    (ap {A = ℕ} {B = ℕ} (number_at c.args.request.now.number) c.from.ensures) c.in_default.ensures.next
