use Rattle.std.proofs.Common.{arith}
use Rattle.edge_io.specs.Doors.{IsNewStream}
use Rattle.edge_io.specs.StreamsInMemory.{told_of_stream}
use Rattle.edge_io.proofs.DialerLaws.{all_first, all_rest}
use Rattle.edge_io.proofs.memory_door.MemDoorDoor.accept.Goals as goal

pub invariant_of-self : goal.invariant_of-self
invariant_of-self c =
    let old = c.self.invariant in
    let items = c.next.ensures.items in
    let step = c.in-Some.ensures.cases in
    (all_rest (λ stream. IsNewStream (told_of_stream stream)) _ _ _ items old.0, omega (arith, old.1, step.1), old.2)

pub returns-clause-new : goal.returns-clause-new
returns-clause-new c = all_first (λ stream. IsNewStream (told_of_stream stream)) _ _ _ c.in-Some.ensures.cases.0 c.self.invariant.0

pub invariant_of-self-2 : goal.invariant_of-self-2
invariant_of-self-2 c =
    let old = c.self.invariant in
    let items = c.next.ensures.items in
    (all_rest (λ stream. IsNewStream (told_of_stream stream)) _ _ _ items old.0, omega (arith, old.1, c.next.ensures.len), old.2)
