use Rattle.std.proofs.Common.{arith}
use Rattle.edge_io.proofs.DialerLaws.{grew_by, rose_by}
use Rattle.edge_io.proofs.DoorLaws.{door_fails_or, door_idles_or}
use Rattle.edge_io.proofs.memory_door.MemDoorDoor.close.Goals as goal

pub returns-then-len-self-clause-faults : goal.returns-then-len-self-clause-faults
returns-then-len-self-clause-faults c = rw (← c.self.view_is) (door_fails_or (rose_by (λ stream. stream.faults) c.self.inside.faults _ _ c.args.stream c.push_reserved.ensures.items))

pub returns-then-len-self-clause-idles : goal.returns-then-len-self-clause-idles
returns-then-len-self-clause-idles c = rw (← c.self.view_is) (door_idles_or (rose_by (λ stream. stream.idles) c.self.inside.idles _ _ c.args.stream c.push_reserved.ensures.items))

pub returns-then-len-self-clause-later : goal.returns-then-len-self-clause-later
returns-then-len-self-clause-later c = rw (← c.self.view_is) (record {
  refused = omega arith;
  faults = grew_by (λ stream. stream.faults) c.self.inside.faults _ _ c.args.stream c.push_reserved.ensures.items;
  idles = grew_by (λ stream. stream.idles) c.self.inside.idles _ _ c.args.stream c.push_reserved.ensures.items;
})
