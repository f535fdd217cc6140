use Rattle.std.proofs.Common.{refl, inl}
use Rattle.edge_io.proofs.OutsideLaws.{AppendsTo-none}
use Rattle.torx_tool.proofs.run.written.Goals as goal

pub returns-in-Memory : goal.returns-in-Memory
returns-in-Memory g c = inl (c.in-Memory.is, refl, AppendsTo-none _)
