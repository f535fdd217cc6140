use Rattle.tool_base.proofs.ReadLaws.{loads_before, read_later}
use Rattle.tool_base.proofs.systems.all_systems.Goals as goal

pub over_files-requires : goal.over_files-requires
over_files-requires g c = record { read = rw c.as_slice.ensures (read_later _ _ _ _ c.in_ok-raws.ensures.keeps c.in_ok-raws.ensures.read) }

pub returns-clause-loaded : goal.returns-clause-loaded
returns-clause-loaded g c = loads_before _ _ _ _ _ c.in_ok-raws.ensures.keeps c.over_files.ensures.loaded
