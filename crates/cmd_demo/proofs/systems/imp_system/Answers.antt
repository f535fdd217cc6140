use Rattle.std.proofs.Common.{rules}
use Rattle.cmd_demo.specs.Size.{IsSize}
use Rattle.cmd_demo.proofs.SystemLaws.{imp_fit}
use Rattle.cmd_demo.proofs.systems.imp_system.Goals as goal

pub raw_system-requires : goal.raw_system-requires
raw_system-requires c =
    let size : IsSize c.args.size.number = search rules in
    imp_fit c.args.size.number _ size c.in_ok-moves.ensures
