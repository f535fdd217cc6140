use Rattle.std.proofs.Common.{nat_lt, rules}
use Rattle.std.proofs.lemmas.List.Sorted.{IsPartitionPoint-from_clause, IsPartitionedBy-ltb}
use Rattle.lts_base.specs.declared.action.Move.{Move}
use Rattle.lts_base.proofs.MoveLaws.{point_from_tests}
use Rattle.lts_base.proofs.system.first_move.Goals as goal

pub returns-clause-point : goal.returns-clause-point
returns-clause-point c =
    point_from_tests c.args.moves.now c.args.state c.partition_point.result
    (IsPartitionPoint-from_clause (λ (m : Move). nat_lt m.from c.args.state) _ _ c.partition_point.ensures.partitioned
    (IsPartitionedBy-ltb (λ (m : Move). m.from) _ c.args.state c.requires) (λ a r f called. search rules))
