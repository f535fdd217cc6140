use Rattle.std.proofs.Common.{nat_lt, rules}
use Rattle.std.proofs.lemmas.List.Sorted.{IsPartitionPoint-from_clause, IsPartitionedBy-ltb}
use Rattle.lts_base.specs.declared.action.Move.{Move}
use Rattle.cert_check.specs.Runs.{move_place}
use Rattle.cert_check.proofs.RunLaws.{point_from_tests}
use Rattle.cert_check.proofs.moves.first_from.Goals as goal

pub returns-clause-point : goal.returns-clause-point
returns-clause-point c =
    point_from_tests c.args.moves.now c.args.place c.partition_point.result
    (IsPartitionPoint-from_clause (λ (m : Move). nat_lt (move_place m) c.args.place) _ _ c.partition_point.ensures.partitioned
    (IsPartitionedBy-ltb move_place _ c.args.place c.requires) (λ a r f called. search rules))
