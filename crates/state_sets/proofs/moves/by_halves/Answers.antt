use Rattle.std.proofs.Common.{nat_lt, rules}
use Rattle.std.proofs.lemmas.List.Sorted.{IsPartitionPoint-from_clause, IsPartitionedBy-ltb}
use Rattle.lts_base.specs.declared.action.Move.{Move}
use Rattle.lts_base.specs.System.{act_place}
use Rattle.state_sets.proofs.ActLaws.{point_from_tests}
use Rattle.state_sets.proofs.moves.by_halves.Goals as goal

pub returns-clause-point : goal.returns-clause-point
returns-clause-point c =
    point_from_tests c.args.moves.now (act_place c.args.act) c.partition_point.result
    (IsPartitionPoint-from_clause (λ (m : Move). nat_lt (act_place m.act) (act_place c.args.act)) _ _ c.partition_point.ensures.partitioned
    (IsPartitionedBy-ltb (λ (m : Move). act_place m.act) _ (act_place c.args.act) c.requires) (λ a r f called. search rules))
