use Rattle.std.proofs.Common.{ℕ, ◌/◌, nat_lt, rules}
use Rattle.std.proofs.lemmas.List.Sorted.{IsPartitionPoint-from_clause, IsPartitionedBy-ltb}
use Rattle.walk_core.proofs.PackedLaws.{point_above, point_from_heads, not_falling}
use Rattle.walk_core.proofs.edges.place_of.Goals as goal

pub returns-then-is_above-clause-point : goal.returns-then-is_above-clause-point
returns-then-is_above-clause-point c = point_above c.args.run.now c.args.head (c.is_above.ensures c.if-is_above.true)

pub returns-clause-point : goal.returns-clause-point
returns-clause-point c =
    point_from_heads c.args.run.now c.args.head c.partition_point.result
    (IsPartitionPoint-from_clause (λ (e : ℕ). nat_lt (e / 16777216) c.args.head) _ _ c.partition_point.ensures.partitioned
    (IsPartitionedBy-ltb (λ (e : ℕ). e / 16777216) _ c.args.head (not_falling c.args.run.now c.requires)) (λ a r f called. search rules))
