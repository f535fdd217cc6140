use Rattle.std.proofs.Common.{map, length}
use Rattle.cert_text.specs.Printed.{relation_line, left_line, right_line, pair_line, end_line}
use Rattle.cert_text.proofs.PrintLaws.{relation_put}
use Rattle.cert_text.proofs.printer.put_relation.Goals as goal

pub returns : goal.returns
returns c = relation_put _ _ _ _ _ _ relation_line (end_line (length c.args.relation.now.pairs)) (map left_line c.args.relation.now.left) (map right_line c.args.relation.now.right) (map pair_line c.args.relation.now.pairs)
    c.in_ok-put_line.ensures (rw c.left.ensures at c.in_ok-put_lists.ensures) (rw c.right.ensures at c.in_ok-put_lists-2.ensures) (rw c.pairs-pairs.ensures at c.in_ok-put_pairs.ensures) (rw c.pairs-pairs.ensures at c.in_ok-put_end.ensures)
