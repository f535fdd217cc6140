use Rattle.cert_check.proofs.index.index_of.Goals as goal

pub keys_of-requires-clause-left : goal.keys_of-requires-clause-left
keys_of-requires-clause-left c = rw (c.left.ensures, c.in_ok-named_lefts.ensures, c.pairs-pairs.ensures) at c.in_ok-lefts.ensures.all

pub keys_of-requires-clause-right : goal.keys_of-requires-clause-right
keys_of-requires-clause-right c = rw (c.right.ensures, c.in_ok-named_rights.ensures, c.pairs-pairs.ensures) at c.in_ok-rights.ensures.all

pub returns-clause-index : goal.returns-clause-index
returns-clause-index c = record {
  left = c.in_ok-lefts.ensures.sorted;
  right = c.in_ok-rights.ensures.sorted;
  all_left = rw (c.left.ensures, c.in_ok-named_lefts.ensures, c.pairs-pairs.ensures) at c.in_ok-lefts.ensures.all;
  all_right = rw (c.right.ensures, c.in_ok-named_rights.ensures, c.pairs-pairs.ensures) at c.in_ok-rights.ensures.all;
  pairs = c.in_ok-keys.ensures.keys;
}
