use Rattle.std.proofs.Common.{◌≡◌, ◌<◌, ◌≤◌, [], length, get_or, sym}
use Rattle.cert_check.specs.Index.{Names, pair_at, left_of, right_of}
use Rattle.cert_check.proofs.IndexLaws.{AreKeys-none, AreKeys-more, AreRepeats-none, AreRepeats-more, AreKeys-all, AreRepeats-all, named_list}
use Rattle.cert_check.proofs.index.keys_of.Goals as goal

pub pairs-init : goal.pairs-init
pairs-init c = record {
  keys = rw c.new-keys.ensures (AreKeys-none c.args.relation.now _ _);
  repeats = rw c.new-repeated.ensures.items (AreRepeats-none c.args.relation.now);
}

pub known_key-key-requires-clause-left : goal.known_key-key-requires-clause-left
known_key-key-requires-clause-left c =
    let below : c.pairs.pair-index < length c.args.relation.now.pairs = rw c.pairs-pairs.ensures at c.pairs-test.true in
    let left : c.list_at-left.result.now ≡ get_or c.args.relation.now.left (get_or c.args.relation.now.pairs c.pairs.pair-index (0, 0)).0 [] = rw (c.left-lists.ensures, c.pairs-pairs.ensures) at c.list_at-left.ensures in
    rw left (named_list c.args.relation.now.left left_of c.args.relation.now.pairs _ c.pairs.pair-index below c.requires.left)

pub known_key-key-requires-clause-right : goal.known_key-key-requires-clause-right
known_key-key-requires-clause-right c =
    let below : c.pairs.pair-index < length c.args.relation.now.pairs = rw c.pairs-pairs.ensures at c.pairs-test.true in
    let right : c.list_at-right.result.now ≡ get_or c.args.relation.now.right (get_or c.args.relation.now.pairs c.pairs.pair-index (0, 0)).1 [] = rw (c.right-others.ensures, c.pairs-pairs.ensures) at c.list_at-right.ensures in
    rw right (named_list c.args.relation.now.right right_of c.args.relation.now.pairs _ c.pairs.pair-index below c.requires.right)

pub pairs-preserved : goal.pairs-preserved
pairs-preserved c =
    let left : c.list_at-left.result.now ≡ get_or c.args.relation.now.left (get_or c.args.relation.now.pairs c.pairs.pair-index (0, 0)).0 [] = rw (c.left-lists.ensures, c.pairs-pairs.ensures) at c.list_at-left.ensures in
    let right : c.list_at-right.result.now ≡ get_or c.args.relation.now.right (get_or c.args.relation.now.pairs c.pairs.pair-index (0, 0)).1 [] = rw (c.right-others.ensures, c.pairs-pairs.ensures) at c.list_at-right.ensures in
    let names : Names c.args.relation.now (pair_at c.args.relation.now c.pairs.pair-index) c.list_at-left.result.now c.list_at-right.result.now = record { first = sym left; second = sym right } in
    record {
      keys = AreKeys-more c.args.relation.now _ _ c.pairs.pair-index _ _ _ _ _ names c.known_key-key.ensures c.in_ok-fresh.ensures.enters c.pairs.invariant.keys;
      repeats = rw c.in_ok-push.ensures.items (AreRepeats-more c.args.relation.now _ _ c.pairs.pair-index _ _ _ _ _ _ names c.known_key-key.ensures c.in_ok-fresh.ensures.fresh c.pairs.invariant.keys c.pairs.invariant.repeats);
    }

pub returns-clause-keys : goal.returns-clause-keys
returns-clause-keys c =
    let over : length c.args.relation.now.pairs ≤ c.pairs.pair-index = rw c.pairs-pairs.ensures at c.pairs-test.false in
    AreKeys-all c.args.relation.now _ _ _ _ over (rw c.pairs-pairs.ensures at c.pairs.auto.pair-index-end) c.pairs.invariant.keys

pub returns-clause-repeats : goal.returns-clause-repeats
returns-clause-repeats c =
    let over : length c.args.relation.now.pairs ≤ c.pairs.pair-index = rw c.pairs-pairs.ensures at c.pairs-test.false in
    AreRepeats-all c.args.relation.now _ _ over (rw c.pairs-pairs.ensures at c.pairs.auto.pair-index-end) c.pairs.invariant.repeats
