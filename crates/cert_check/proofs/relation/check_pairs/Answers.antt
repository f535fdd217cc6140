use Rattle.cert_check.proofs.relation.check_pairs.Goals.{then-not-is_repeat+in_ok-present+else-shows_more+in_ok-fault+in_default, else-not-is_repeat}
use Rattle.std.proofs.Common.{◌≡◌, ◌+◌, ◌-◌, false, arith, ◌<◌, ◌≤◌, [], length, get_or, sym, ap, ◌∙◌, refl}
use Rattle.cert_check.specs.Index.{Names}
use Rattle.cert_check.proofs.RelationLaws.{valid_repeat, listed, valid_none, valid_next, more_at, not_closed_at, valid_all}
use Rattle.cert_check.proofs.relation.check_pairs.Goals as goal

pub pairs-init : goal.pairs-init
pairs-init c = record {
  imp_marks = c.requires.imp_states;
  spec_marks = c.requires.spec_states;
  number = refl;
  valid = valid_none _ _ _ _ c.requires.opening;
}

pub present_in-requires : goal.present_in-requires
present_in-requires c =
    let below : c.pairs.pair-index < length c.args.relation.now.pairs = rw c.pairs-pairs.ensures at c.pairs-test.true in
    let left : c.list_at-left.result.now ≡ get_or c.args.relation.now.left (get_or c.args.relation.now.pairs c.pairs.pair-index (0, 0)).0 [] = rw (c.left-lefts.ensures, c.pairs-pairs.ensures) at c.list_at-left.ensures in
    rw c.lts.ensures (listed _ _ _ _ c.requires.relation.left (c.requires.relation.pairs c.pairs.pair-index (0, 0) below).0 left)

pub shows_more-requires-clause-left : goal.shows_more-requires-clause-left
shows_more-requires-clause-left c =
    let below : c.pairs.pair-index < length c.args.relation.now.pairs = rw c.pairs-pairs.ensures at c.pairs-test.true in
    let left : c.list_at-left.result.now ≡ get_or c.args.relation.now.left (get_or c.args.relation.now.pairs c.pairs.pair-index (0, 0)).0 [] = rw (c.left-lefts.ensures, c.pairs-pairs.ensures) at c.list_at-left.ensures in
    listed _ _ _ _ c.requires.relation.left (c.requires.relation.pairs c.pairs.pair-index (0, 0) below).0 left

pub shows_more-requires-clause-right : goal.shows_more-requires-clause-right
shows_more-requires-clause-right c =
    let below : c.pairs.pair-index < length c.args.relation.now.pairs = rw c.pairs-pairs.ensures at c.pairs-test.true in
    let right : c.list_at-right.result.now ≡ get_or c.args.relation.now.right (get_or c.args.relation.now.pairs c.pairs.pair-index (0, 0)).1 [] = rw (c.right-rights.ensures, c.pairs-pairs.ensures) at c.list_at-right.ensures in
    listed _ _ _ _ c.requires.relation.right (c.requires.relation.pairs c.pairs.pair-index (0, 0) below).1 right

pub first_open-requires-clause-left : goal.first_open-requires-clause-left
first_open-requires-clause-left c =
    let below : c.pairs.pair-index < length c.args.relation.now.pairs = rw c.pairs-pairs.ensures at c.pairs-test.true in
    let left : c.list_at-left.result.now ≡ get_or c.args.relation.now.left (get_or c.args.relation.now.pairs c.pairs.pair-index (0, 0)).0 [] = rw (c.left-lefts.ensures, c.pairs-pairs.ensures) at c.list_at-left.ensures in
    listed _ _ _ _ c.requires.relation.left (c.requires.relation.pairs c.pairs.pair-index (0, 0) below).0 left

pub first_open-requires-clause-right : goal.first_open-requires-clause-right
first_open-requires-clause-right c =
    let below : c.pairs.pair-index < length c.args.relation.now.pairs = rw c.pairs-pairs.ensures at c.pairs-test.true in
    let right : c.list_at-right.result.now ≡ get_or c.args.relation.now.right (get_or c.args.relation.now.pairs c.pairs.pair-index (0, 0)).1 [] = rw (c.right-rights.ensures, c.pairs-pairs.ensures) at c.list_at-right.ensures in
    listed _ _ _ _ c.requires.relation.right (c.requires.relation.pairs c.pairs.pair-index (0, 0) below).1 right

pub returns-then-shows_more : goal.returns-then-shows_more
returns-then-shows_more c =
    let below : c.pairs.pair-index < length c.args.relation.now.pairs = rw c.pairs-pairs.ensures at c.pairs-test.true in
    let left : c.list_at-left.result.now ≡ get_or c.args.relation.now.left (get_or c.args.relation.now.pairs c.pairs.pair-index (0, 0)).0 [] = rw (c.left-lefts.ensures, c.pairs-pairs.ensures) at c.list_at-left.ensures in
    let right : c.list_at-right.result.now ≡ get_or c.args.relation.now.right (get_or c.args.relation.now.pairs c.pairs.pair-index (0, 0)).1 [] = rw (c.right-rights.ensures, c.pairs-pairs.ensures) at c.list_at-right.ensures in
    let names : Names c.args.relation.now (get_or c.args.relation.now.pairs c.pairs.pair-index (0, 0)) c.list_at-left.result.now c.list_at-right.result.now = record { first = sym left; second = sym right } in
    (c.pairs.pair-index, ap (λ z. z + 1) c.pairs.invariant.number, more_at _ _ _ _ _ (0, 0) _ _ below names (rw c.if-shows_more.true at c.shows_more.ensures) c.pairs.invariant.valid)

pub returns-in-Some : goal.returns-in-Some
returns-in-Some c =
    let below : c.pairs.pair-index < length c.args.relation.now.pairs = rw c.pairs-pairs.ensures at c.pairs-test.true in
    let left : c.list_at-left.result.now ≡ get_or c.args.relation.now.left (get_or c.args.relation.now.pairs c.pairs.pair-index (0, 0)).0 [] = rw (c.left-lefts.ensures, c.pairs-pairs.ensures) at c.list_at-left.ensures in
    let right : c.list_at-right.result.now ≡ get_or c.args.relation.now.right (get_or c.args.relation.now.pairs c.pairs.pair-index (0, 0)).1 [] = rw (c.right-rights.ensures, c.pairs-pairs.ensures) at c.list_at-right.ensures in
    let names : Names c.args.relation.now (get_or c.args.relation.now.pairs c.pairs.pair-index (0, 0)) c.list_at-left.result.now c.list_at-right.result.now = record { first = sym left; second = sym right } in (
      c.pairs.pair-index,
      ap (λ z. z + 1) c.pairs.invariant.number,
      not_closed_at _ _ _ _ _ (0, 0) _ _ _ below names (rw c.if-shows_more.false at c.shows_more.ensures) (rw c.in-Some.is at c.in_ok-fault.ensures.open_at) c.pairs.invariant.valid,
    )

pub pairs-preserved : goal.pairs-preserved
pairs-preserved c =
    let below : c.pairs.pair-index < length c.args.relation.now.pairs = rw c.pairs-pairs.ensures at c.pairs-test.true in
    elim c.if-not-is_repeat.branch [
      | then-not-is_repeat+in_ok-present+else-shows_more+in_ok-fault+in_default w ↦
          let left : w.list_at-left.result.now ≡ get_or c.args.relation.now.left (get_or c.args.relation.now.pairs c.pairs.pair-index (0, 0)).0 [] = rw (c.left-lefts.ensures, c.pairs-pairs.ensures) at w.list_at-left.ensures in
          let right : w.list_at-right.result.now ≡ get_or c.args.relation.now.right (get_or c.args.relation.now.pairs c.pairs.pair-index (0, 0)).1 [] = rw (c.right-rights.ensures, c.pairs-pairs.ensures) at w.list_at-right.ensures in
          let names : Names c.args.relation.now (get_or c.args.relation.now.pairs c.pairs.pair-index (0, 0)) w.list_at-left.result.now w.list_at-right.result.now = record { first = sym left; second = sym right } in
          rw (w.imp_marks-is, w.spec_marks-is) (record {
            imp_marks = w.in_ok-fault.ensures.imp_states ∙ c.pairs.invariant.imp_marks;
            spec_marks = w.in_ok-fault.ensures.spec_states ∙ c.pairs.invariant.spec_marks;
            number = ap (λ z. z + 1) c.pairs.invariant.number;
            valid = valid_next _ _ _ _ _ (0, 0) _ _ below names (rw w.if-shows_more.false at w.shows_more.ensures) (rw w.in_default.is at w.in_ok-fault.ensures.open_at) c.pairs.invariant.valid;
          })
      | else-not-is_repeat w ↦
          let at : c.pairs.number + 1 - 1 ≡ c.pairs.pair-index = omega (arith, c.pairs.invariant.number) in
          let told : c.is_repeat.result ≡ get_or c.args.index.now.repeated.items c.pairs.pair-index false = rw at at c.is_repeat.ensures in
          rw (w.imp_marks-is, w.spec_marks-is) (record {
            imp_marks = c.pairs.invariant.imp_marks;
            spec_marks = c.pairs.invariant.spec_marks;
            number = ap (λ z. z + 1) c.pairs.invariant.number;
            valid = valid_repeat _ _ _ _ _ below (c.requires.repeats.each c.pairs.pair-index below (sym told ∙ w.if-not-is_repeat.false)) c.pairs.invariant.valid;
          })
    ]

pub returns : goal.returns
returns c =
    let over : length c.args.relation.now.pairs ≤ c.pairs.pair-index = rw c.pairs-pairs.ensures at c.pairs-test.false in
    valid_all _ _ _ _ _ over c.pairs.invariant.valid
