use Rattle.std.proofs.Common.{◌∙◌, arith}
use Rattle.std.proofs.lemmas.Bool.{iff_false}
use Rattle.state_sets.proofs.ActLaws.{by_act, none_before, none_after}
use Rattle.state_sets.proofs.Reaching.{IsSpreading-from, IsSpreading-rest, IsSpreading-add, IsSpreading-all, HasMove-at}
use Rattle.state_sets.proofs.step.spread.Goals as goal

pub first_from-from-requires : goal.first_from-from-requires
first_from-from-requires c = by_act c.args.lts.now _ _ c.moves_of-moves.ensures.value c.moves_of-moves.ensures.system.sorted

pub moves-init : goal.moves-init
moves-init c = record {
  states = c.requires.states;
  spreading = IsSpreading-from _ _ _ _ _
      (λ k d low. none_before _ _ _ c.first_from-from.ensures.point k d low (omega (arith, low, c.first_from-from.ensures.within)));
}

pub returns-then-not-is_same-clause-adds : goal.returns-then-not-is_same-clause-adds
returns-then-not-is_same-clause-adds c =
    rw c.note.ensures
    (IsSpreading-all c.args.lts.now _ _ _ _ _ _ c.moves_of-moves.ensures.these (omega arith)
    (IsSpreading-rest _ _ _ _ _ _
    (none_after _ _ _ _ _ (by_act c.args.lts.now _ _ c.moves_of-moves.ensures.value c.moves_of-moves.ensures.system.sorted)
    c.first_from-from.ensures.point c.moves.auto.place c.moves-test.true (iff_false c.is_same.ensures c.if-not-is_same.true)) c.moves.invariant.spreading))

pub moves-preserved : goal.moves-preserved
moves-preserved c = record {
  states = c.in_ok-add.ensures.states ∙ c.moves.invariant.states;
  spreading = IsSpreading-add _ _ _ _ _ _ _ _ c.moves-test.true
      (HasMove-at c.args.lts.now _ _ _ _ _ c.moves_of-moves.ensures.these c.moves-test.true (c.is_same.ensures.0 c.if-not-is_same.false)) c.in_ok-add.ensures.added c.moves.invariant.spreading;
}

pub returns-clause-adds : goal.returns-clause-adds
returns-clause-adds c = IsSpreading-all c.args.lts.now _ _ _ _ _ _ c.moves_of-moves.ensures.these c.moves-test.false c.moves.invariant.spreading
