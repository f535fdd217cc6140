use Rattle.std.proofs.Common.{◌<◌, length}
use Rattle.std.proofs.lemmas.Result.{err_from_is_err_and}
use Rattle.lts_shape.specs.Marks.{AreMarks}
use Rattle.lts_shape.proofs.AngelicLaws.{AreLoopsUpTo-skip, AreLoopsUpTo-add, AreLoopsUpTo-input, refused_when_full, lacks_from_marks, can_from_marks, read_mark}
use Rattle.lts_shape.proofs.completion.add_loops.Goals.{then-not-index+in_ok-add_loop, else-not-index}
use Rattle.lts_shape.proofs.completion.add_loops.Goals as goal

pub states-preserved : goal.states-preserved
states-preserved c =
    let below : c.states.state < c.args.lts.now.states = rw c.states-states.ensures.states at c.states-test.true in
    let marks : AreMarks c.takers.new.search.found (length c.takers.new.search.found) c.args.lts.now.states c.in_ok-able.able.items = rw c.states-states.ensures.states at c.in_ok-able.ensures in
    elim c.if-not-index.branch [
      | then-not-index+in_ok-add_loop w ↦
          let unmarked = read_mark _ _ _ _ _ _ marks below c.index.ensures w.if-not-index.true in
          let lacks = lacks_from_marks c.args.lts.now c.args.input _ _ _ _ c.in_ok-takers.ensures.takers marks unmarked in
          rw w.moves-is (AreLoopsUpTo-add _ _ _ _ _ below c.requires.input lacks w.in_ok-add_loop.ensures.moves w.in_ok-add_loop.ensures.within c.states.invariant)
      | else-not-index w ↦
          let marked = read_mark _ _ _ _ _ _ marks below c.index.ensures w.if-not-index.false in
          rw w.moves-is (AreLoopsUpTo-skip _ _ _ _ (can_from_marks c.args.lts.now c.args.input _ _ _ _ c.in_ok-takers.ensures.takers marks marked) c.states.invariant)
    ]

pub returns-in_err-add_loop-clause-err : goal.returns-in_err-add_loop-clause-err
returns-in_err-add_loop-clause-err c =
    let below : c.states.state < c.args.lts.now.states = rw c.states-states.ensures.states at c.states-test.true in
    let marks : AreMarks c.takers.new.search.found (length c.takers.new.search.found) c.args.lts.now.states c.in_ok-able.able.items = rw c.states-states.ensures.states at c.in_ok-able.ensures in
    let unmarked = read_mark _ _ _ _ _ _ marks below c.index.ensures c.if-not-index.true in
    let lacks = lacks_from_marks c.args.lts.now c.args.input _ _ _ _ c.in_ok-takers.ensures.takers marks unmarked in
    let p = err_from_is_err_and c.from_residual-in_err-add_loop.result c.from_residual-in_err-add_loop.ensures.1 in
    rw (p.1, p.2) (refused_when_full _ _ _ _ _ below c.requires.input lacks c.states.invariant c.in_err-add_loop.ensures.err)

pub returns-clause-loops : goal.returns-clause-loops
returns-clause-loops c = AreLoopsUpTo-input _ _ _ _ (rw c.states-states.ensures.states at c.states-test.false) c.states.invariant
