use Rattle.std.proofs.Common.{◌≡◌, ◌<◌, ◌≤◌, length, rules}
use Rattle.lts_base.specs.Numbered.{renumbered}
use Rattle.lts_base.specs.Raw.{raw_move_at}
use Rattle.lts_base.proofs.SortedMovesLaws.{one_more, ended}
use Rattle.lts_base.proofs.sorting.moves_over.Goals as goal

pub places-preserved : goal.places-preserved
places-preserved c =
    let inside : c.places.place < length c.args.raw.now = search rules in
    let is : c.renumber.result ≡ renumbered c.args.numbers.now (raw_move_at c.args.raw.now c.places.place) = search rules in
    one_more (renumbered c.args.numbers.now) c.args.raw.now _ c.places.place _ _ _ inside is c.places.invariant c.in_ok-add.ensures

pub returns : goal.returns
returns c =
    let all : length c.args.raw.now ≤ c.places.place = search rules in
    ended (renumbered c.args.numbers.now) c.args.raw.now c.places.place _ c.into_moves.result all c.places.invariant c.into_moves.ensures
