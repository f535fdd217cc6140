use Rattle.std.proofs.lemmas.Bool.{iff_false}
use Rattle.lts_base.proofs.SetLaws.{ShowsAfter-from_shows}
use Rattle.cert_check.proofs.TraceLaws.{unshown}
use Rattle.cert_check.proofs.trace.test_trace.Goals as goal

pub returns-then-not-shows : goal.returns-then-not-shows
returns-then-not-shows c = (
  rw c.in_default.is at c.in_ok-place.ensures,
  unshown _ _ _ _ c.in_ok-left.ensures.set (rw c.deref.ensures.value at (iff_false c.shows.ensures c.if-not-shows.true)),
)

pub returns-then-shows : goal.returns-then-shows
returns-then-shows c = (
  rw c.in_default.is at c.in_ok-place.ensures,
  ShowsAfter-from_shows _ _ _ _ c.in_ok-left.ensures.set (rw c.deref.ensures.value at (c.shows.ensures.0 c.if-not-shows.false)),
  ShowsAfter-from_shows _ _ _ _ c.in_ok-right.ensures.set (rw c.deref-2.ensures.value at (c.shows-2.ensures.0 c.if-shows.true)),
)

pub returns : goal.returns
returns c = record {
  allowed = rw c.in_default.is at c.in_ok-place.ensures;
  shown = ShowsAfter-from_shows _ _ _ _ c.in_ok-left.ensures.set (rw c.deref.ensures.value at (c.shows.ensures.0 c.if-not-shows.false));
  unshown = unshown _ _ _ _ c.in_ok-right.ensures.set (rw c.deref-2.ensures.value at (iff_false c.shows-2.ensures c.if-shows.false));
}
