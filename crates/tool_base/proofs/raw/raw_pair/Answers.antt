use Rattle.std.proofs.Common.{refl}
use Rattle.tool_base.proofs.StoppedLaws.{passed_on}
use Rattle.tool_base.proofs.ReadLaws.{first_unread, second_unread, pair_read}
use Rattle.tool_base.proofs.raw.raw_pair.Goals as goal

pub returns-in_err-raw-clause-read : goal.returns-in_err-raw-clause-read
returns-in_err-raw-clause-read g c = passed_on _ _ _ _ c.from_residual.ensures.1 (first_unread _ _ c.args.first.now c.args.second.now _ c.in_err-raw.ensures.loaded)

pub returns-in_err-other-clause-read : goal.returns-in_err-other-clause-read
returns-in_err-other-clause-read g c =
    passed_on _ _ _ _ c.from_residual-in_err-other.ensures.1 (second_unread _ _ _ c.args.first.now c.args.second.now _ _ c.in_ok-raw.ensures.keeps c.in_ok-raw.ensures.loaded.0 c.in_err-other.ensures.loaded)

pub returns-clause-read : goal.returns-clause-read
returns-clause-read g c = (
  pair_read _ _ c.args.first.now c.args.second.now c.in_ok-raw.raw c.in_ok-other.other _ c.in_ok-raw.ensures.keeps (rw (c.in_ok-push-2.ensures.ok, c.in_ok-push.ensures.ok, c.new-raws.ensures) refl) c.in_ok-raw.ensures.loaded.0
      c.in_ok-other.ensures.loaded,
  c.in_ok-raw.ensures.loaded.1,
)
