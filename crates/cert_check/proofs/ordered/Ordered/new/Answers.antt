use Rattle.cert_check.proofs.OrderedLaws.{listed_kept}
use Rattle.cert_check.proofs.ordered.Ordered.new.Goals as goal

pub returns-clause-all : goal.returns-clause-all
returns-clause-all c = listed_kept c.args.lists.now _ _ _ c.drop_repeats.ensures c.sort_lists.ensures.all
