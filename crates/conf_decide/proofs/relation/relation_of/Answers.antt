use Rattle.conf_decide.proofs.relation.relation_of.Goals as goal

pub lists_of-requires-clause-count : goal.lists_of-requires-clause-count
lists_of-requires-clause-count g c = c.requires.left _ c.counts-lefts.ensures.left

pub lists_of-requires-2-clause-count : goal.lists_of-requires-2-clause-count
lists_of-requires-2-clause-count g c = c.requires.right _ c.counts-lefts.ensures.right
