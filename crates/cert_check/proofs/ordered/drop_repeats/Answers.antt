use Rattle.std.proofs.Common.{List, ℕ, Contains, sym, subst}
use Rattle.std.proofs.lemmas.List.Filters.{dedup_is}
use Rattle.std.proofs.lemmas.List.Kept.{Contains-dedup_nat}
use Rattle.cert_check.proofs.OrderedLaws.{once_all}
use Rattle.cert_check.proofs.ordered.drop_repeats.Goals as goal

pub returns : goal.returns
returns c = once_all _ _ _ c.sort_unstable.ensures.permutation
    (λ x has. subst (λ (xs : List ℕ). Contains xs x) (sym (dedup_is _ _ _ c.dedup.ensures.filtered)) (Contains-dedup_nat _ x has))
