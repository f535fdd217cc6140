-- Walks that grow, and the counts of their steps.
use Rattle.std.proofs.Common.{ℕ, ◌+◌, ◌≤◌, List, [], ◌++◌, refl, sym, ap, ◌∙◌, arith}
use Rattle.std.proofs.lemmas.List.{append-nil, append_assoc}
use Rattle.walk_core.specs.Walked.{Walked, Grows}
use Rattle.walk_core.specs.Taken.{Took}
use Rattle.conf_decide.specs.Progress.{TookBoth}

-- ---- walks that grow

pub Grows-same : (w : Walked) → Grows w w
Grows-same w = record { system = refl; limit = refl; sets = ([], sym (append-nil w.sets)) }

pub Grows-trans : (u v w : Walked) → Grows u v → Grows v w → Grows u w
Grows-trans u v w first then =
    let (more, e) = first.sets in
    let (last, e') = then.sets in
    record {
      system = then.system ∙ first.system;
      limit = then.limit ∙ first.limit;
      sets = (more ++ last, e' ∙ ap (λ (z : List (List ℕ)). z ++ last) e ∙ append_assoc u.sets more last);
    }

-- ---- the steps by the walks' own counts

pub took_none : (a b most : ℕ) → TookBoth a a b b most
took_none a b most = (0, 0, (0, refl), (0, refl), omega arith)

-- the implementation's walk alone took a step
pub took_left : (a a' b : ℕ) → Took a a' 1 → TookBoth a a' b b 2
took_left a a' b imp = (1, 0, imp, (0, refl), omega arith)

pub took_two : (a a' b b' : ℕ) → Took a a' 1 → Took b b' 1 → TookBoth a a' b b' 2
took_two a a' b b' imp spec = (1, 1, imp, spec, omega arith)

pub Took-trans : (a b c m n : ℕ) → Took a b m → Took b c n → Took a c (m + n)
Took-trans a b c m n (j, first) (k, then) = (j + k, omega (arith, first, then))

-- one count after the other
pub took_more : (a a' a'' b b' b'' p q most : ℕ) → TookBoth a a' b b' p → TookBoth a' a'' b' b'' q → p + q ≤ most → TookBoth a a'' b b'' most
took_more a a' a'' b b' b'' p q most (m, n, imp, spec, low) (m', n', imp', spec', low') bound =
    (m + m', n + n', Took-trans a a' a'' m m' imp imp', Took-trans b b' b'' n n' spec spec', omega (arith, low, low', bound))
