use Rattle.std.proofs.Common.{ℕ, rules}
use Rattle.std.specs.Ordering.{nat_cmp, is_lt}
use Rattle.std.specs.Cmp.Lexicographic.{slice_cmp}
use Rattle.std.specs.Str.{bytes_eq}
use Rattle.std.proofs.lemmas.Cmp.{nat_list_cmp_total}
use Rattle.std.proofs.lemmas.Fn.{always_returns_same, dedup_same}
use Rattle.std.proofs.lemmas.List.Sorted.{ranks_by}
use Rattle.lts_base.specs.Alphabet.{text_at}
use Rattle.cert_check.proofs.OrderedLaws.{listed_rising, listed_all}
use Rattle.cert_check.proofs.ordered.sort_lists.Goals as goal

pub returns-clause-rising : goal.returns-clause-rising
returns-clause-rising c =
    let lists = c.args.lists.now in
    let kept = dedup_same _ (λ (x y : ℕ). bytes_eq (text_at lists x) (text_at lists y)) _ (λ x y b f' x' y' k. search rules) _ _ c.dedup_by.ensures.filtered in
    listed_rising lists _ _
    (c.sort_unstable_by.ensures.sorted (λ (x y : ℕ). is_lt (slice_cmp nat_cmp (text_at lists x) (text_at lists y))) (ranks_by nat_list_cmp_total (λ (k : ℕ). text_at lists k)) (always_returns_same _ _ _ (λ a r f called. search rules)))
    kept

pub returns-clause-all : goal.returns-clause-all
returns-clause-all c =
    let lists = c.args.lists.now in
    let kept = dedup_same _ (λ (x y : ℕ). bytes_eq (text_at lists x) (text_at lists y)) _ (λ x y b f' x' y' k. search rules) _ _ c.dedup_by.ensures.filtered in
    listed_all lists _ _ _ c.sort_unstable_by.ensures.permutation kept
