use Rattle.std.proofs.Common.{◌∙◌, ap, List, ℕ, rules}
use Rattle.std.specs.Borrow.{Bor}
use Rattle.std.specs.Ordering.{nat_cmp, is_lt}
use Rattle.std.specs.Cmp.Lexicographic.{slice_cmp}
use Rattle.std.specs.Str.{bytes_eq}
use Rattle.std.proofs.lemmas.Cmp.{nat_list_cmp_total}
use Rattle.std.proofs.lemmas.Fn.{dedup_same}
use Rattle.std.proofs.lemmas.List.Sorted.{answers_always, ranks_by, IsPermutation-map}
use Rattle.lts_base.specs.Numbered.{shown}
use Rattle.lts_base.proofs.SortingLaws.{sorted_once-rising, sorted_once-each, sorted_once-all}
use Rattle.lts_base.proofs.ShownLaws.{sorted-map, dedup-map}
use Rattle.lts_base.proofs.sorting.sort_once.Goals as goal

pub returns-clause-rising : goal.returns-clause-rising
returns-clause-rising c =
    let kept = dedup_same _ (λ (x y : Bor (List ℕ)). bytes_eq x.now y.now) _ (λ x y b f' x' y' k. search rules) _ _ c.dedup_by.ensures.filtered in
    sorted_once-rising (shown c.sort_unstable_by.new.self.items) (shown c.dedup_by.new.self.items)
    (sorted-map (λ (t : Bor (List ℕ)). t.now) (λ x y. is_lt (slice_cmp nat_cmp x y)) c.sort_unstable_by.new.self.items
    (c.sort_unstable_by.ensures.sorted (λ (x y : Bor (List ℕ)). is_lt (slice_cmp nat_cmp x.now y.now)) (ranks_by nat_list_cmp_total (λ (t : Bor (List ℕ)). t.now)) (answers_always _ _ _ (λ f a r g h. search rules))))
    (ap shown kept ∙ dedup-map (λ (t : Bor (List ℕ)). t.now) bytes_eq c.sort_unstable_by.new.self.items)

pub returns-clause-each : goal.returns-clause-each
returns-clause-each c =
    let kept = dedup_same _ (λ (x y : Bor (List ℕ)). bytes_eq x.now y.now) _ (λ x y b f' x' y' k. search rules) _ _ c.dedup_by.ensures.filtered in
    sorted_once-each (shown c.args.texts.now.items) (shown c.sort_unstable_by.new.self.items) (shown c.dedup_by.new.self.items)
    (IsPermutation-map (λ (t : Bor (List ℕ)). t.now) c.args.texts.now.items c.sort_unstable_by.new.self.items c.sort_unstable_by.ensures.permutation)
    (ap shown kept ∙ dedup-map (λ (t : Bor (List ℕ)). t.now) bytes_eq c.sort_unstable_by.new.self.items)

pub returns-clause-all : goal.returns-clause-all
returns-clause-all c =
    let kept = dedup_same _ (λ (x y : Bor (List ℕ)). bytes_eq x.now y.now) _ (λ x y b f' x' y' k. search rules) _ _ c.dedup_by.ensures.filtered in
    sorted_once-all (shown c.args.texts.now.items) (shown c.sort_unstable_by.new.self.items) (shown c.dedup_by.new.self.items)
    (IsPermutation-map (λ (t : Bor (List ℕ)). t.now) c.args.texts.now.items c.sort_unstable_by.new.self.items c.sort_unstable_by.ensures.permutation)
    (ap shown kept ∙ dedup-map (λ (t : Bor (List ℕ)). t.now) bytes_eq c.sort_unstable_by.new.self.items)
