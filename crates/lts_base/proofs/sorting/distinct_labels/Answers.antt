use Rattle.std.proofs.Common.{◌++◌, ◌∙◌, ◌<◌, length, List, ℕ, All, subst, ap, arith}
use Rattle.std.proofs.lemmas.Result.{err_from_is_err_and}
use Rattle.std.proofs.lemmas.List.{length-map}
use Rattle.std.proofs.lemmas.List.Elements.{All-append}
use Rattle.lts_base.specs.declared.limits.TheConstants.{MOST_LABELS}
use Rattle.std.specs.Borrow.{Bor}
use Rattle.lts_base.specs.Numbered.{shown}
use Rattle.lts_base.specs.Alphabet.{IsLabel}
use Rattle.lts_base.specs.Sorting.{IsGoodLabel, all_labels}
use Rattle.lts_base.specs.Raw.{RawSystem}
use Rattle.lts_base.proofs.SortingLaws.{labels_fault, labels_more, too_many, distinct_at_end, take_all}
use Rattle.lts_base.proofs.sorting.distinct_labels.Goals as goal

pub returns-in_err-gather-clause-err : goal.returns-in_err-gather-clause-err
returns-in_err-gather-clause-err c =
    let p = err_from_is_err_and c.from_residual.result c.from_residual.ensures.1 in
    rw (p.1, p.2) (labels_fault c.args.rule.now c.args.raw.now c.systems.system-index c.system-item.result c.as_slice.result.now _ c.systems.invariant.good c.systems-test.true c.system-item.is
    (c.as_slice.ensures ∙ c.labels.ensures.labels) c.in_err-gather.ensures.err)

pub systems-preserved : goal.systems-preserved
systems-preserved c =
    let texts = c.as_slice.ensures ∙ c.labels.ensures.labels in
    let more = labels_more c.args.raw.now c.systems.system-index c.system-item.result c.as_slice.result.now c.systems-test.true c.system-item.is texts in
    rw more (record {
      texts = c.in_ok-gather.ensures.seen ∙ ap (λ ts. ts ++ c.as_slice.result.now) c.systems.invariant.texts;
      good = All-append (IsGoodLabel c.args.rule.now) _ _ c.systems.invariant.good c.in_ok-gather.ensures.good;
      labels = All-append IsLabel _ _ c.systems.invariant.labels (rw texts c.labels.ensures.raw.labels.texts);
    })

pub returns-then-len-gt-MOST_LABELS-clause-err : goal.returns-then-len-gt-MOST_LABELS-clause-err
returns-then-len-gt-MOST_LABELS-clause-err c =
    let end = distinct_at_end c.args.rule.now c.args.raw.now _ _ _ c.systems-test.false c.systems.invariant.texts c.systems.invariant.good c.sort_once.ensures.each c.sort_once.ensures.all in
    let count = length-map c.sort_once.new.texts.items (λ (t : Bor (List ℕ)). t.now) in
    let long : MOST_LABELS < length (shown c.sort_once.new.texts.items) = omega (arith, count, c.sort_once.new.texts.ok.0, c.len.ensures, c.if-len-gt-MOST_LABELS.true) in
    (end.0, (shown c.sort_once.new.texts.items, too_many _ _ _ c.sort_once.ensures.rising end.1 long))

pub returns-clause-ok : goal.returns-clause-ok
returns-clause-ok c =
    let end = distinct_at_end c.args.rule.now c.args.raw.now _ _ _ c.systems-test.false c.systems.invariant.texts c.systems.invariant.good c.sort_once.ensures.each c.sort_once.ensures.all in
    record {
      good = end.0;
      labels = subst (λ (rs : List RawSystem). All IsLabel (all_labels rs)) (take_all c.args.raw.now _ c.systems-test.false) c.systems.invariant.labels;
      rising = c.sort_once.ensures.rising;
      each = end.1;
      all = end.2;
      few = omega (arith, length-map c.sort_once.new.texts.items (λ (t : Bor (List ℕ)). t.now), c.sort_once.new.texts.ok.0, c.len.ensures, c.if-len-gt-MOST_LABELS.false);
    }
