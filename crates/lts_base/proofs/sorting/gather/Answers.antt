use Rattle.std.proofs.Common.{◌≡◌, ◌∙◌, ◌⊎◌, List, ℕ, [], ◌∷◌, ◌+◌, ◌++◌, take, ap, sym, subst}
use Rattle.std.proofs.lemmas.Result.{err_from_is_err_and}
use Rattle.std.proofs.lemmas.List.{get_or_read, take_more, map-append, append_assoc}
use Rattle.std.proofs.lemmas.List.Elements.{All-push}
use Rattle.std.specs.Borrow.{Bor}
use Rattle.lts_base.specs.Numbered.{shown}
use Rattle.lts_base.specs.declared.sorting.SplitError.TheVariants.{Memory}
use Rattle.lts_base.specs.Sorting.{IsGoodLabel, IsLabelFault}
use Rattle.lts_base.proofs.SortingLaws.{fault_at}
use Rattle.lts_base.proofs.sorting.gather.Goals as goal

pub returns-in_err-test_label-clause-err : goal.returns-in_err-test_label-clause-err
returns-in_err-test_label-clause-err c =
    let p = err_from_is_err_and c.from_residual.result c.from_residual.ensures.1 in
    let fault = subst (λ (t : List ℕ). (c.in_err-test_label.field-0.0 ≡ Memory) ⊎ IsLabelFault c.args.rule.now t c.in_err-test_label.field-0.0) c.as_slice-bytes.ensures c.in_err-test_label.ensures in
    rw (p.1, p.2) (fault_at c.args.rule.now [] c.args.texts.now c.texts.text-index c.text-item.result _ c.texts.invariant.good c.texts-test.true (sym (get_or_read c.args.texts.now c.texts.text-index c.text-item.result c.texts-test.true c.text-item.is [])) fault)

pub texts-preserved : goal.texts-preserved
texts-preserved c =
    let bytes : c.as_slice-bytes.result.now ≡ c.text-item.result = c.as_slice-bytes.ensures in
    let more : take (c.texts.text-index + 1) c.args.texts.now ≡ take c.texts.text-index c.args.texts.now ++ c.as_slice-bytes.result.now ∷ [] =
    take_more c.args.texts.now c.texts.text-index c.text-item.result c.texts-test.true ∙ ap (λ (t : List ℕ). take c.texts.text-index c.args.texts.now ++ t ∷ []) (sym c.text-item.is ∙ sym bytes) in
    rw more (record {
      seen = ap shown c.in_ok-push.ensures.items ∙ map-append (λ (t : Bor (List ℕ)). t.now) c.texts.seen.items _ ∙ ap (λ (ts : List (List ℕ)). ts ++ c.as_slice-bytes.result.now ∷ []) c.texts.invariant.seen ∙ append_assoc (shown c.args.seen.now.items) (take c.texts.text-index c.args.texts.now) (c.as_slice-bytes.result.now ∷ []);
      good = All-push (IsGoodLabel c.args.rule.now) _ _ c.texts.invariant.good c.in_ok-test_label.ensures;
    })
