use Rattle.std.proofs.Common.{subst, sym, ap, ◌∙◌, ◌++◌, List, ℕ, []}
use Rattle.trace_text.specs.Lines.{items_text}
use Rattle.trace_text.specs.Traces.{IsTrace}
use Rattle.trace_text.proofs.PrintLaws.{trace_printed}
use Rattle.trace_text.proofs.printer.print_trace.Goals as goal

pub returns-clause-again : goal.returns-clause-again
returns-clause-again c =
    subst (λ t. IsTrace c.args.labels.now t c.args.trace.now) (sym (c.from_vec.ensures ∙ c.in_ok-put_items.ensures ∙ ap {A = List ℕ} {B = List ℕ} (λ t. t ++ items_text [] c.args.labels.now.texts c.args.trace.now) c.new-text.ensures.items)) (trace_printed c.args.labels.now c.args.trace.now c.inputs.ensures.alphabet c.requires)
