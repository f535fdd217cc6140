use Rattle.std.proofs.Common.{◌≡◌, ◌∙◌, sym, subst, ℕ, List}
use Rattle.aut_text.specs.Grammar.{IsAut}
use Rattle.aut_text.specs.Printed.{line_text, printed}
use Rattle.aut_text.proofs.AgainLaws.{printed_is_aut}
use Rattle.aut_text.proofs.PrintLaws.{carried, nothing_left}
use Rattle.aut_text.proofs.SplitLaws.{read_splits}
use Rattle.aut_text.proofs.printer.print.Goals as goal

pub push_move-requires : goal.push_move-requires
push_move-requires c = rw (c.moves-entry-items.ensures.moves) (carried _ _ _ _ c.count.ensures.alphabet c.requires c.moves-entry-items.ensures.system (rw (c.moves-entry-items.ensures.moves) at c.loop-entry-test.true))

pub returns-clause-again : goal.returns-clause-again
returns-clause-again c writable fits r says =
    let text : c.from_vec.result ≡ printed c.args.labels.now c.args.lts.now = c.from_vec.ensures ∙ nothing_left (line_text c.args.labels.now.texts) _ _ c.args.lts.now.moves _ (rw (c.moves-entry-items.ensures.moves) at c.loop-entry-test.false) c.loop-entry.invariant in
    subst (λ (t : List ℕ). IsAut t r) (sym text) (printed_is_aut _ _ r c.count.ensures.alphabet c.requires c.moves-entry-items.ensures.system writable fits says)

pub returns-clause-splits : goal.returns-clause-splits
returns-clause-splits c fits uses rule sorted r read raw =
    let text : c.from_vec.result ≡ printed c.args.labels.now c.args.lts.now = c.from_vec.ensures ∙ nothing_left (line_text c.args.labels.now.texts) _ _ c.args.lts.now.moves _ (rw (c.moves-entry-items.ensures.moves) at c.loop-entry-test.false) c.loop-entry.invariant in
    read_splits rule _ _ r c.count.ensures.alphabet c.requires c.moves-entry-items.ensures.system fits uses sorted (subst (λ (t : List ℕ). IsAut t r) text read) raw
