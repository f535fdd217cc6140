use Rattle.std.proofs.Common.{subst, refl, inr}
use Rattle.aut_text.specs.Form.{IsMove}
use Rattle.aut_text.specs.Faults.{IsNoMove}
use Rattle.aut_text.proofs.FormLaws.{IsUtf8-label}
use Rattle.aut_text.proofs.ReadLaws.{clean_line}
use Rattle.aut_text.proofs.line.read_move.Goals as goal

pub returns-in_default : goal.returns-in_default
returns-in_default c =
    let clean = clean_line _ _ _ _ _ c.if-line-gt-MOST_LINE_BYTES.false c.without_cr-text.ensures c.if-is_err.ensures.value c.from_utf8.ensures.cases in
    (refl, inr (clean, subst IsNoMove c.without_cr-text.ensures c.in_default.ensures))

pub returns : goal.returns
returns c =
    let clean = clean_line _ _ _ _ _ c.if-line-gt-MOST_LINE_BYTES.false c.without_cr-text.ensures c.if-is_err.ensures.value c.from_utf8.ensures.cases in
    let move = subst (λ t. IsMove t (record { from = c.in-Some.from; label = c.in-Some.label.now; to = c.in-Some.to })) c.without_cr-text.ensures c.in-Some.ensures in
    record {
      line_is = record { clean = clean; form = move; from = c.if-from-states.false; to = c.if-to-states.false; label = c.if-label-gt-MOST_LABEL_BYTES.false };
      label = record { some = move.has.0; short = c.if-label-gt-MOST_LABEL_BYTES.false; plain = move.has.1; utf8 = IsUtf8-label _ _ clean.utf8 move };
      room = c.if-count.false;
    }
