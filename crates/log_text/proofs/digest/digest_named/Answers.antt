use Rattle.std.proofs.Common.{sym, ◌∙◌}
use Rattle.std.proofs.lemmas.Bool.{iff_false}
use Rattle.log_text.proofs.LineLaws.{sized_again, digits_same}
use Rattle.log_text.proofs.digest.digest_named.Goals as goal

pub returns-in_default : goal.returns-in_default
returns-in_default c d is e = c.in_default.not-Ok d.0 (c.from_hex.ensures ∙ rw e (sized_again d is))

pub returns-then-not-is_text : goal.returns-then-not-is_text
returns-then-not-is_text c d is e =
    iff_false c.is_text.ensures c.if-not-is_text.true (digits_same c.args.text.now _ c.in-Ok.bytes _ d is e (sym c.in-Ok.is ∙ c.from_hex.ensures) c.digest_from-digest.ensures.value (c.as_bytes.ensures.value ∙ c.in_ok-digits.ensures))
