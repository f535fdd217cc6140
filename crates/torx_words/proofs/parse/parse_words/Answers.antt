use Rattle.std.proofs.Common.{◌∙◌}
use Rattle.torx_words.proofs.ReadLemmas.{all_utf8, matches_give, refusal_tells}
use Rattle.torx_words.proofs.ReadingLaws.{reading_is, unread_for}
use Rattle.torx_words.proofs.parse.parse_words.Goals as goal

pub invariant_of-result : goal.invariant_of-result
invariant_of-result c = matches_give _ _ _ _ c.in_ok-command.ensures c.requires (all_utf8 c.args.words.now) c.in-Ok.ensures.matches c.in-Ok.ensures.kinds

pub returns-in-Ok-clause-read : goal.returns-in-Ok-clause-read
returns-in-Ok-clause-read c = reading_is _ _ _ _ (matches_give _ _ _ _ c.in_ok-command.ensures c.requires (all_utf8 c.args.words.now) c.in-Ok.ensures.matches c.in-Ok.ensures.kinds)

pub returns-in-Err-clause-read : goal.returns-in-Err-clause-read
returns-in-Err-clause-read c = unread_for _ _ _ c.refused.result
    (λ other. refusal_tells _ _ _ c.in-Err.error c.in_ok-command.ensures c.requires (all_utf8 c.args.words.now) c.in-Err.ensures.kinds (λ e. other (c.kind.ensures ∙ e)))
    c.refused.ensures
