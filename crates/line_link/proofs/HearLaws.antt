-- One read after another.
use Rattle.std.proofs.Common.{◌≡◌, ◌∙◌, ℕ, false, List, [], ◌∷◌, ◌++◌, None, refl, append_assoc}
use Rattle.edge_io.specs.declared.act.Heard.{Heard}
use Rattle.edge_io.specs.declared.content.Given.TheVariants.{Bytes}
use Rattle.line_link.specs.AtHand.{IsAhead, IsMore}
use Rattle.line_link.specs.Hearing.{Has, Hears, IsHeard, IsUnfinished, Pending}
use Rattle.line_link.proofs.GainLaws.{gains_none, gains_then}

-- before the first read
pub ahead_none : (s : Pending) → IsAhead s s
ahead_none s = record {
  answers = [];
  gains = gains_none s.answers;
  hears = λ more heard text rest ended h. h;
  written = refl;
}

-- bytes came
pub ahead_read : (first s t : Pending) (said : List ℕ) → IsAhead first s → IsUnfinished s.bytes → s.is_over ≡ false → IsMore s t said None → IsAhead first t
ahead_read first s t said ahead part going (more, some, bytes, over, gains, written) = record {
  answers = ahead.answers ++ Bytes more ∷ [];
  gains = gains_then first.answers s.answers t.answers ahead.answers (Bytes more ∷ []) ahead.gains gains;
  hears = λ others heard text rest ended h.
      let seen : Hears s.bytes s.is_over (Bytes more ∷ others) heard text rest ended = (part, going, rw (bytes, over) at h) in
      rw append_assoc (ahead.hears (Bytes more ∷ others) heard text rest ended seen);
  written = written ∙ ahead.written;
}

-- what is met from a later state on is met from the first one on
pub heard_ahead : (first s t : Pending) (heard : Heard) (text : List ℕ) → IsAhead first s → IsHeard s heard text t → IsHeard first heard text t
heard_ahead first s t heard text ahead (answers, gains, hears, written) =
    (ahead.answers ++ answers, gains_then first.answers s.answers t.answers ahead.answers answers ahead.gains gains, ahead.hears answers heard text t.bytes t.is_over hears, written ∙ ahead.written)

-- what the bytes at hand give, without a read
pub heard_now : (s t : Pending) (heard : Heard) (text : List ℕ) → Has s.bytes s.is_over heard text t.bytes → t.is_over ≡ s.is_over → t.answers ≡ s.answers → t.written ≡ s.written → IsHeard s heard text t
heard_now s t heard text has over answers written = ([], rw answers (gains_none s.answers), (has, over), written)
