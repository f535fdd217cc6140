-- How far a file has been read.
use Rattle.std.proofs.Common.{◌≡◌, ℕ, ◌≤◌, false, List, length, Result, Ok, Err, MatchResult, is_err, ◌⊎◌, inl, inr, refl, sym}
use Rattle.std.proofs.lemmas.List.{length-map}
use Rattle.std.proofs.lemmas.Bool.{false≢true}
use Rattle.std.specs.Str.{IsUtf8}
use Rattle.text_scan.specs.Lines.{without_cr}
use Rattle.aut_text.specs.declared.error.AutError.{AutError}
use Rattle.lts_base.specs.Raw.{RawSystem}
use Rattle.aut_text.specs.declared.header.Header.{Header}
use Rattle.aut_text.specs.declared.error.AutError.TheVariants.{Count, Memory}
use Rattle.aut_text.specs.Parts.{Parts, named, named_moves}
use Rattle.aut_text.specs.Grammar.{IsClean, AreMoves, IsBegun, IsAut}
use Rattle.aut_text.specs.Faults.{RefusesAut}
use Rattle.lts_base.specs.declared.limits.TheConstants.{MOST_LINE_BYTES, MOST_MOVES}

-- a line that was tested
pub clean_line : (line text : List ℕ) {A E : Type 0} (P : A → Type 0) (Q : E → Type 0) (r : Result A E) → length line ≤ MOST_LINE_BYTES → text ≡ without_cr line → false ≡ is_err r → MatchResult r (λ a. P a × IsUtf8 text) Q → IsClean line
clean_line line text P Q (Ok a) short is ok utf8 = record { short = short; utf8 = rw is at (utf8.1) }
clean_line line text P Q (Err e) short is ok utf8 = absurd (false≢true ok)

-- the moves with the texts of their labels are as many as the moves
pub named_count : (p : Parts) → length (named_moves p) ≡ length p.moves
named_count p = length-map p.moves (named p.labels)

-- what the end of a reading says of the content
pub ended : (content : List ℕ) (h : Header) (n : ℕ) (others : List (List ℕ)) (p : Parts) (r : Result RawSystem AutError) → IsBegun content h n others → AreMoves h.states others (named_moves p) → length p.moves ≤ MOST_MOVES →
    MatchResult r (λ raw. (raw ≡ record { states = h.states; start = h.start; labels = p.labels; moves = p.moves }) × (length p.moves ≡ h.transitions)) (λ e. (e ≡ Memory) ⊎ ((e ≡ Count h.transitions (length p.moves)) × (h.transitions ≡ length p.moves → ⊥))) →
    MatchResult r (IsAut content) (RefusesAut content)
ended content h n others p (Ok raw) begun moves few (is, count) = rw is (record { h = h; n = n; others = others; begun = begun; start = refl; states = refl; moves = moves; count = count })
ended content h n others p (Err e) begun moves few (inl memory) = rw memory tt
ended content h n others p (Err e) begun moves few (inr (is, differ)) = rw is (record {
  h = h;
  n = n;
  others = others;
  moves = named_moves p;
  begun = begun;
  moves_are = moves;
  declared_is = refl;
  found_is = sym (named_count p);
  few = rw (named_count p) few;
  differ = differ;
})
