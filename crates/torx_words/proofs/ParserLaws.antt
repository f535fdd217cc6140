-- The parser reads the words as the definition of their form does.
use Rattle.std.proofs.Common.{◌≡◌, ℕ, ◌∙◌, true, List, [], None, subst, sym}
use Rattle.std.specs.Prelude.{MatchOption, All}
use Rattle.std.specs.Str.{IsUtf8}
use Rattle.clap.specs.Words.{fault_of, is_simple_and_free, matches_of}
use Rattle.torx_words.specs.Form.{Known, is_table, read, read_once}
use Rattle.torx_words.specs.Parsed.{app_for, SayRows}
use Rattle.torx_words.proofs.ParserRules.{are_rules, free, no_file, rules_for}
use Rattle.torx_words.proofs.ParserWalk.{walk_says}
use Rattle.torx_words.proofs.ParserEnd.{built_is, fault_at, matches_at, read_known, read_says, said, words_are}

-- the command is one of which the parser's words say everything
pub is_free : (known : List Known) → is_simple_and_free (app_for known) ≡ true
is_free known = free known

-- the parser refuses the words exactly where they have no reading, and else its matches say what the reading gives
pub reads_as : (known : List Known) (words : List (List ℕ)) → is_table known ≡ true → All IsUtf8 words →
    MatchOption (read_once known words) (fault_of (app_for known) words ≡ [] → ⊥) (λ r. (fault_of (app_for known) words ≡ []) × SayRows known (matches_of (app_for known) words) r)
reads_as known words table utf8 =
    let says = walk_says known (rules_for known) (are_rules known table) (no_file known table) words utf8 in
    let is = built_is known in
    let given = words_are known words in
    said known (read known words None) (fault_of (app_for known) words) (matches_of (app_for known) words) (fault_at (app_for known) known words is given ∙ says.passing)
    (λ r e fits. subst (λ rows. SayRows known rows r) (sym (matches_at (app_for known) known words is given)) (read_says known words table (read known words None) (read_known known words) says r e fits))
