-- What the parser's answer says of the words' reading.
use Rattle.std.proofs.Common.{◌≡◌, ◌≢◌, ◌∙◌, ℕ, Bool, true, false, ◌&&◌, List, [], map, Option, Some, None, refl, sym, ap, subst, inl, inr, codes, slice_index_or}
use Rattle.std.specs.Prelude.{MatchOption, All, unwrap_or}
use Rattle.std.specs.Option.{option_map_or}
use Rattle.std.specs.Str.{IsUtf8, bytes_eq}
use Rattle.std.specs.String.{string_bytes}
use Rattle.std.specs.declared.string.String.{String}
use Rattle.std.proofs.lemmas.Str.{IsUtf8-string_bytes}
use Rattle.std.proofs.lemmas.List.Elements.{All-map}
use Rattle.clap.specs.Words.{App, Row, HasKind, HasMatchesOf, IsAmong, Kinds, all_of, fault_of, first_of, found_of, is_simple, is_simple_and_free, kind_of, matches_of, rows_of}
use Rattle.clap.specs.declared.error.Error.{Error}
use Rattle.clap.specs.declared.error.kind.ErrorKind.TheVariants as error_kind
use Rattle.clap.specs.declared.parser.matches.ArgMatches.{ArgMatches}
use Rattle.clap.proofs.WalkLemmas.{first_value-rows, raw_values-rows}
use Rattle.torx_words.specs.Form.{Known, Reading, files_name, is_table, read_once}
use Rattle.torx_words.specs.Parsed.{SayRows, app_for}
use Rattle.torx_words.specs.Taken.{GivesOnce, Tells, told_of}
use Rattle.torx_words.proofs.ParserLaws.{is_free, reads_as}

-- the words are texts
pub all_utf8 : {Z : Type 0} (words : List (String Z)) → All IsUtf8 (map string_bytes words)
all_utf8 {Z} words = All-map IsUtf8 string_bytes words (λ k d below. IsUtf8-string_bytes (slice_index_or words k d))

-- matches with these rows tell what the rows say
pub rows_tell : (known : List Known) (m : ArgMatches) (rows : List Row) (r : Reading) → rows_of (found_of m) ≡ rows → SayRows known rows r → Tells known r (told_of m)
rows_tell known m rows r e s = record {
  values = λ name h. first_value-rows (found_of m) name ∙ ap (first_of name) e ∙ s.values name h;
  flags = λ name h. ap (λ o. option_map_or (λ (text : List ℕ). bytes_eq text (codes "true")) o false) (first_value-rows (found_of m) name ∙ ap (first_of name) e) ∙ s.flags name h;
  files = ap (λ (o : Option (List (List ℕ))). unwrap_or o []) (raw_values-rows (found_of m) files_name ∙ ap (all_of files_name) e) ∙ s.files;
}

-- the first of two tests
and_left : (b c : Bool) → (b && c) ≡ true → b ≡ true
and_left true c e = refl
and_left false c e = e

-- the law of the parser, at a command that is the table's
laws_at : (known : List Known) (words : List (List ℕ)) (a : App) → a ≡ app_for known → is_table known ≡ true → All IsUtf8 words
    → MatchOption (read_once known words) (fault_of a words ≡ [] → ⊥) (λ r. (fault_of a words ≡ []) × SayRows known (matches_of a words) r)
laws_at known words a e table utf8 = subst (λ (x : App). MatchOption (read_once known words) (fault_of x words ≡ [] → ⊥) (λ r. (fault_of x words ≡ []) × SayRows known (matches_of x words) r)) (sym e) (reads_as known words table utf8)

-- a command that is the table's is one of which the parser's words say everything
free_at : (known : List Known) (a : App) → a ≡ app_for known → is_simple_and_free a ≡ true
free_at known a e = subst (λ (x : App). is_simple_and_free x ≡ true) (sym e) (is_free known)

-- such a command is simple
simple_from_free : (a : App) → is_simple_and_free a ≡ true → is_simple a ≡ true
simple_from_free a e = and_left (is_simple a) _ e

-- what can't be missing is there
read_where : (o : Option Reading) (none : Type 0) (some : Reading → Type 0) → MatchOption o none some → (none → ⊥) → (r : Reading) × (o ≡ Some r) × some r
read_where None none some h never = absurd (never h)
read_where (Some r) none some h never = (r, refl, h)

-- what can't be there is missing
unread_where : (o : Option Reading) (none : Type 0) (some : Reading → Type 0) → MatchOption o none some → ((r : Reading) → some r → ⊥) → o ≡ None
unread_where None none some h never = refl
unread_where (Some r) none some h never = absurd (never r h)

-- matches come only of words with a reading, and tell it
pub matches_give : (known : List Known) (words : List (List ℕ)) (a : App) (m : ArgMatches) → a ≡ app_for known → is_table known ≡ true → All IsUtf8 words
    → HasMatchesOf a words m → (is_simple_and_free a ≡ true → fault_of a words ≡ []) → GivesOnce known words (told_of m)
matches_give known words a m e table utf8 has faultless =
    let free = free_at known a e in
    let found = read_where (read_once known words) _ _ (laws_at known words a e table utf8) (λ faulty. faulty (faultless free)) in
    (found.0, found.1, rows_tell known m _ found.0 (has (simple_from_free a free)).0 found.2.1)

-- no kind is among none
none_among : (k : _) (ks : Kinds) → IsAmong k ks → ks ≡ [] → ⊥
none_among k ks among e = subst (IsAmong k) e among

-- a refusal for another cause than want of memory comes only of words without a reading
pub refusal_tells : (known : List Known) (words : List (List ℕ)) (a : App) (e : Error) → a ≡ app_for known → is_table known ≡ true → All IsUtf8 words
    → (is_simple_and_free a ≡ true → HasKind (fault_of a words) e) → kind_of e ≢ error_kind.OutOfMemory → read_once known words ≡ None
refusal_tells known words a e is table utf8 fails other =
    unread_where (read_once known words) _ _ (laws_at known words a is table utf8)
    (λ r h. elim (fails (free_at known a is)) [ inl memory ↦ other memory | inr among ↦ none_among (kind_of e) (fault_of a words) among h.0 ])
