-- Private: what the parser's matches tell, and of which reading.
use Rattle.std.specs.Prelude.{◌≡◌, ℕ, Bool, true, false, List, [], map, codes, Option, Some, None, MatchResult, Result, option_map, unwrap_or}
use Rattle.std.specs.Option.{option_map_or}
use Rattle.std.specs.Str.{bytes_eq}
use Rattle.std.specs.String.{string_bytes}
use Rattle.std.specs.declared.string.String.{String}
use Rattle.clap.specs.Words.{first_value, found_of, matched_of, raw_values}
use Rattle.clap.specs.declared.parser.matches.ArgMatches.{ArgMatches}
use Rattle.torx_words.specs.Accepted.{Entry, known_of}
use Rattle.torx_words.specs.Form.{Known, Reading, files_name, has_flag, has_valued, read_once, stands, value_of}
use Rattle.torx_words.specs.Named.{entry_from}
use Rattle.torx_words.specs.declared.form.NamedOption.{NamedOption}
use Rattle.torx_words.specs.declared.kind.UsageKind.TheVariants.{Words}
use Rattle.torx_words.specs.declared.kind.WordsError.{WordsError}
use Rattle.torx_words.specs.declared.kind.WordsError.TheVariants.{Usage, Memory}

-- what is told of the words: the value of each option, whether a flag stands, and the files
pub record Told : Type 0 where
  pub value : List ℕ → Option (List ℕ)
  pub flag : List ℕ → Bool
  pub files : List (List ℕ)

-- what is told is what the words give
pub record Tells (known : List Known) (r : Reading) (t : Told) : Type 0 where
  pub values : (name : List ℕ) → has_valued name known ≡ true → t.value name ≡ value_of name r
  pub flags : (name : List ℕ) → has_flag name known ≡ true → t.flag name ≡ stands name r
  pub files : t.files ≡ r.files

-- the first value of each name; a flag stands where that is `true`
abbrev pub told_of : ArgMatches → Told
told_of m = record {
  value = first_value (found_of m);
  flag = λ name. option_map_or (λ text. bytes_eq text (codes "true")) (first_value (found_of m) name) false;
  files = unwrap_or (option_map raw_values (matched_of (found_of m) files_name)) [];
}

-- the words have a reading in which no option stands twice, and this is told of it
abbrev pub GivesOnce : List Known → List (List ℕ) → Told → Type 0
GivesOnce known words t = (r : Reading) × (read_once known words ≡ Some r) × Tells known r t

-- what words give: the options that they are read by, and the reading
pub record ReadWords : Type 0 where
  pub options : List Entry
  pub reading : Reading

-- what the words give by these options; nothing where they aren't read
abbrev pub reading_from : {Z : Type 0} → List NamedOption → List (String Z) → Reading
reading_from options words = unwrap_or (read_once (map known_of (map entry_from options)) (map string_bytes words)) (record { options = []; files = [] })

-- the words have no reading in which no option stands twice, or memory ran out
abbrev pub IsUnread : List Known → List (List ℕ) → WordsError → Type 0
IsUnread known words (Usage kind) = (kind ≡ Words) × (read_once known words ≡ None)
IsUnread known words Memory = Unit {0}

-- the words are read by these options, or they have no reading
abbrev pub IsReadAs : List Entry → List (List ℕ) → Result ReadWords WordsError → Type 0
IsReadAs options words result =
    MatchResult result (λ (p : ReadWords). read_once (map known_of options) words ≡ Some p.reading) (IsUnread (map known_of options) words)

-- the error is that of the form, and then not this, or memory ran out
abbrev pub IsWordsUnless : Type 0 → WordsError → Type 0
IsWordsUnless other (Usage kind) = (kind ≡ Words) × (¬ other)
IsWordsUnless other Memory = Unit {0}
