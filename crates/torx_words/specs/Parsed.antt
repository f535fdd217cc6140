-- Private: the parser's command for the options of a form, and what its matches say of a reading.
use Rattle.std.specs.Prelude.{◌≡◌, ℕ, true, false, List, [], fold, codes, if◌then◌else◌, Some, unwrap_or}
use Rattle.std.specs.Option.{option_map_or}
use Rattle.std.specs.Str.{bytes_eq}
use Rattle.clap.specs.Words.{App, Row, Rule, all_of, first_of, new_app, new_rule, with_rule}
use Rattle.clap.specs.declared.builder.action.ArgAction.TheVariants.{Set, SetTrue, Append}
use Rattle.torx_words.specs.Form.{Known, Reading, stands, value_of, has_valued, has_flag, files_name}

abbrev pub valued_known : List ℕ → Known
valued_known name = record { name = name; valued = true }

abbrev pub flag_known : List ℕ → Known
flag_known name = record { name = name; valued = false }

-- an option as the parser takes it
abbrev pub rule_for : Known → Rule
rule_for k = record (new_rule k.name) { long = Some k.name; action = Some (if k.valued then Set else SetTrue) }

-- the files, in any number
abbrev pub files_rule : Rule
files_rule = record (new_rule files_name) { action = Some Append }

-- a command without options; the words are all after its name
abbrev pub bare_app : App
bare_app = record (new_app (codes "command")) { top = record (new_app (codes "command")).top { no_binary_name = true; disable_help_flag = true } }

abbrev pub with_known : App → Known → App
with_known app k = with_rule app (rule_for k)

-- the parser's command
abbrev pub app_for : List Known → App
app_for known = with_rule (fold with_known bare_app known) files_rule

-- the parser's rows say what the reading gives
pub record SayRows (known : List Known) (rows : List Row) (r : Reading) : Type 0 where
  pub values : (name : List ℕ) → has_valued name known ≡ true → first_of name rows ≡ value_of name r
  pub flags : (name : List ℕ) → has_flag name known ≡ true → option_map_or (λ (text : List ℕ). bytes_eq text (codes "true")) (first_of name rows) false ≡ stands name r
  pub files : unwrap_or (all_of files_name rows) [] ≡ r.files
