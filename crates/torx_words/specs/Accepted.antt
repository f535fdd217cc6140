-- Promise: which words after a command are accepted, and why others are refused, for any form.
use Rattle.std.specs.Prelude.{◌≡◌, ℕ, ◌&&◌, Bool, true, false, List, ◌∷◌, map, length, codes, if◌then◌else◌, nat_le, Option, Some, None, MatchResult, Result, Ok, Err}
use Rattle.std.specs.List.{list_all, list_any}
use Rattle.std.specs.Option.{option_map_or}
use Rattle.torx_words.specs.Form.{Known, Reading, read_once, stands, value_of}
use Rattle.torx_words.specs.Values.{is_name, may_stand}
use Rattle.torx_words.specs.declared.kind.UsageKind.{UsageKind}
use Rattle.torx_words.specs.declared.kind.UsageKind.TheVariants.{Words, Value, Clash}
use Rattle.torx_words.specs.declared.form.ValueKind.{ValueKind}
use Rattle.torx_words.specs.declared.form.ValueKind.TheVariants.{Flag, Marks, Divergence, Name, Number}
use Rattle.torx_words.specs.declared.kind.WordsError.{WordsError}
use Rattle.torx_words.specs.declared.kind.WordsError.TheVariants.{Usage, Memory}

-- an option of a form: its name without the dashes, and what may stand as its value
pub record Entry : Type 0 where
  pub name : List ℕ
  pub kind : ValueKind

-- the form of the words after a command: its options, those that must stand, the pairs that exclude each other, and the least
-- and the most number of its files
pub record Shape : Type 0 where
  pub options : List Entry
  pub required : List (List ℕ)
  pub clashes : List (List ℕ × List ℕ)
  pub least : ℕ
  pub most : ℕ

-- a value follows an option of this kind
abbrev pub is_valued : ValueKind → Bool
is_valued Flag = false
is_valued Marks = true
is_valued Divergence = true
is_valued Name = true
is_valued (Number least most) = true

abbrev pub known_of : Entry → Known
known_of e = record { name = e.name; valued = is_valued e.kind }

-- the options that must stand do, and there are as many files as the form has
abbrev pub fits : Shape → Reading → Bool
fits shape r = list_all (λ name. stands name r) shape.required && (nat_le shape.least (length r.files) && nat_le (length r.files) shape.most)

-- the values of these options can stand
abbrev pub may_all_stand : Reading → List Entry → Bool
may_all_stand r entries = list_all (λ (e : Entry). may_stand e.kind (value_of e.name r)) entries

-- each file and each value can stand where it does
abbrev pub has_values : Shape → Reading → Bool
has_values shape r = list_all is_name r.files && may_all_stand r shape.options

-- the pairs that exclude each other; `--marks` and `--inputs` always do
abbrev pub pairs_of : Shape → List (List ℕ × List ℕ)
pairs_of shape = (codes "marks", codes "inputs") ∷ shape.clashes

-- both options of some pair stand
abbrev pub has_clash : List (List ℕ × List ℕ) → Reading → Bool
has_clash pairs r = list_any (λ (p : List ℕ × List ℕ). stands p.0 r && stands p.1 r) pairs

-- why what is read is refused, in the order in which the reasons are tried
abbrev pub refusal_of : Shape → Reading → Option UsageKind
refusal_of shape r =
    if fits shape r then (if has_values shape r then (if has_clash (pairs_of shape) r then Some Clash else None) else Some Value) else Some Words

-- what is read, where it isn't refused
abbrev pub judged : Reading → Option UsageKind → Result Reading UsageKind
judged r None = Ok r
judged r (Some kind) = Err kind

-- what the words after a command of this form give, or why they are refused
abbrev pub accepted : Shape → List (List ℕ) → Result Reading UsageKind
accepted shape words = option_map_or (λ r. judged r (refusal_of shape r)) (read_once (map known_of shape.options) words) (Err Words)

-- the error is the refusal, or memory ran out
abbrev pub IsRefusal : {X : Type 0} → Result X UsageKind → WordsError → Type 0
IsRefusal answer (Usage kind) = answer ≡ Err kind
IsRefusal answer Memory = Unit {0}

-- what is asked for by what is read
abbrev pub asked_by : {A : Type 0} → (Reading → A) → Result Reading UsageKind → Result A UsageKind
asked_by ask (Ok r) = Ok (ask r)
asked_by ask (Err kind) = Err kind

-- what the words after a command of this form ask for, or why they are refused
abbrev pub asked : {A : Type 0} → Shape → (Reading → A) → List (List ℕ) → Result A UsageKind
asked shape ask words = asked_by ask (accepted shape words)

-- the words are answered with what they ask for, seen so, or with their refusal, or memory ran out
abbrev pub IsAsked : {A X : Type 0} → Result A UsageKind → (X → A) → Result X WordsError → Type 0
IsAsked answer seen result = MatchResult result (λ x. answer ≡ Ok (seen x)) (IsRefusal answer)
