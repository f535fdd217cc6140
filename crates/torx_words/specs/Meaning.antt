-- Promise: what a reading asks for.
use Rattle.std.specs.Prelude.{ℕ, ◌-◌, ◌^◌, List, [], codes, find, if◌then◌else◌, max, min, Option, Some, None, option_map, option_and_then, unwrap_or}
use Rattle.std.specs.List.{slice_get}
use Rattle.std.specs.Str.{bytes_eq}
use Rattle.lts_base.specs.declared.item.Mode.{Mode}
use Rattle.lts_base.specs.declared.item.Mode.TheVariants.{Ioco, Uioco}
use Rattle.torx_words.specs.Accepted.{Entry, Shape}
use Rattle.torx_words.specs.Form.{Reading, stands, value_of}
use Rattle.torx_words.specs.Values.{decimal_of}
use Rattle.torx_words.specs.declared.form.ValueKind.{ValueKind}
use Rattle.torx_words.specs.declared.form.ValueKind.TheVariants as kind
use Rattle.lts_base.specs.declared.divergence.Divergence.{Divergence}
use Rattle.lts_base.specs.declared.divergence.Divergence.TheVariants.{Refuse, Quiet}

-- how labels are to be sorted: by the mark at their front or at their end, or by a list of the inputs in the file of this name
pub data AskedSorting : Type 0 where
  by_prefix : AskedSorting
  by_suffix : AskedSorting
  by_list : List ℕ → AskedSorting

-- the values of `--marks` and `--inputs` ask for this
abbrev pub sorting_by : Option (List ℕ) → Option (List ℕ) → AskedSorting
sorting_by marks (Some file) = by_list file
sorting_by None None = by_prefix
sorting_by (Some mark) None = if bytes_eq mark (codes "suffix") then by_suffix else by_prefix

abbrev pub sorting_of : Reading → AskedSorting
sorting_of r = sorting_by (value_of (codes "marks") r) (value_of (codes "inputs") r)

-- the conformance relation
abbrev pub mode_of : Reading → Mode
mode_of r = if stands (codes "uioco") r then Uioco else Ioco

-- the value of `--divergence` asks for this
abbrev pub divergence_by : Option (List ℕ) → Divergence
divergence_by None = Refuse
divergence_by (Some word) = if bytes_eq word (codes "quiet") then Quiet else Refuse

-- how divergent systems are read
abbrev pub divergence_of : Reading → Divergence
divergence_of r = divergence_by (value_of (codes "divergence") r)

-- the number that an option gives; without the option it is `usual`. What is accepted has a number as the value of each
-- option that wants one
abbrev pub number_of : List ℕ → ℕ → Reading → ℕ
number_of name usual r = unwrap_or (option_and_then decimal_of (value_of name r)) usual

-- the file at this place, counted from 0; empty where there are fewer
abbrev pub file_at : ℕ → Reading → List ℕ
file_at place r = unwrap_or (slice_get r.files place) []

-- what may stand as the value of the option of this name
abbrev pub kind_by : List ℕ → List Entry → Option ValueKind
kind_by name options = option_map (λ (e : Entry). e.kind) (find (λ (e : Entry). bytes_eq e.name name) options)

-- the least and the most number of an option of this kind, or of its usual number
abbrev pub range_with : ℕ → Option ValueKind → ℕ × ℕ
range_with usual (Some (kind.Number least most)) = (min least usual, max most usual)
range_with usual other = (0, 2 ^ 64 - 1)

abbrev pub range_of : List ℕ → ℕ → Shape → ℕ × ℕ
range_of name usual shape = range_with usual (kind_by name shape.options)
