-- Promise: how the words after a command are read, its options and flags and its files: `--` ends the options (The Open Group
-- Base Specifications, 12.2 Utility Syntax Guidelines, guideline 10), and `--NAME` and `--NAME=VALUE` are options (GNU Coding
-- Standards, 4.8 Standards for Command Line Interfaces), whose names aren't shortened.
use Rattle.std.specs.Prelude.{ℕ, ◌==◌, ◌&&◌, Bool, true, false, not, List, [], ◌∷◌, map, find, codes, if◌then◌else◌, Option, Some, None, option_map, option_and_then}
use Rattle.std.specs.List.{list_any, before_first, after_first}
use Rattle.std.specs.Str.{bytes_eq}

-- an option that a command has: its name without the dashes, and whether a value follows it; without one it is a flag
pub record Known : Type 0 where
  pub name : List ℕ
  pub valued : Bool

-- what the words give, in their order: the options that stand, each with its value, and the files
pub record Reading : Type 0 where
  pub options : List (List ℕ × Option (List ℕ))
  pub files : List (List ℕ)

-- the word begins with `-` and has a further byte: before `--` it stands for no value and no file
abbrev pub is_dashed : List ℕ → Bool
is_dashed [] = false
is_dashed (b ∷ []) = false
is_dashed (b ∷ c ∷ bytes) = b == 45

abbrev pub is_equals : ℕ → Bool
is_equals b = b == 61

-- the name and the value of `NAME=VALUE`; `NAME` alone has none
abbrev pub name_and_value : List ℕ → List ℕ × Option (List ℕ)
name_and_value text = (before_first is_equals text, if list_any is_equals text then Some (after_first is_equals text) else None)

-- the name and the value of `--NAME=VALUE` and `--NAME`
abbrev pub option_parts : List ℕ → Option (List ℕ × Option (List ℕ))
option_parts [] = None
option_parts (b ∷ []) = None
option_parts (b ∷ c ∷ text) = if b == 45 && c == 45 then Some (name_and_value text) else None

-- the option of this name
abbrev pub known_by : List ℕ → List Known → Option Known
known_by name known = find (λ (k : Known). bytes_eq k.name name) known

abbrev pub with_option : List ℕ → Option (List ℕ) → Reading → Reading
with_option name value r = record r { options = (name, value) ∷ r.options }

abbrev pub with_file : List ℕ → Reading → Reading
with_file file r = record r { files = file ∷ r.files }

-- an option, with the value after its `=`; what follows it is read by `next`, which is told the option that waits for a value
abbrev pub option_read : Known → Option (List ℕ) → (Option (List ℕ) → Option Reading) → Option Reading
option_read k (Some value) next = if k.valued then option_map (with_option k.name (Some value)) (next None) else None
option_read k None next = if k.valued then next (Some k.name) else option_map (with_option k.name None) (next None)

-- a word that begins with `-`
abbrev pub dashed_read : List Known → List ℕ → (Option (List ℕ) → Option Reading) → Option Reading
dashed_read known word next = option_and_then (λ (p : List ℕ × Option (List ℕ)).
    option_and_then (λ (k : Known). option_read k p.1 next) (known_by p.0 known)) (option_parts word)

-- the words from left to right, while this option waits for its value: `--` ends the options
unfoldable pub read : List Known → List (List ℕ) → Option (List ℕ) → Option Reading
read known [] None = Some (record { options = []; files = [] })
read known [] (Some name) = None
read known (word ∷ words) (Some name) = if is_dashed word then None else option_map (with_option name (Some word)) (read known words None)
read known (word ∷ words) None =
    if bytes_eq word (codes "--") then Some (record { options = []; files = words })
    else if is_dashed word then dashed_read known word (read known words)
    else option_map (with_file word) (read known words None)

-- no text stands twice
abbrev pub are_distinct : List (List ℕ) → Bool
are_distinct [] = true
are_distinct (text ∷ texts) = not (list_any (bytes_eq text) texts) && are_distinct texts

-- no option of the reading stands twice
abbrev pub is_once : Reading → Bool
is_once r = are_distinct (map (λ (o : List ℕ × Option (List ℕ)). o.0) r.options)

-- what the words give, where no option stands twice
abbrev pub read_once : List Known → List (List ℕ) → Option Reading
read_once known words = option_and_then (λ (r : Reading). if is_once r then Some r else None) (read known words None)

-- whether the option stands
abbrev pub stands : List ℕ → Reading → Bool
stands name r = list_any (λ (o : List ℕ × Option (List ℕ)). bytes_eq o.0 name) r.options

-- the value of the option, where it stands
abbrev pub value_of : List ℕ → Reading → Option (List ℕ)
value_of name r = option_and_then (λ (o : List ℕ × Option (List ℕ)). o.1) (find (λ (o : List ℕ × Option (List ℕ)). bytes_eq o.0 name) r.options)

-- the command has an option of this name, which has a value
abbrev pub has_valued : List ℕ → List Known → Bool
has_valued name known = list_any (λ (k : Known). k.valued && bytes_eq k.name name) known

-- the command has a flag of this name
abbrev pub has_flag : List ℕ → List Known → Bool
has_flag name known = list_any (λ (k : Known). not k.valued && bytes_eq k.name name) known

-- the name under which the parser keeps the files
abbrev pub files_name : List ℕ
files_name = codes "file"

-- the options have names of their own, and none is that of the files
abbrev pub is_table : List Known → Bool
is_table known = are_distinct (files_name ∷ map (λ (k : Known). k.name) known)
