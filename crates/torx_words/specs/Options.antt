-- Promise: the options that several commands have, and words for the others and for a form.
use Rattle.std.specs.Prelude.{ℕ, List, [], codes}
use Rattle.torx_words.specs.Accepted.{Entry, Shape}
use Rattle.torx_words.specs.declared.form.ValueKind.TheVariants.{Flag, Marks, Divergence, Name, Number}

-- how labels are sorted
abbrev pub marks_option : Entry
marks_option = record { name = codes "marks"; kind = Marks }

-- the file that lists the inputs
abbrev pub inputs_option : Entry
inputs_option = record { name = codes "inputs"; kind = Name }

-- how divergent systems are read
abbrev pub divergence_option : Entry
divergence_option = record { name = codes "divergence"; kind = Divergence }

-- the conformance relation is uioco
abbrev pub uioco_option : Entry
uioco_option = record { name = codes "uioco"; kind = Flag }

-- the option of this name that has no value
abbrev pub flag_option : List ℕ → Entry
flag_option name = record { name = name; kind = Flag }

-- the option of this name whose value names a file or an address
abbrev pub name_option : List ℕ → Entry
name_option name = record { name = name; kind = Name }

-- the option of this name whose value is a number from `least` to `most`
abbrev pub number_option : List ℕ → ℕ → ℕ → Entry
number_option name least most = record { name = name; kind = Number least most }

-- the form with these options and with `least` to `most` files, of which no option must stand and no further two exclude each other
abbrev pub plain_shape : List Entry → ℕ → ℕ → Shape
plain_shape options least most = record { options = options; required = []; clashes = []; least = least; most = most }
