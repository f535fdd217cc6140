-- Promise: what the code's own types say, in the words of the definitions.
use Rattle.std.specs.Prelude.{ℕ, List, map}
use Rattle.std.specs.Borrow.{Bor}
use Rattle.torx_words.specs.Accepted.{Entry, Shape}
use Rattle.torx_words.specs.Form.{Reading}
use Rattle.torx_words.specs.Meaning.{AskedSorting, by_prefix, by_suffix, by_list}
use Rattle.torx_words.specs.declared.form.NamedOption.{NamedOption}
use Rattle.torx_words.specs.declared.form.Form.{Form}
use Rattle.torx_words.specs.declared.asked.Sorting.{Sorting}
use Rattle.torx_words.specs.declared.asked.Sorting.TheVariants.{Prefix, Suffix, Listed}

abbrev pub entry_from : NamedOption → Entry
entry_from o = record { name = o.name.now; kind = o.kind }

abbrev pub shape_from : Form → Shape
shape_from f = record {
  options = map entry_from f.options.now;
  required = map (λ (w : Bor (List ℕ)). w.now) f.required.now;
  clashes = map (λ (p : Bor (List ℕ) × Bor (List ℕ)). (p.0.now, p.1.now)) f.clashes.now;
  least = f.least;
  most = f.most;
}

abbrev pub sorting_from : Sorting → AskedSorting
sorting_from Prefix = by_prefix
sorting_from Suffix = by_suffix
sorting_from (Listed name) = by_list name.now

-- what words give: the form that accepts them, and the reading
pub record GivenWords : Type 0 where
  pub shape : Shape
  pub reading : Reading
