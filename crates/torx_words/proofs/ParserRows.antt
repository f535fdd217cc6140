-- What stands in the parser's rows while the words are read.
use Rattle.std.proofs.Common.{◌≡◌, ◌∙◌, ◌&&◌, ◌||◌, Bool, cond, true, false, not, refl, sym, ap, ap₂, subst, List, [], ◌∷◌, ◌++◌, map, append_assoc, Option, Some, None, is_some, option_map, unwrap_or, true≢false}
use Rattle.std.specs.Prelude.{if◌then◌else◌, codes, option_and_then, slice_get}
use Rattle.std.specs.List.{find, list_all, list_any}
use Rattle.std.specs.Option.{option_or}
use Rattle.std.specs.Str.{bytes_eq}
use Rattle.clap.specs.Walk.{Row, Text, all_of, first_of, has_row, with_values, without}
use Rattle.clap.specs.declared.builder.value_parser.Reading.{Reading as Way}
use Rattle.clap.specs.declared.parser.matches.ValueSource.{ValueSource}
use Rattle.torx_words.specs.Form.{Reading, are_distinct, files_name, with_file, with_option}
use Rattle.torx_words.proofs.ParserRules.{eq-refl, same_text, differs}

-- an option as it is read, with its value
abbrev pub Given : Type 0
Given = Text × Option Text

-- the names of the options
abbrev pub names_of : List Given → List Text
names_of = map (λ (o : Given). o.0)

-- the values that the parser keeps for an option as it is read
abbrev pub values_for : Option Text → List Text
values_for None = codes "true" ∷ []
values_for (Some v) = v ∷ []

-- the option has no row yet; the files may have one
abbrev pub is_new : List Row → Given → Bool
is_new rows o = bytes_eq o.0 files_name || not (has_row o.0 rows)

-- no option of the reading stands twice, or in the rows
abbrev pub fits_rows : List Row → Option Reading → Bool
fits_rows rows None = false
fits_rows rows (Some r) = list_all (is_new rows) r.options && are_distinct (names_of r.options)

-- the files, behind those that stand
abbrev pub files_after : Option (List Text) → List Text → Option (List Text)
files_after o [] = o
files_after o (x ∷ xs) = Some (unwrap_or o [] ++ x ∷ xs)

-- what stands for the id once the reading is added to the rows
abbrev pub after : List Row → Reading → Text → Option (List Text)
after rows r id = if bytes_eq id files_name then files_after (all_of id rows) r.files
    else option_or (all_of id rows) (option_map (λ (o : Given). values_for o.1) (find (λ (o : Given). bytes_eq o.0 id) r.options))

-- ---- one row

-- an id has a row exactly where values stand for it
pub has-all : (id : Text) (rows : List Row) → has_row id rows ≡ is_some (all_of id rows)
has-all id [] = refl
has-all id (r ∷ rs) = go (bytes_eq r.id id) (has-all id rs)
  where
    go : (b : Bool) → has_row id rs ≡ is_some (all_of id rs) → (b || has_row id rs) ≡ is_some (option_map (λ (x : Row). x.values) (cond b (Some r) (find (λ (x : Row). bytes_eq x.id id) rs)))
    go true e = refl
    go false e = e

-- an id without a row has no values
pub none-all : (id : Text) (rows : List Row) → has_row id rows ≡ false → all_of id rows ≡ None
none-all id rows e = go (all_of id rows) (sym (has-all id rows) ∙ e)
  where
    go : (o : Option (List Text)) → is_some o ≡ false → o ≡ None
    go None f = refl
    go (Some v) f = absurd (true≢false f)

-- the first value is the first of all that stand
pub first-all : (id : Text) (rows : List Row) → first_of id rows ≡ option_and_then (λ (vs : List Text). slice_get vs 0) (all_of id rows)
first-all id rows = go (find (λ (r : Row). bytes_eq r.id id) rows)
  where
    go : (o : Option Row) → option_and_then (λ (r : Row). slice_get r.values 0) o ≡ option_and_then (λ (vs : List Text). slice_get vs 0) (option_map (λ (r : Row). r.values) o)
    go None = refl
    go (Some r) = refl

-- nothing is taken out where nothing stands
pub without-none : (id : Text) (rows : List Row) → has_row id rows ≡ false → without id rows ≡ rows
without-none id [] e = refl
without-none id (r ∷ rs) e = go (bytes_eq r.id id) e (without-none id rs)
  where
    go : (b : Bool) → (b || has_row id rs) ≡ false → (has_row id rs ≡ false → without id rs ≡ rs) → cond b ([] ++ rs) (r ∷ without id rs) ≡ r ∷ rs
    go true f rest = absurd (true≢false f)
    go false f rest = ap (λ xs. r ∷ xs) (rest f)

module _ (n : Text) (how : Way) (s : ValueSource) (vs : List Text) where
  -- the values of the id are added to those that it has
  pub all-with : (rows : List Row) → all_of n (with_values n how s vs rows) ≡ Some (unwrap_or (all_of n rows) [] ++ vs)
  all-with [] = rw (eq-refl n) refl
  all-with (r ∷ rs) = go (bytes_eq r.id n) refl (all-with rs)
    where
      go : (b : Bool) → bytes_eq r.id n ≡ b → all_of n (with_values n how s vs rs) ≡ Some (unwrap_or (all_of n rs) [] ++ vs) → all_of n (with_values n how s vs (r ∷ rs)) ≡ Some (unwrap_or (all_of n (r ∷ rs)) [] ++ vs)
      go true e rest = rw (e, e) refl
      go false e rest = rw (e, e) rest

  -- and nothing else changes
  pub all-other : (id : Text) → bytes_eq n id ≡ false → (rows : List Row) → all_of id (with_values n how s vs rows) ≡ all_of id rows
  all-other id other [] = rw other refl
  all-other id other (r ∷ rs) = go (bytes_eq r.id n) refl (all-other id other rs)
    where
      rest : (c : Bool) (x y : Option Row) → option_map (λ (z : Row). z.values) x ≡ option_map (λ (z : Row). z.values) y
          → option_map (λ (z : Row). z.values) (cond c (Some r) x) ≡ option_map (λ (z : Row). z.values) (cond c (Some r) y)
      rest true x y e = refl
      rest false x y e = e

      go : (b : Bool) → bytes_eq r.id n ≡ b → all_of id (with_values n how s vs rs) ≡ all_of id rs → all_of id (with_values n how s vs (r ∷ rs)) ≡ all_of id (r ∷ rs)
      go true e below =
          let not_here : bytes_eq r.id id ≡ false = subst (λ (x : Text). bytes_eq x id ≡ false) (sym (same_text r.id n e)) other in
          rw (e, not_here) refl
      go false e below = rw e (rest (bytes_eq r.id id) (find (λ (x : Row). bytes_eq x.id id) (with_values n how s vs rs)) (find (λ (x : Row). bytes_eq x.id id) rs) below)

  -- the id has a row then
  pub has-with : (rows : List Row) → has_row n (with_values n how s vs rows) ≡ true
  has-with rows = has-all n (with_values n how s vs rows) ∙ ap is_some (all-with rows)

  -- another id has a row where it had one
  pub has-other : (id : Text) → bytes_eq n id ≡ false → (rows : List Row) → has_row id (with_values n how s vs rows) ≡ has_row id rows
  has-other id other rows = has-all id (with_values n how s vs rows) ∙ ap is_some (all-other id other rows) ∙ sym (has-all id rows)

-- ---- small laws on tests

-- a test that fails behind another
pub and_false : (a : Bool) → (a && false) ≡ false
and_false true = refl
and_false false = refl

-- a test that passes behind another
pub and_true : (a : Bool) → (a && true) ≡ a
and_true true = refl
and_true false = refl

-- three tests, grouped either way
pub and_assoc : (a b c : Bool) → ((a && b) && c) ≡ (a && (b && c))
and_assoc true b c = refl
and_assoc false b c = refl

-- a head that passes and isn't met, with a rest that passes and where nothing is met
spread : (x y a b : Bool) → ((x && not y) && (a && not b)) ≡ ((x && a) && not (y || b))
spread true true a b = sym (and_false a)
spread true false a b = refl
spread false y a b = refl

-- the conditions of a first option, moved behind those of the rest
moved_over : (a b c : Bool) → ((a && not b) && c) ≡ ((true && a) && (not b && c))
moved_over true b c = refl
moved_over false b c = refl

-- ---- a file is added

module _ (how : Way) (s : ValueSource) (w : Text) where
  -- an option is new behind a file where it was new before it
  file_new : (rows : List Row) (o : Given) → is_new (with_values files_name how s (w ∷ []) rows) o ≡ is_new rows o
  file_new rows o = go (bytes_eq o.0 files_name) refl
    where
      go : (b : Bool) → bytes_eq o.0 files_name ≡ b → (b || not (has_row o.0 (with_values files_name how s (w ∷ []) rows))) ≡ (b || not (has_row o.0 rows))
      go true e = refl
      go false e = ap not (has-other files_name how s (w ∷ []) o.0 (differs o.0 files_name e) rows)

  -- a file changes nothing for the options that follow it
  pub fits-file : (rows : List Row) (o : Option Reading) → fits_rows (with_values files_name how s (w ∷ []) rows) o ≡ fits_rows rows (option_map (with_file w) o)
  fits-file rows None = refl
  fits-file rows (Some r) = λ i. list_all (λ (o : Given). file_new rows o i) r.options && are_distinct (names_of r.options)

  -- a file and those behind it, one by one or together
  more_files : (o : Option (List Text)) (fs : List Text) → files_after (Some (unwrap_or o [] ++ w ∷ [])) fs ≡ files_after o (w ∷ fs)
  more_files o [] = refl
  more_files o (f ∷ fs) = ap Some (append_assoc (unwrap_or o []) (w ∷ []) (f ∷ fs))

  -- what stands after the file and the rest is what stands after both
  pub after-file : (rows : List Row) (r : Reading) (id : Text) → after (with_values files_name how s (w ∷ []) rows) r id ≡ after rows (with_file w r) id
  after-file rows r id = go (bytes_eq id files_name) refl
    where
      go : (b : Bool) → bytes_eq id files_name ≡ b → after (with_values files_name how s (w ∷ []) rows) r id ≡ after rows (with_file w r) id
      go true e =
          let here : files_after (all_of id (with_values files_name how s (w ∷ []) rows)) r.files ≡ files_after (all_of id rows) (w ∷ r.files) =
          subst (λ (x : Text). files_after (all_of x (with_values files_name how s (w ∷ []) rows)) r.files ≡ files_after (all_of x rows) (w ∷ r.files)) (sym (same_text id files_name e))
          (ap (λ x. files_after x r.files) (all-with files_name how s (w ∷ []) rows) ∙ more_files (all_of files_name rows) r.files) in
          rw e here
      go false e =
          let other : bytes_eq files_name id ≡ false = differs id files_name e in
          rw e (ap (λ x. option_or x (option_map (λ (o : Given). values_for o.1) (find (λ (o : Given). bytes_eq o.0 id) r.options))) (all-other files_name how s (w ∷ []) id other rows))

-- ---- an option is added

module _ (how : Way) (s : ValueSource) (n : Text) (v : Option Text) (named : bytes_eq n files_name ≡ false) where
  -- an option is new behind another where it was new before it and has another name
  option_new : (rows : List Row) (o : Given) → is_new (with_values n how s (values_for v) rows) o ≡ (is_new rows o && not (bytes_eq n o.0))
  option_new rows o = go (bytes_eq n o.0) refl
    where
      go : (b : Bool) → bytes_eq n o.0 ≡ b → is_new (with_values n how s (values_for v) rows) o ≡ (is_new rows o && not b)
      go true e =
          let same : n ≡ o.0 = same_text n o.0 e in
          let no_file : bytes_eq o.0 files_name ≡ false = subst (λ (x : Text). bytes_eq x files_name ≡ false) same named in
          let has : has_row o.0 (with_values n how s (values_for v) rows) ≡ true = subst (λ (x : Text). has_row x (with_values n how s (values_for v) rows) ≡ true) same (has-with n how s (values_for v) rows) in
          ap₂ (λ a b. a || not b) no_file has ∙ sym (and_false (is_new rows o))
      go false e = ap (λ b. bytes_eq o.0 files_name || not b) (has-other n how s (values_for v) o.0 e rows) ∙ sym (and_true (is_new rows o))

  -- the same of all the options that follow
  options_new : (rows : List Row) (os : List Given) → list_all (is_new (with_values n how s (values_for v) rows)) os ≡ (list_all (is_new rows) os && not (list_any (bytes_eq n) (names_of os)))
  options_new rows [] = refl
  options_new rows (o ∷ os) = ap₂ (λ a b. a && b) (option_new rows o) (options_new rows os) ∙ spread (is_new rows o) (bytes_eq n o.0) (list_all (is_new rows) os) (list_any (bytes_eq n) (names_of os))

  -- an option that is new leaves its name to no other
  fits_new : (rows : List Row) (o : Option Reading) → has_row n rows ≡ false → fits_rows (with_values n how s (values_for v) rows) o ≡ fits_rows rows (option_map (with_option n v) o)
  fits_new rows None none = refl
  fits_new rows (Some r) none =
      let here : is_new rows (n, v) ≡ true = ap₂ (λ a b. a || not b) named none in
      ap (λ a. a && are_distinct (names_of r.options)) (options_new rows r.options) ∙ moved_over (list_all (is_new rows) r.options) (list_any (bytes_eq n) (names_of r.options)) (are_distinct (names_of r.options))
      ∙ ap (λ a. (a && list_all (is_new rows) r.options) && (not (list_any (bytes_eq n) (names_of r.options)) && are_distinct (names_of r.options))) (sym here)

  -- one that stands already is refused
  fits_old : (rows : List Row) (o : Option Reading) → has_row n rows ≡ true → fits_rows rows (option_map (with_option n v) o) ≡ false
  fits_old rows None old = refl
  fits_old rows (Some r) old =
      let here : is_new rows (n, v) ≡ false = ap₂ (λ a b. a || not b) named old in
      ap (λ a. (a && list_all (is_new rows) r.options) && (not (list_any (bytes_eq n) (names_of r.options)) && are_distinct (names_of r.options))) here

  -- an option fits with what follows it where it is new, and the rest fits behind it
  pub fits-option : (rows : List Row) (o : Option Reading) → (not (has_row n rows) && fits_rows (with_values n how s (values_for v) (without n rows)) o) ≡ fits_rows rows (option_map (with_option n v) o)
  fits-option rows o = go (has_row n rows) refl
    where
      go : (b : Bool) → has_row n rows ≡ b → (not b && fits_rows (with_values n how s (values_for v) (without n rows)) o) ≡ fits_rows rows (option_map (with_option n v) o)
      go true e = sym (fits_old rows o e)
      go false e = ap (λ x. fits_rows (with_values n how s (values_for v) x) o) (without-none n rows e) ∙ fits_new rows o e

  -- what stands after an option that is new and the rest is what stands after both
  after_new : (rows : List Row) (r : Reading) (id : Text) → has_row n rows ≡ false → after (with_values n how s (values_for v) rows) r id ≡ after rows (with_option n v r) id
  after_new rows r id none = go (bytes_eq id files_name) (bytes_eq n id) refl refl
    where
      go : (b c : Bool) → bytes_eq id files_name ≡ b → bytes_eq n id ≡ c → after (with_values n how s (values_for v) rows) r id ≡ after rows (with_option n v r) id
      go true true e f = absurd (true≢false (sym (subst (λ (x : Text). bytes_eq x files_name ≡ true) (sym (same_text n id f)) e) ∙ named))
      go true false e f = rw e (ap (λ x. files_after x r.files) (all-other n how s (values_for v) id f rows))
      go false true e f =
          let same : n ≡ id = same_text n id f in
          let here : all_of id (with_values n how s (values_for v) rows) ≡ Some (values_for v) =
          subst (λ (x : Text). all_of x (with_values n how s (values_for v) rows) ≡ Some (values_for v)) same
          (all-with n how s (values_for v) rows ∙ ap (λ (o : Option (List Text)). Some (unwrap_or o [] ++ values_for v)) (none-all n rows none)) in
          let before : all_of id rows ≡ None = subst (λ (x : Text). all_of x rows ≡ None) same (none-all n rows none) in
          rw (e, f) (ap (λ x. option_or x (option_map (λ (o : Given). values_for o.1) (find (λ (o : Given). bytes_eq o.0 id) r.options))) here
          ∙ sym (ap (λ x. option_or x (Some (values_for v))) before))
      go false false e f = rw (e, f) (ap (λ x. option_or x (option_map (λ (o : Given). values_for o.1) (find (λ (o : Given). bytes_eq o.0 id) r.options))) (all-other n how s (values_for v) id f rows))

  -- what stands after the option and the rest is what stands after both
  pub after-option : (rows : List Row) (r : Reading) (id : Text) → has_row n rows ≡ false → after (with_values n how s (values_for v) (without n rows)) r id ≡ after rows (with_option n v r) id
  after-option rows r id none = ap (λ x. after (with_values n how s (values_for v) x) r id) (without-none n rows none) ∙ after_new rows r id none
