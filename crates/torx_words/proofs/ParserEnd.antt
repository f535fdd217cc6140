-- What the parser's rows say at the end, and where the words are refused.
use Rattle.std.proofs.Common.{◌≡◌, ◌∙◌, ◌&&◌, ◌||◌, Bool, cond, true, false, not, refl, sym, ap, ap₂, subst, List, [], ◌∷◌, ◌++◌, map, Option, Some, None, is_some, option_map, unwrap_or, true≢false}
use Rattle.std.specs.Prelude.{MatchOption, codes, if◌then◌else◌, option_and_then, slice_get}
use Rattle.std.specs.List.{find, fold, list_all, list_any}
use Rattle.std.specs.Option.{option_map_or, option_or}
use Rattle.std.specs.Str.{bytes_eq}
use Rattle.clap.specs.Walk.{Row, Rule, Text, all_of, finished, first_of, has_row, idle, nothing_held, rows_after, settled, walk, walk_from, with_default, with_values}
use Rattle.clap.specs.Simple.{App, argument_words, built, matches_of, names_of as names_of_app}
use Rattle.clap.specs.Takes.{is_given}
use Rattle.clap.specs.Kinds.{Kinds, or_else}
use Rattle.clap.specs.Faults.{built_fault, check_fault, default_fault, defaults_fault, fault_of, given_default_fault, walk_fault, settle_fault}
use Rattle.clap.specs.declared.builder.value_parser.Reading.TheVariants.{AsWritten}
use Rattle.clap.specs.declared.parser.matches.ValueSource.TheVariants.{DefaultValue}
use Rattle.clap.proofs.FaultLemmas.{leaf_fault}
use Rattle.clap.proofs.WalkLemmas.{both}
use Rattle.clap.proofs.SimpleLemmas.{is_false}
use Rattle.torx_words.specs.Form.{Known, Reading, are_distinct, dashed_read, files_name, has_flag, is_dashed, is_table, known_by, option_parts, option_read, read, stands, value_of, with_file, with_option}
use Rattle.torx_words.specs.Parsed.{SayRows, app_for}
use Rattle.torx_words.proofs.ParserRules.{app_is, built_app, built_with, filled_files, no_file, option_rule, rules_for, same_text, shape_with, unknown}
use Rattle.torx_words.proofs.ParserRows.{Given, after, all-other, all-with, and_false, and_true, files_after, first-all, fits_rows, has-all, is_new, names_of, none-all, values_for}
use Rattle.torx_words.proofs.ParserSteps.{clear, ended, mid, passes}
use Rattle.torx_words.proofs.ParserWalk.{Says, find-true, known_as, named_apart, or_none}

-- ---- no default is refused, and nothing is required

-- the default of an option is taken
option_default_passes : (n : Text) (valued : Bool) (rows : List Row) → default_fault rows (option_rule (record { name = n; valued = valued })) ≡ []
option_default_passes n true rows = go (has_row n rows)
  where
    go : (b : Bool) → cond (b || true) [] (given_default_fault (option_rule (record { name = n; valued = true })) []) ≡ []
    go true = refl
    go false = refl
option_default_passes n false rows = go (has_row n rows)
  where
    go : (b : Bool) → cond (b || false) [] (given_default_fault (option_rule (record { name = n; valued = false })) (codes "false" ∷ [])) ≡ []
    go true = refl
    go false = refl

-- the files have no default to be refused
file_default_passes : (rows : List Row) → default_fault rows filled_files ≡ []
file_default_passes rows = go (has_row files_name rows)
  where
    go : (b : Bool) → cond (b || true) [] (given_default_fault filled_files []) ≡ []
    go true = refl
    go false = refl

-- no default is refused, whatever stands before
defaults_pass : (known : List Known) (rows : List Row) → defaults_fault rows (rules_for known) ≡ []
unfolding rules_for defaults_fault
defaults_pass [] rows = ap (λ x. or_else x []) (file_default_passes rows)
defaults_pass (k ∷ ks) rows = ap (λ x. or_else x (defaults_fault (with_default rows (option_rule k)) (rules_for ks))) (option_default_passes k.name k.valued rows) ∙ defaults_pass ks (with_default rows (option_rule k))

-- no rule must be given
none_required : (known : List Known) (rows : List Row) → list_any (λ (a : Rule). a.required && not (is_given a.id rows)) (rules_for known) ≡ false
unfolding rules_for
none_required [] rows = refl
none_required (k ∷ ks) rows = none_required ks rows

-- the last check refuses nothing
check_passes : (known : List Known) (rows : List Row) → check_fault (shape_with (rules_for known)) rows false ≡ []
check_passes known rows = rw (none_required known rows) refl

-- ---- defaults

-- the value that a flag gets where it doesn't stand
abbrev pub default_if : Bool → Option (List Text)
default_if b = if b then Some (codes "false" ∷ []) else None

-- what stands is kept where a default is offered
has_some : (o : Option (List Text)) (d : Option (List Text)) → is_some o ≡ true → o ≡ option_or o d
has_some None d e = absurd (true≢false (sym e))
has_some (Some x) d e = refl

-- both ways give the same rows
either : (b : Bool) (rows : List Row) → cond b rows rows ≡ rows
either true rows = refl
either false rows = refl

-- a flag that doesn't stand gets its default, and nothing else changes
flag_default : (n : Text) (rows : List Row) (id : Text) (b c : Bool) → has_row n rows ≡ b → bytes_eq n id ≡ c
    → all_of id (cond b rows (with_values n AsWritten DefaultValue (codes "false" ∷ []) rows)) ≡ option_or (all_of id rows) (default_if c)
flag_default n rows id true true e f =
    let here : has_row id rows ≡ true = subst (λ (x : Text). has_row x rows ≡ true) (same_text n id f) e in
    has_some (all_of id rows) (Some (codes "false" ∷ [])) (sym (has-all id rows) ∙ here)
flag_default n rows id b false e f = go b
  where
    go : (d : Bool) → all_of id (cond d rows (with_values n AsWritten DefaultValue (codes "false" ∷ []) rows)) ≡ option_or (all_of id rows) None
    go true = or_none (all_of id rows)
    go false = all-other n AsWritten DefaultValue (codes "false" ∷ []) id f rows ∙ or_none (all_of id rows)
flag_default n rows id false true e f =
    subst (λ (x : Text). all_of x (with_values n AsWritten DefaultValue (codes "false" ∷ []) rows) ≡ option_or (all_of x rows) (Some (codes "false" ∷ []))) (same_text n id f)
    (all-with n AsWritten DefaultValue (codes "false" ∷ []) rows ∙ ap (λ o. Some (unwrap_or o [] ++ codes "false" ∷ [])) (none-all n rows e) ∙ sym (ap (λ o. option_or o (Some (codes "false" ∷ []))) (none-all n rows e)))

-- what stands after the default of one option
option_default : (n : Text) (valued : Bool) (rows : List Row) (id : Text) → all_of id (with_default rows (option_rule (record { name = n; valued = valued }))) ≡ option_or (all_of id rows) (default_if (not valued && bytes_eq n id))
option_default n true rows id = ap (all_of id) (either (has_row n rows) rows) ∙ or_none (all_of id rows)
option_default n false rows id = flag_default n rows id (has_row n rows) (bytes_eq n id) refl refl

-- two defaults in turn are one, where either is due
or_default : (x : Option (List Text)) (a b : Bool) → option_or (option_or x (default_if a)) (default_if b) ≡ option_or x (default_if (a || b))
or_default (Some x) a b = refl
or_default None true b = refl
or_default None false b = refl

-- what stands once the defaults are added
all_defaults : (known : List Known) (rows : List Row) (id : Text) → all_of id (fold with_default rows (rules_for known)) ≡ option_or (all_of id rows) (default_if (has_flag id known))
unfolding rules_for
all_defaults [] rows id = ap (all_of id) (either (has_row files_name rows) rows) ∙ or_none (all_of id rows)
all_defaults (k ∷ ks) rows id =
    all_defaults ks (with_default rows (option_rule k)) id ∙ ap (λ o. option_or o (default_if (has_flag id ks))) (option_default k.name k.valued rows id)
    ∙ or_default (all_of id rows) (not k.valued && bytes_eq k.name id) (has_flag id ks)

-- ---- what is read is what the command has

-- the option is known, and has a value where it takes one
abbrev pub is_as_known : List Known → Given → Bool
is_as_known known o = option_map_or (λ (k : Known). if k.valued then is_some o.1 else not (is_some o.1)) (known_by o.0 known) false

-- each option of the reading is as the command has it
abbrev pub all_known : List Known → Option Reading → Bool
all_known known None = true
all_known known (Some r) = list_all (is_as_known known) r.options

module _ (known : List Known) where
  -- a choice of two readings is as known where both are
  known_either : (b : Bool) (x y : Option Reading) → all_known known x ≡ true → all_known known y ≡ true → all_known known (cond b x y) ≡ true
  known_either true x y e f = e
  known_either false x y e f = f

  -- a file changes nothing for the options
  known_file : (w : Text) (o : Option Reading) → all_known known o ≡ true → all_known known (option_map (with_file w) o) ≡ true
  known_file w None e = refl
  known_file w (Some r) e = e

  -- one more option, that is as known
  known_option : (n : Text) (v : Option Text) (o : Option Reading) → is_as_known known (n, v) ≡ true → all_known known o ≡ true → all_known known (option_map (with_option n v) o) ≡ true
  known_option n v None here e = refl
  known_option n v (Some r) here e = ap₂ (λ a b. a && b) here e

  -- what is said of the words that follow
  record FollowsKnown (next : Option Text → Option Reading) : Type 0 where
    plain : all_known known (next None) ≡ true
    waits : (n : Text) → known_by n known ≡ Some (record { name = n; valued = true }) → all_known known (next (Some n)) ≡ true

  -- an option of the command is read as known, and what follows it
  known_read : (next : Option Text → Option Reading) → FollowsKnown next → (name n : Text) (valued : Bool) (v : Option Text) → known_by name known ≡ Some (record { name = n; valued = valued })
      → all_known known (option_read (record { name = n; valued = valued }) v next) ≡ true
  known_read next h name n true (Some x) e = known_option n (Some x) (next None) (ap (λ o. option_map_or (λ (k : Known). if k.valued then true else false) o false) (known_as known name (record { name = n; valued = true }) e)) h.plain
  known_read next h name n false (Some x) e = refl
  known_read next h name n true None e = h.waits n (known_as known name (record { name = n; valued = true }) e)
  known_read next h name n false None e = known_option n None (next None) (ap (λ o. option_map_or (λ (k : Known). if k.valued then false else true) o false) (known_as known name (record { name = n; valued = false }) e)) h.plain

  -- a word that begins with `-` is read as known
  known_dashed : (next : Option Text → Option Reading) → FollowsKnown next → (o : Option Given)
      → all_known known (option_and_then (λ (p : Given). option_and_then (λ (k : Known). option_read k p.1 next) (known_by p.0 known)) o) ≡ true
  known_dashed next h None = refl
  known_dashed next h (Some p) = go (known_by p.0 known) refl
    where
      go : (o : Option Known) → known_by p.0 known ≡ o → all_known known (option_and_then (λ (k : Known). option_read k p.1 next) o) ≡ true
      go None e = refl
      go (Some k) e = known_read next h p.0 k.name k.valued p.1 e

  -- the words are read as known, in both states
  reads_known : (words : List Text) → FollowsKnown (read known words)
  unfolding read
  reads_known [] = record { plain = refl; waits = λ n e. refl }
  reads_known (word ∷ words) =
      let h = reads_known words in
      record {
        plain = known_either (bytes_eq word (codes "--")) (Some (record { options = []; files = words })) _ refl
            (known_either (is_dashed word) (dashed_read known word (read known words)) (option_map (with_file word) (read known words None)) (known_dashed (read known words) h (option_parts word))
            (known_file word (read known words None) h.plain));
        waits = λ n e. known_either (is_dashed word) None (option_map (with_option n (Some word)) (read known words None)) refl
            (known_option n (Some word) (read known words None) (ap (λ o. option_map_or (λ (k : Known). if k.valued then true else false) o false) e) h.plain);
      }

  -- what is read of the words is as the command has it
  pub read_known : (words : List Text) → all_known known (read known words None) ≡ true
  read_known words = (reads_known words).plain

-- ---- the table

-- nothing is added to a test by one that fails
or_false : (a : Bool) → (a || false) ≡ a
or_false true = refl
or_false false = refl

-- the first of a name decides where the rest has none
no_more : (t : Bool) (b : Bool) → b ≡ false → ((t && true) || b) ≡ t
no_more t b e = ap (λ x. (t && true) || x) e ∙ or_false (t && true) ∙ and_true t

-- where the names are distinct, what some option of a name is, the first one is
by_name : (t : Known → Bool) (known : List Known) → are_distinct (map (λ (k : Known). k.name) known) ≡ true → (name : Text)
    → list_any (λ (k : Known). t k && bytes_eq k.name name) known ≡ option_map_or t (known_by name known) false
by_name t [] distinct name = refl
by_name t (k ∷ ks) distinct name = go (bytes_eq k.name name) refl (by_name t ks (both _ _ distinct).1 name)
  where
    go : (b : Bool) → bytes_eq k.name name ≡ b → list_any (λ (x : Known). t x && bytes_eq x.name name) ks ≡ option_map_or t (known_by name ks) false
        → ((t k && b) || list_any (λ (x : Known). t x && bytes_eq x.name name) ks) ≡ option_map_or t (cond b (Some k) (known_by name ks)) false
    go true e rest =
        let absent : known_by name ks ≡ None = unknown ks name (subst (λ (x : Text). list_any (bytes_eq x) (map (λ (y : Known). y.name) ks) ≡ false) (same_text k.name name e) (is_false _ (both _ _ distinct).0)) in
        no_more (t k) (list_any (λ (x : Known). t x && bytes_eq x.name name) ks) (rest ∙ ap (λ o. option_map_or t o false) absent)
    go false e rest = ap (λ b. b || list_any (λ (x : Known). t x && bytes_eq x.name name) ks) (and_false (t k)) ∙ rest

-- what is found passes the test that all pass
find-all : {X : Type 0} (t p : X → Bool) (xs : List X) (x : X) → list_all t xs ≡ true → find p xs ≡ Some x → t x ≡ true
find-all t p [] x all e = cc
find-all t p (y ∷ ys) x all e = go (p y) e (find-all t p ys x (both _ _ all).1)
  where
    go : (b : Bool) → cond b (Some y) (find p ys) ≡ Some x → (find p ys ≡ Some x → t x ≡ true) → t x ≡ true
    go true f rest = let same : y ≡ x = cc in subst (λ z. t z ≡ true) same (both (t y) (list_all t ys) all).0
    go false f rest = rest f

-- some element passes exactly where one is found
any-find : {X : Type 0} (p : X → Bool) (xs : List X) → list_any p xs ≡ is_some (find p xs)
any-find p [] = refl
any-find p (x ∷ xs) = go (p x) (any-find p xs)
  where
    go : (b : Bool) → list_any p xs ≡ is_some (find p xs) → (b || list_any p xs) ≡ is_some (cond b (Some x) (find p xs))
    go true e = refl
    go false e = e

-- ---- what the rows say of the reading

-- the first of the values
abbrev first_value : List Text → Option Text
first_value vs = slice_get vs 0

-- the text that the parser keeps for a flag
abbrev is_true_text : Text → Bool
is_true_text text = bytes_eq text (codes "true")

module _ (known : List Known) (table : is_table known ≡ true) (rows : List Row) (r : Reading) (stand : (id : Text) → all_of id rows ≡ after [] r id) (are_known : all_known known (Some r) ≡ true) where
  -- the rows with the defaults added
  abbrev final : List Row
  final = fold with_default rows (rules_for known)

  -- the option that the reading gives under the name
  abbrev given_as : Text → Option Given
  given_as name = find (λ (o : Given). bytes_eq o.0 name) r.options

  -- what stands for a name at the end, with the default of a flag
  stands_at_end : (name : Text) (b : Bool) → has_flag name known ≡ b → all_of name final ≡ option_or (after [] r name) (default_if b)
  stands_at_end name b e = all_defaults known rows name ∙ ap₂ (λ x c. option_or x (default_if c)) (stand name) e

  -- what stands for an option at the end
  option_stands : (name : Text) (k : Known) (b : Bool) → known_by name known ≡ Some k → has_flag name known ≡ b
      → all_of name final ≡ option_or (option_map (λ (o : Given). values_for o.1) (given_as name)) (default_if b)
  option_stands name k b e f =
      let apart : bytes_eq name files_name ≡ false = named_apart known (no_file known table) name k e in
      stands_at_end name b f
      ∙ ap (λ c. option_or (cond c (files_after None r.files) (option_map (λ (o : Given). values_for o.1) (given_as name))) (default_if b)) apart

  -- what is given under the name of an option has a value where the option takes one
  given_kind : (name : Text) (k : Known) (p : Given) → known_by name known ≡ Some k → given_as name ≡ Some p → cond k.valued (is_some p.1) (not (is_some p.1)) ≡ true
  given_kind name k p e f =
      let named : p.0 ≡ name = same_text p.0 name (find-true (λ (o : Given). bytes_eq o.0 name) r.options p f) in
      sym (ap (λ (x : Text). option_map_or (λ (y : Known). if y.valued then is_some p.1 else not (is_some p.1)) (known_by x known) false) named
      ∙ ap (λ o. option_map_or (λ (y : Known). if y.valued then is_some p.1 else not (is_some p.1)) o false) e)
      ∙ find-all (is_as_known known) (λ (o : Given). bytes_eq o.0 name) r.options p are_known f

  -- the options have names of their own
  names_distinct : are_distinct (map (λ (k : Known). k.name) known) ≡ true
  names_distinct = (both _ _ table).1

  -- the rows tell the value of an option
  value_told : (name : Text) (k : Known) → known_by name known ≡ Some k → k.valued ≡ true → first_of name final ≡ value_of name r
  value_told name k e valued =
      let no_flag : has_flag name known ≡ false = by_name (λ (x : Known). not x.valued) known names_distinct name ∙ ap (λ o. option_map_or (λ (x : Known). not x.valued) o false) e ∙ ap not valued in
      first-all name final ∙ ap (option_and_then first_value) (option_stands name k false e no_flag) ∙ go (given_as name) refl
    where
      some : (v : Option Text) → is_some v ≡ true → option_and_then first_value (Some (values_for v)) ≡ v
      some None f = absurd (true≢false (sym f))
      some (Some x) f = refl

      go : (f : Option Given) → given_as name ≡ f → option_and_then first_value (option_or (option_map (λ (o : Given). values_for o.1) f) None) ≡ option_and_then (λ (o : Given). o.1) f
      go None f = refl
      go (Some p) f = some p.1 (sym (ap (λ b. cond b (is_some p.1) (not (is_some p.1))) valued) ∙ given_kind name k p e f)

  -- the rows tell whether a flag stands
  flag_told : (name : Text) (k : Known) → known_by name known ≡ Some k → not k.valued ≡ true → has_flag name known ≡ true → option_map_or is_true_text (first_of name final) false ≡ stands name r
  flag_told name k e flag is =
      ap (λ o. option_map_or is_true_text o false) (first-all name final ∙ ap (option_and_then first_value) (option_stands name k true e is)) ∙ go (given_as name) refl
      ∙ sym (any-find (λ (o : Given). bytes_eq o.0 name) r.options)
    where
      none : (v : Option Text) → not (is_some v) ≡ true → option_map_or is_true_text (option_and_then first_value (Some (values_for v))) false ≡ true
      none None f = refl
      none (Some x) f = absurd (true≢false (sym f))

      go : (f : Option Given) → given_as name ≡ f → option_map_or is_true_text (option_and_then first_value (option_or (option_map (λ (o : Given). values_for o.1) f) (default_if true))) false ≡ is_some f
      go None f = refl
      go (Some p) f = none p.1 (sym (ap (λ b. cond b (is_some p.1) (not (is_some p.1))) (is_false _ flag)) ∙ given_kind name k p e f)

  -- the rows tell the files
  files_told : unwrap_or (all_of files_name final) [] ≡ r.files
  files_told =
      let no_flag : has_flag files_name known ≡ false = by_name (λ (x : Known). not x.valued) known names_distinct files_name ∙ ap (λ o. option_map_or (λ (x : Known). not x.valued) o false) (no_file known table) in
      ap (λ o. unwrap_or o []) (stands_at_end files_name false no_flag) ∙ go r.files
    where
      go : (fs : List Text) → unwrap_or (option_or (files_after None fs) None) [] ≡ fs
      go [] = refl
      go (f ∷ fs) = refl

  -- the option that a test finds
  tested_option : (t : Known → Bool) (o : Option Known) → option_map_or t o false ≡ true → (k : Known) × (o ≡ Some k) × (t k ≡ true)
  tested_option t None e = absurd (true≢false (sym e))
  tested_option t (Some k) e = (k, refl, e)

  -- the rows at the end say what the reading gives
  pub rows_say : SayRows known final r
  rows_say = record {
    values = λ name is.
        let (k, e, valued) = tested_option (λ (x : Known). x.valued) (known_by name known) (sym (by_name (λ (x : Known). x.valued) known names_distinct name) ∙ is) in
        value_told name k e valued;
    flags = λ name is.
        let (k, e, flag) = tested_option (λ (x : Known). not x.valued) (known_by name known) (sym (by_name (λ (x : Known). not x.valued) known names_distinct name) ∙ is) in
        flag_told name k e flag is;
    files = files_told;
  }

-- ---- where the words are refused

-- the defaults and the last check refuse nothing
level_clear : (a b c d : Kinds) → c ≡ [] → d ≡ [] → clear (or_else a (or_else b (or_else c d))) ≡ clear (or_else a b)
level_clear a b c d e f = ap₂ (λ x y. clear (or_else a (or_else b (or_else x y)))) e f ∙ go a b
  where
    go : (x y : Kinds) → clear (or_else x (or_else y [])) ≡ clear (or_else x y)
    go [] [] = refl
    go [] (k ∷ ks) = refl
    go (k ∷ ks) y = refl

-- where a command builds to these rules, its words are refused as the walk is, or as what is pending at its end
pub fault_at : (a : App) (known : List Known) (words : List Text) → built a ≡ built_with (rules_for known) → argument_words a words ≡ words → clear (fault_of a words) ≡ passes (rules_for known) (mid [] None idle false) words
unfolding passes
fault_at a known words is given =
    let rules = rules_for known in
    let end = (walk rules [] nothing_held words).held in
    ap₂ (λ (b : App) ws. clear (built_fault b nothing_held ws)) is given ∙ ap clear (leaf_fault (built_with rules) nothing_held words refl)
    ∙ level_clear (walk_fault (shape_with rules) [] (walk_from nothing_held) words) (settle_fault rules false end) (defaults_fault (settled rules end).rows rules) (check_fault (shape_with rules) (finished rules end) false)
    (defaults_pass known (settled rules end).rows) (check_passes known (finished rules end))

-- where a command builds to these rules, its matches are the rows at the end with the defaults added
pub matches_at : (a : App) (known : List Known) (words : List Text) → built a ≡ built_with (rules_for known) → argument_words a words ≡ words
    → matches_of a words ≡ fold with_default (ended (rules_for known) (mid [] None idle false) words) (rules_for known)
unfolding ended
matches_at a known words is given = ap₂ (λ (b : App) ws. rows_after b.top.rules (names_of_app b) ws) is given

-- what the parser's command is once it is built
pub built_is : (known : List Known) → built (app_for known) ≡ built_with (rules_for known)
built_is known = ap built (app_is known) ∙ built_app known

-- all the words are read, the first one too
pub words_are : (known : List Known) (words : List Text) → argument_words (app_for known) words ≡ words
words_are known words = ap (λ a. argument_words a words) (app_is known)

-- at the start no option stands
all_new : (os : List Given) → list_all (is_new []) os ≡ true
all_new [] = refl
all_new (o ∷ os) = go (bytes_eq o.0 files_name) (all_new os)
  where
    go : (b : Bool) → list_all (is_new []) os ≡ true → ((b || true) && list_all (is_new []) os) ≡ true
    go true e = e
    go false e = e

-- where nothing is refused, no kind is left
is_clear : (ks : Kinds) → clear ks ≡ true → ks ≡ []
is_clear [] e = refl
is_clear (k ∷ ks) e = absurd (true≢false (sym e))

-- where something is refused, some kind is left
not_clear : (ks : Kinds) → clear ks ≡ false → ks ≡ [] → ⊥
not_clear ks e none = true≢false (sym (ap clear none) ∙ e)

-- the words are refused where they have no reading without repeats, and else the rows say it
pub said : (known : List Known) (o : Option Reading) (ks : Kinds) (rows : List Row) → clear ks ≡ fits_rows [] o → ((r : Reading) → o ≡ Some r → fits_rows [] (Some r) ≡ true → SayRows known rows r)
    → MatchOption (option_and_then (λ (r : Reading). if are_distinct (names_of r.options) then Some r else None) o) (ks ≡ [] → ⊥) (λ r. (ks ≡ []) × SayRows known rows r)
said known None ks rows e say = not_clear ks e
said known (Some r) ks rows e say = go (are_distinct (names_of r.options)) refl
  where
    fits : (b : Bool) → are_distinct (names_of r.options) ≡ b → fits_rows [] (Some r) ≡ b
    fits b is = ap₂ (λ x y. x && y) (all_new r.options) is

    go : (b : Bool) → are_distinct (names_of r.options) ≡ b → MatchOption (if b then Some r else None) (ks ≡ [] → ⊥) (λ r. (ks ≡ []) × SayRows known rows r)
    go true is = (is_clear ks (e ∙ fits true is), say r refl (fits true is))
    go false is = not_clear ks (e ∙ fits false is)

-- the rows at the end say what is read
pub read_says : (known : List Known) (words : List Text) → is_table known ≡ true → (o : Option Reading) → all_known known o ≡ true → Says (rules_for known) (mid [] None idle false) words true [] o
    → (r : Reading) → o ≡ Some r → fits_rows [] (Some r) ≡ true → SayRows known (fold with_default (ended (rules_for known) (mid [] None idle false) words) (rules_for known)) r
read_says known words table None are_known s r e fits = cc
read_says known words table (Some x) are_known s r e fits =
    let same : x ≡ r = cc in
    subst (λ y. SayRows known (fold with_default (ended (rules_for known) (mid [] None idle false) words) (rules_for known)) y) same
    (rows_say known table (ended (rules_for known) (mid [] None idle false) words) x (s.ending refl (subst (λ y. fits_rows [] (Some y) ≡ true) (sym same) fits)) are_known)
