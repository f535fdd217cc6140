-- What one word does to the parser's walk.
use Rattle.std.proofs.Common.{◌≡◌, ◌∙◌, ◌&&◌, ◌||◌, ℕ, Bool, cond, true, false, not, refl, sym, ap, ap₂, List, [], ◌∷◌, length, Option, Some, None, true≢false}
use Rattle.std.specs.Prelude.{slice_get, nat_lt, codes, drop, encode_utf8}
use Rattle.std.specs.List.{fold}
use Rattle.std.specs.Option.{option_map_or}
use Rattle.std.specs.Str.{bytes_eq, chars}
use Rattle.clap.specs.Lexer.{long_of, short_of}
use Rattle.clap.specs.Walk.{Held, Row, Rule, Step, Text, Waiting, Walk, after_flag, after_step, arg_by_id, arg_by_index, arg_by_long, arg_by_short, has_row, idle, is_pending, long_met, option, option_word, plain_word, positional, pushed, next, settled, settled_rows, subcommand_met, to_positional, trailing, value, walked, with_values, without, word_met}
use Rattle.clap.specs.Kinds.{Kinds, or_else}
use Rattle.clap.specs.Faults.{flags_fault, bundle_step_fault, long_fault, positional_fault, settle_fault, short_fault, step_fault, stray_fault, turn_fault, walk_fault, word_fault}
use Rattle.clap.specs.declared.builder.value_parser.Reading.TheVariants.{AsWritten}
use Rattle.clap.specs.declared.parser.matches.ValueSource.TheVariants.{CommandLine}
use Rattle.clap.specs.declared.error.kind.ErrorKind.TheVariants as kind
use Rattle.torx_words.specs.Form.{files_name}
use Rattle.torx_words.proofs.ParserRules.{eq-refl, filled_files, option_rule, shape_with}
use Rattle.torx_words.proofs.ParserRows.{and_false, and_true}
use Rattle.torx_words.proofs.ParserWords.{divider_word}

-- the argument that waits to be used, with its values so far
abbrev pub Pending : Type 0
Pending = Option (Text × List Text)

-- what is held between two words
abbrev pub held : List Row → Pending → Held
held rows pending = record { rows = rows; pending = pending; skip = 0 }

-- the walk between two words
abbrev pub mid : List Row → Pending → Waiting → Bool → Walk
mid rows pending v t = record { held = held rows pending; waiting = v; position = 1; is_trailing = t; stopped = None }

-- the walk after a file
abbrev filed_walk : Held → Bool → Walk
filed_walk h t = record { held = h; waiting = positional; position = 1; is_trailing = t; stopped = None }

-- the step at a long option, by the rule that is found
abbrev long_found_in : List Rule → Waiting → Text → Option Text → Held → Option Rule → Held × Step
long_found_in rules v word given h o = after_flag rules v word (long_met rules o given h).0 (long_met rules o given h).1

-- nothing is refused
abbrev pub clear : Kinds → Bool
clear [] = true
clear (k ∷ ks) = false

-- the pending use passes
abbrev pub settles : List Rule → List Row → Pending → Bool
settles rules rows pending = clear (settle_fault rules false (held rows pending))

-- no option waits for its value
abbrev pub is_quiet : Waiting → Bool
is_quiet idle = true
is_quiet (option id) = false
is_quiet positional = true

-- the rows after a use of the option with these values, and after a file
abbrev pub put : Text → List Text → List Row → List Row
put n values rows = with_values n AsWritten CommandLine values (without n rows)

-- the rows after a file
abbrev pub put_file : Text → List Row → List Row
put_file w rows = with_values files_name AsWritten CommandLine (w ∷ []) rows

-- the rule of an option of this name with a value
abbrev pub valued_rule : Text → Rule
valued_rule n = option_rule (record { name = n; valued = true })

-- the rule of a flag of this name
abbrev pub flag_rule : Text → Rule
flag_rule n = option_rule (record { name = n; valued = false })

-- the word passes, and the walk after it
pub turn : List Rule → Walk → Text → Bool
turn rules w word = clear (turn_fault (shape_with rules) [] w word)

-- the walk after the word
pub moved : List Rule → Walk → Text → Walk
moved rules w word = walked rules [] w word

-- the words pass to the end, and the rows there
unfoldable pub passes : List Rule → Walk → List Text → Bool
passes rules w words = clear (or_else (walk_fault (shape_with rules) [] w words) (settle_fault rules false (fold (walked rules []) w words).held))

-- the rows at the end of the words, with what is pending used
unfoldable pub ended : List Rule → Walk → List Text → List Row
ended rules w words = (settled rules (fold (walked rules []) w words).held).rows

-- two steps refuse nothing where neither does
pub clear-or_else : (a b : Kinds) → clear (or_else a b) ≡ (clear a && clear b)
clear-or_else [] b = refl
clear-or_else (k ∷ ks) b = refl

-- the first of three steps, and the two behind it
or_else_assoc : (a b c : Kinds) → clear (or_else (or_else a b) c) ≡ (clear a && clear (or_else b c))
or_else_assoc [] b c = refl
or_else_assoc (k ∷ ks) b c = refl

-- at the end what is pending is used
pub passes-end : (rules : List Rule) (rows : List Row) (pending : Pending) (v : Waiting) (t : Bool) → passes rules (mid rows pending v t) [] ≡ settles rules rows pending
unfolding passes walk_fault
passes-end rules rows pending v t = refl

-- the rows at the end of no words
pub ended-end : (rules : List Rule) (rows : List Row) (pending : Pending) (v : Waiting) (t : Bool) → ended rules (mid rows pending v t) [] ≡ settled_rows rules pending rows
unfolding ended
ended-end rules rows pending v t = refl

-- the word passes, and then the rest
pub passes-next : (rules : List Rule) (w : Walk) (word : Text) (words : List Text) → passes rules w (word ∷ words) ≡ (turn rules w word && passes rules (moved rules w word) words)
unfolding passes turn moved walk_fault
passes-next rules w word words = or_else_assoc (turn_fault (shape_with rules) [] w word) (walk_fault (shape_with rules) [] (walked rules [] w word) words) (settle_fault rules false (fold (walked rules []) (walked rules [] w word) words).held)

-- the rows at the end are those at the end of the rest
pub ended-next : (rules : List Rule) (w : Walk) (word : Text) (words : List Text) → ended rules w (word ∷ words) ≡ ended rules (moved rules w word) words
unfolding ended moved
ended-next rules w word words = refl

-- ---- what is pending

-- no word names a subcommand
no_subcommand : (v : Waiting) (word : Text) → subcommand_met [] v word ≡ None
no_subcommand idle word = refl
no_subcommand (option id) word = refl
no_subcommand positional word = refl

module _ (rules : List Rule) where
  -- a file that is pending passes
  pub settles-file : (rows : List Row) (w : Text) → arg_by_id rules files_name ≡ Some filled_files → settles rules rows (Some (files_name, w ∷ [])) ≡ true
  settles-file rows w file = rw file refl

  -- the rows once a pending file is used
  pub settled-file : (rows : List Row) (w : Text) → arg_by_id rules files_name ≡ Some filled_files → settled_rows rules (Some (files_name, w ∷ [])) rows ≡ put_file w rows
  settled-file rows w file = rw file refl

  -- a pending option with its value passes where it doesn't stand
  pub settles-value : (rows : List Row) (n w : Text) → arg_by_id rules n ≡ Some (valued_rule n) → settles rules rows (Some (n, w ∷ [])) ≡ not (has_row n rows)
  settles-value rows n w own = rw own (once (has_row n rows))
    where
      once : (b : Bool) → clear (or_else (cond (b && true) (kind.ArgumentConflict ∷ []) []) []) ≡ not b
      once true = refl
      once false = refl

  -- the rows once a pending option with its value is used
  pub settled-value : (rows : List Row) (n w : Text) → arg_by_id rules n ≡ Some (valued_rule n) → settled_rows rules (Some (n, w ∷ [])) rows ≡ put n (w ∷ []) rows
  settled-value rows n w own = rw own refl

  -- an option with no value is refused
  pub settles-bare : (rows : List Row) (n : Text) → arg_by_id rules n ≡ Some (valued_rule n) → settles rules rows (Some (n, [])) ≡ false
  settles-bare rows n own = rw own refl

  -- ---- one word

  -- whether a word passes, by what it is met as
  turn-from : (rows : List Row) (p : Pending) (v : Waiting) (t : Bool) (word : Text) (fault : Kinds) (met : Held × Step)
      → word_fault (shape_with rules) [] t v word (held rows p) ≡ fault → word_met rules [] t v 1 word (held rows p) ≡ met
      → turn rules (mid rows p v t) word ≡ clear (or_else fault (step_fault (shape_with rules) 1 met.0 met.1))
  unfolding turn
  turn-from rows p v t word fault met a b = ap₂ (λ x (m : Held × Step). clear (or_else x (step_fault (shape_with rules) 1 m.0 m.1))) a b

  -- the walk after a word, by what it is met as
  moved-from : (rows : List Row) (p : Pending) (v : Waiting) (t : Bool) (word : Text) (met : Held × Step) → word_met rules [] t v 1 word (held rows p) ≡ met
      → moved rules (mid rows p v t) word ≡ after_step rules word (mid rows p v t) met.0 met.1
  unfolding moved walked
  moved-from rows p v t word met b = ap (λ (m : Held × Step). after_step rules word (mid rows p v t) m.0 m.1) b

  -- a value goes to the files
  value_passes : (rows : List Row) (p : Pending) → arg_by_index rules 1 ≡ Some filled_files → clear (step_fault (shape_with rules) 1 (held rows p) value) ≡ settles rules rows p
  value_passes rows p place =
      ap (λ o. clear (option_map_or (λ a. positional_fault rules false a (held rows p)) o (stray_fault (shape_with rules)))) place
      ∙ ap (λ b. clear (cond b [] (settle_fault rules false (held rows p)))) (and_false (is_pending filled_files p))

  -- the walk after a value that goes to the files
  value_moves : (rows : List Row) (p : Pending) (v : Waiting) (t : Bool) (word : Text) → arg_by_index rules 1 ≡ Some filled_files
      → after_step rules word (mid rows p v t) (held rows p) value ≡ mid (settled_rows rules p rows) (Some (files_name, word ∷ [])) positional (t || false)
  value_moves rows p v t word place =
      ap (λ o. to_positional rules o word (mid rows p v t) (held rows p)) place
      ∙ ap (λ b. filed_walk (pushed files_name word (cond b (held rows p) (settled rules (held rows p)))) (t || false)) (and_false (is_pending filled_files p))

  -- after `--` each word is a file
  pub turn-trailing : (rows : List Row) (p : Pending) (v : Waiting) (word : Text) → arg_by_index rules 1 ≡ Some filled_files → turn rules (mid rows p v true) word ≡ settles rules rows p
  turn-trailing rows p v word place = turn-from rows p v true word [] (held rows p, value) refl refl ∙ value_passes rows p place

  -- the walk after it holds the file as pending
  pub moved-trailing : (rows : List Row) (p : Pending) (v : Waiting) (word : Text) → arg_by_index rules 1 ≡ Some filled_files
      → moved rules (mid rows p v true) word ≡ mid (settled_rows rules p rows) (Some (files_name, word ∷ [])) positional true
  moved-trailing rows p v word place = moved-from rows p v true word (held rows p, value) refl ∙ value_moves rows p v true word place

  -- a word that is no flag, while no option waits for its value
  module _ (rows : List Row) (p : Pending) (v : Waiting) (word : Text) (apart : bytes_eq word divider_word ≡ false) (not_long : long_of word ≡ None) (not_short : short_of word ≡ None) where
    -- such a word is never refused itself
    plain_fault : word_fault (shape_with rules) [] false v word (held rows p) ≡ []
    plain_fault = rw (no_subcommand v word, apart, not_long, not_short) refl

    -- it is met as a plain word
    plain_met : word_met rules [] false v 1 word (held rows p) ≡ plain_word rules v word (held rows p)
    plain_met = rw (no_subcommand v word, apart, not_long, not_short) refl

    -- it is a value where no option waits
    quiet_met : is_quiet v ≡ true → word_met rules [] false v 1 word (held rows p) ≡ (held rows p, value)
    quiet_met quiet = plain_met ∙ go v quiet
      where
        go : (u : Waiting) → is_quiet u ≡ true → plain_word rules u word (held rows p) ≡ (held rows p, value)
        go idle q = refl
        go (option id) q = absurd (true≢false (sym q))
        go positional q = refl

    -- it passes as a file where what is pending passes
    pub turn-file : is_quiet v ≡ true → arg_by_index rules 1 ≡ Some filled_files → turn rules (mid rows p v false) word ≡ settles rules rows p
    turn-file quiet place = turn-from rows p v false word [] (held rows p, value) plain_fault (quiet_met quiet) ∙ value_passes rows p place

    -- the walk after it holds it as a pending file
    pub moved-file : is_quiet v ≡ true → arg_by_index rules 1 ≡ Some filled_files → moved rules (mid rows p v false) word ≡ mid (settled_rows rules p rows) (Some (files_name, word ∷ [])) positional false
    moved-file quiet place = moved-from rows p v false word (held rows p, value) (quiet_met quiet) ∙ value_moves rows p v false word place

  -- a word that is no flag, while an option waits for its value
  module _ (rows : List Row) (n word : Text) (apart : bytes_eq word divider_word ≡ false) (not_long : long_of word ≡ None) (not_short : short_of word ≡ None) (own : arg_by_id rules n ≡ Some (valued_rule n)) where
    -- it is met as the value of the option
    value_met : word_met rules [] false (option n) 1 word (held rows (Some (n, []))) ≡ (held rows (Some (n, word ∷ [])), next idle)
    value_met =
        plain_met rows (Some (n, [])) (option n) word apart not_long not_short
        ∙ ap (λ o. ((option_word o n word (held rows (Some (n, [])))).0, next (option_word o n word (held rows (Some (n, [])))).1)) own
        ∙ ap (λ b. (held rows (Some (n, word ∷ [])), next (cond (nat_lt (cond b 1 0) 1) (option n) idle))) (eq-refl n)

    -- it passes
    pub turn-value : turn rules (mid rows (Some (n, [])) (option n) false) word ≡ true
    turn-value = turn-from rows (Some (n, [])) (option n) false word [] (held rows (Some (n, word ∷ [])), next idle) (plain_fault rows (Some (n, [])) (option n) word apart not_long not_short) value_met

    -- the walk after it holds the option with its value as pending
    pub moved-value : moved rules (mid rows (Some (n, [])) (option n) false) word ≡ mid rows (Some (n, word ∷ [])) idle false
    moved-value = moved-from rows (Some (n, [])) (option n) false word (held rows (Some (n, word ∷ [])), next idle) value_met

  -- `--`
  module _ (rows : List Row) (p : Pending) (v : Waiting) (word : Text) (is : bytes_eq word divider_word ≡ true) where
    -- it is met as the end of the options
    divider_met : word_met rules [] false v 1 word (held rows p) ≡ (held rows p, trailing 1)
    divider_met = rw (no_subcommand v word, is) refl

    -- it is not refused
    divider_fault : word_fault (shape_with rules) [] false v word (held rows p) ≡ []
    divider_fault = rw (no_subcommand v word, is) refl

    -- it passes
    pub turn-divider : turn rules (mid rows p v false) word ≡ true
    turn-divider = turn-from rows p v false word [] (held rows p, trailing 1) divider_fault divider_met

    -- after it each word is a file
    pub moved-divider : moved rules (mid rows p v false) word ≡ mid rows p v true
    moved-divider = moved-from rows p v false word (held rows p, trailing 1) divider_met

  -- a long option
  module _ (rows : List Row) (p : Pending) (v : Waiting) (word name : Text) (given : Option Text) (apart : bytes_eq word divider_word ≡ false) (is : long_of word ≡ Some (name, given)) where
    -- it is refused as its rule says
    long_fault_is : (o : Option Rule) → arg_by_long rules name ≡ o → word_fault (shape_with rules) [] false v word (held rows p) ≡ long_fault rules false o given (held rows p)
    long_fault_is o found = rw (no_subcommand v word, apart, is, found) refl

    -- it is met as its rule says
    long_met_is : (o : Option Rule) → arg_by_long rules name ≡ o → word_met rules [] false v 1 word (held rows p) ≡ long_found_in rules v word given (held rows p) o
    long_met_is o found = rw (no_subcommand v word, apart, is, found) refl

    -- one that the command doesn't have
    pub turn-unknown : arg_by_long rules name ≡ None → turn rules (mid rows p v false) word ≡ false
    turn-unknown found = turn-from rows p v false word (kind.UnknownArgument ∷ []) (word_met rules [] false v 1 word (held rows p)) (long_fault_is None found) refl

  -- a use that passes where the pending one does and the option doesn't stand
  used_once : (ks : Kinds) (b : Bool) → clear (or_else (or_else ks (or_else (cond (b && true) (kind.ArgumentConflict ∷ []) []) [])) []) ≡ (clear ks && not b)
  used_once [] true = refl
  used_once [] false = refl
  used_once (k ∷ ks) b = refl

  module _ (rows : List Row) (p : Pending) (v : Waiting) (word name n : Text) (apart : bytes_eq word divider_word ≡ false) where
    -- `--NAME=VALUE`
    module _ (x : Text) (is : long_of word ≡ Some (name, Some x)) where
      -- an option with its value passes where what is pending does and it doesn't stand
      pub turn-given : arg_by_long rules name ≡ Some (valued_rule n) → turn rules (mid rows p v false) word ≡ (settles rules rows p && not (has_row n (settled_rows rules p rows)))
      turn-given found =
          turn-from rows p v false word (long_fault rules false (Some (valued_rule n)) (Some x) (held rows p)) (long_found_in rules v word (Some x) (held rows p) (Some (valued_rule n)))
          (long_fault_is rows p v word name (Some x) apart is (Some (valued_rule n)) found) (long_met_is rows p v word name (Some x) apart is (Some (valued_rule n)) found)
          ∙ used_once (settle_fault rules false (held rows p)) (has_row n (settled_rows rules p rows))

      -- the walk after it has the value in its rows
      pub moved-given : arg_by_long rules name ≡ Some (valued_rule n) → moved rules (mid rows p v false) word ≡ mid (put n (x ∷ []) (settled_rows rules p rows)) None idle false
      moved-given found = moved-from rows p v false word (long_found_in rules v word (Some x) (held rows p) (Some (valued_rule n))) (long_met_is rows p v word name (Some x) apart is (Some (valued_rule n)) found)

      -- a value for a flag
      pub turn-unneeded : arg_by_long rules name ≡ Some (flag_rule n) → turn rules (mid rows p v false) word ≡ false
      turn-unneeded found =
          turn-from rows p v false word (long_fault rules false (Some (flag_rule n)) (Some x) (held rows p)) (long_found_in rules v word (Some x) (held rows p) (Some (flag_rule n)))
          (long_fault_is rows p v word name (Some x) apart is (Some (flag_rule n)) found) (long_met_is rows p v word name (Some x) apart is (Some (flag_rule n)) found)

    -- `--NAME`
    module _ (is : long_of word ≡ Some (name, None)) where
      -- a flag passes where what is pending does and it doesn't stand
      pub turn-flag : arg_by_long rules name ≡ Some (flag_rule n) → turn rules (mid rows p v false) word ≡ (settles rules rows p && not (has_row n (settled_rows rules p rows)))
      turn-flag found =
          turn-from rows p v false word (long_fault rules false (Some (flag_rule n)) None (held rows p)) (long_found_in rules v word None (held rows p) (Some (flag_rule n)))
          (long_fault_is rows p v word name None apart is (Some (flag_rule n)) found) (long_met_is rows p v word name None apart is (Some (flag_rule n)) found)
          ∙ used_once (settle_fault rules false (held rows p)) (has_row n (settled_rows rules p rows))

      -- the walk after it has the flag in its rows
      pub moved-flag : arg_by_long rules name ≡ Some (flag_rule n) → moved rules (mid rows p v false) word ≡ mid (put n (codes "true" ∷ []) (settled_rows rules p rows)) None idle false
      moved-flag found = moved-from rows p v false word (long_found_in rules v word None (held rows p) (Some (flag_rule n))) (long_met_is rows p v word name None apart is (Some (flag_rule n)) found)

      -- an option without its value passes where what is pending does
      pub turn-waits : arg_by_long rules name ≡ Some (valued_rule n) → turn rules (mid rows p v false) word ≡ settles rules rows p
      turn-waits found =
          turn-from rows p v false word (long_fault rules false (Some (valued_rule n)) None (held rows p)) (long_found_in rules v word None (held rows p) (Some (valued_rule n)))
          (long_fault_is rows p v word name None apart is (Some (valued_rule n)) found) (long_met_is rows p v word name None apart is (Some (valued_rule n)) found)
          ∙ clear-or_else (settle_fault rules false (held rows p)) [] ∙ and_true (settles rules rows p)

      -- the walk after it waits for the value
      pub moved-waits : arg_by_long rules name ≡ Some (valued_rule n) → moved rules (mid rows p v false) word ≡ mid (settled_rows rules p rows) (Some (n, [])) (option n) false
      moved-waits found = moved-from rows p v false word (long_found_in rules v word None (held rows p) (Some (valued_rule n))) (long_met_is rows p v word name None apart is (Some (valued_rule n)) found)

  -- short flags, of which the command has none
  module _ (rows : List Row) (p : Pending) (v : Waiting) (word : Text) (c : ℕ) (rest : Text) (x : ℕ) (apart : bytes_eq word divider_word ≡ false) (not_long : long_of word ≡ None)
      (is : short_of word ≡ Some (c ∷ rest)) (first : slice_get (chars (c ∷ rest)) 0 ≡ Some x) (none : arg_by_short rules x ≡ None) where
    -- the first of the flags is refused
    flags_refused : flags_fault rules false (length (c ∷ rest)) (c ∷ rest) 0 (held rows p) ≡ kind.UnknownArgument ∷ []
    unfolding flags_fault
    flags_refused =
        ap (λ o. bundle_step_fault rules false o (c ∷ rest) 0 (held rows p) (flags_fault rules false (length rest))) first
        ∙ ap (λ o. short_fault rules false o (drop (length (encode_utf8 x)) (c ∷ rest)) (held rows p) (flags_fault rules false (length rest) (drop (length (encode_utf8 x)) (c ∷ rest)) 0)) none

    -- the word is refused as its flags are
    short_fault_is : word_fault (shape_with rules) [] false v word (held rows p) ≡ kind.UnknownArgument ∷ []
    short_fault_is = rw (no_subcommand v word, apart, not_long, is) flags_refused

    -- such a word doesn't pass
    pub turn-short : turn rules (mid rows p v false) word ≡ false
    turn-short = turn-from rows p v false word (kind.UnknownArgument ∷ []) (word_met rules [] false v 1 word (held rows p)) short_fault_is refl
