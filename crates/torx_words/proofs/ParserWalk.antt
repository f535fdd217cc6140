-- The walk over all the words: it passes exactly where the words are read and no option stands twice, and its rows hold what is read.
use Rattle.std.proofs.Common.{◌≡◌, ◌∙◌, ◌&&◌, Bool, cond, true, false, not, suc, refl, sym, ap, ap₂, subst, subst₂, arith, List, [], ◌∷◌, Option, Some, None, option_map}
use Rattle.std.specs.Prelude.{option_and_then, codes}
use Rattle.std.specs.List.{All, find}
use Rattle.std.specs.Option.{option_or}
use Rattle.std.specs.Str.{IsUtf8, bytes_eq}
use Rattle.clap.specs.Lexer.{long_of}
use Rattle.clap.specs.Walk.{Row, Rule, Text, Waiting, Walk, all_of, arg_by_id, arg_by_long, has_row, idle, option, positional, settled_rows}
use Rattle.clap.specs.declared.builder.value_parser.Reading.TheVariants.{AsWritten}
use Rattle.clap.specs.declared.parser.matches.ValueSource.TheVariants.{CommandLine}
use Rattle.clap.proofs.WalkLemmas.{both}
use Rattle.clap.proofs.SimpleLemmas.{is_false}
use Rattle.torx_words.specs.Form.{Known, Reading, files_name, is_dashed, known_by, option_parts, option_read, read, with_file, with_option}
use Rattle.torx_words.proofs.ParserRules.{IsRules, option_rule, same_text}
use Rattle.torx_words.proofs.ParserWords.{WordIs, divider, divider_word, long_option, plain_text, short_flags, word_is}
use Rattle.torx_words.proofs.ParserRows.{after, after-file, after-option, and_assoc, and_false, and_true, fits-file, fits-option, fits_rows, values_for}
use Rattle.torx_words.proofs.ParserSteps.{ended, ended-end, ended-next, is_quiet, mid, moved, moved-divider, moved-file, moved-flag, moved-given, moved-trailing, moved-value, moved-waits, passes, passes-end, passes-next, Pending, put, put_file, settled-file, settled-value, settles, settles-bare, settles-file, settles-value, turn, turn-divider, turn-file, turn-flag, turn-given, turn-short, turn-trailing, turn-unknown, turn-unneeded, turn-value, turn-waits, valued_rule}

-- the rows at the end hold what stood before and what was read
abbrev pub Ending : List Rule → Walk → List Text → Bool → List Row → Option Reading → Type 0
Ending rules w words ok rows None = Unit {0}
Ending rules w words ok rows (Some r) = ok ≡ true → fits_rows rows (Some r) ≡ true → (id : Text) → all_of id (ended rules w words) ≡ after rows r id

-- from here the walk says what the reading says
pub record Says (rules : List Rule) (w : Walk) (words : List Text) (ok : Bool) (rows : List Row) (o : Option Reading) : Type 0 where
  pub passing : passes rules w words ≡ (ok && fits_rows rows o)
  pub ending : Ending rules w words ok rows o

-- nothing is added by an option that is none
pub or_none : {X : Type 0} (o : Option X) → o ≡ option_or o None
or_none None = refl
or_none (Some x) = refl

-- where nothing is read, what stood before stands
nothing_after : (rows : List Row) (id : Text) → all_of id rows ≡ after rows (record { options = []; files = [] }) id
nothing_after rows id = go (bytes_eq id files_name)
  where
    go : (b : Bool) → all_of id rows ≡ cond b (all_of id rows) (option_or (all_of id rows) None)
    go true = refl
    go false = or_none (all_of id rows)

module _ (rules : List Rule) where
  -- at the end of the words
  says-end : (rows : List Row) (p : Pending) (v : Waiting) (t : Bool) → Says rules (mid rows p v t) [] (settles rules rows p) (settled_rows rules p rows) (Some (record { options = []; files = [] }))
  says-end rows p v t = record {
    passing = passes-end rules rows p v t ∙ sym (and_true (settles rules rows p));
    ending = λ ok fits id. ap (all_of id) (ended-end rules rows p v t) ∙ nothing_after (settled_rows rules p rows) id;
  }

  module _ (w after_it : Walk) (word : Text) (words : List Text) where
    -- a word that is refused
    refused : (ok : Bool) (rows : List Row) → turn rules w word ≡ false → Says rules w (word ∷ words) ok rows None
    refused ok rows e = record { passing = passes-next rules w word words ∙ ap (λ t. t && passes rules (moved rules w word) words) e ∙ sym (and_false ok); ending = tt }

    -- the words pass where the word does and the rest passes behind it
    passes_on : (t : Bool) → turn rules w word ≡ t → moved rules w word ≡ after_it → passes rules w (word ∷ words) ≡ (t && passes rules after_it words)
    passes_on t e m = passes-next rules w word words ∙ ap₂ (λ a b. a && passes rules b words) e m

    -- what stands at the end is what stands at the end of the rest
    ends_on : moved rules w word ≡ after_it → (id : Text) → all_of id (ended rules w (word ∷ words)) ≡ all_of id (ended rules after_it words)
    ends_on m id = ap (all_of id) (ended-next rules w word words ∙ ap (λ b. ended rules b words) m)

    -- a word that is a file
    file_step : (ok : Bool) (rows : List Row) (o : Option Reading) → turn rules w word ≡ ok → moved rules w word ≡ after_it → Says rules after_it words true (put_file word rows) o
        → Says rules w (word ∷ words) ok rows (option_map (with_file word) o)
    file_step ok rows o e m s = record {
      passing = passes_on ok e m ∙ ap (λ b. ok && b) (s.passing ∙ fits-file AsWritten CommandLine word rows o);
      ending = go o s.ending;
    }
      where
        go : (x : Option Reading) → Ending rules after_it words true (put_file word rows) x → Ending rules w (word ∷ words) ok rows (option_map (with_file word) x)
        go None h = tt
        go (Some r) h = λ good fits id. ends_on m id ∙ h refl (fits-file AsWritten CommandLine word rows (Some r) ∙ fits) id ∙ after-file AsWritten CommandLine word rows r id

    -- a word that ends nothing and gives nothing
    skip_step : (ok : Bool) (rows : List Row) (o : Option Reading) → turn rules w word ≡ true → moved rules w word ≡ after_it → Says rules after_it words ok rows o → Says rules w (word ∷ words) ok rows o
    skip_step ok rows o e m s = record { passing = passes_on true e m ∙ s.passing; ending = go o s.ending }
      where
        go : (x : Option Reading) → Ending rules after_it words ok rows x → Ending rules w (word ∷ words) ok rows x
        go None h = tt
        go (Some r) h = λ good fits id. ends_on m id ∙ h good fits id

    -- an option that waits for its value
    wait_step : (ok : Bool) (rows : List Row) (o : Option Reading) → turn rules w word ≡ ok → moved rules w word ≡ after_it → Says rules after_it words true rows o → Says rules w (word ∷ words) ok rows o
    wait_step ok rows o e m s = record { passing = passes_on ok e m ∙ ap (λ b. ok && b) s.passing; ending = go o s.ending }
      where
        go : (x : Option Reading) → Ending rules after_it words true rows x → Ending rules w (word ∷ words) ok rows x
        go None h = tt
        go (Some r) h = λ good fits id. ends_on m id ∙ h refl fits id

    module _ (n : Text) (v : Option Text) (named : bytes_eq n files_name ≡ false) where
      -- an option fits where it is new and the rest fits behind it
      both_fit : (rows : List Row) (r : Reading) → fits_rows rows (Some (with_option n v r)) ≡ true → (has_row n rows ≡ false) × (fits_rows (put n (values_for v) rows) (Some r) ≡ true)
      both_fit rows r fits = let p = both _ _ (fits-option AsWritten CommandLine n v named rows (Some r) ∙ fits) in (is_false _ p.0, p.1)

      -- an option with all that it has
      option_step : (ok : Bool) (rows : List Row) (o : Option Reading) → turn rules w word ≡ (ok && not (has_row n rows)) → moved rules w word ≡ after_it
          → Says rules after_it words true (put n (values_for v) rows) o → Says rules w (word ∷ words) ok rows (option_map (with_option n v) o)
      option_step ok rows o e m s = record {
        passing = passes_on (ok && not (has_row n rows)) e m ∙ ap (λ b. (ok && not (has_row n rows)) && b) s.passing
            ∙ and_assoc ok (not (has_row n rows)) (fits_rows (put n (values_for v) rows) o) ∙ ap (λ b. ok && b) (fits-option AsWritten CommandLine n v named rows o);
        ending = go o s.ending;
      }
        where
          go : (x : Option Reading) → Ending rules after_it words true (put n (values_for v) rows) x → Ending rules w (word ∷ words) ok rows (option_map (with_option n v) x)
          go None h = tt
          go (Some r) h = λ good fits id.
              let p = both_fit rows r fits in
              ends_on m id ∙ h refl p.1 id ∙ after-option AsWritten CommandLine n v named rows r id p.0

      -- the value of an option
      value_step : (rows : List Row) (o : Option Reading) → turn rules w word ≡ true → moved rules w word ≡ after_it → Says rules after_it words (not (has_row n rows)) (put n (values_for v) rows) o
          → Says rules w (word ∷ words) true rows (option_map (with_option n v) o)
      value_step rows o e m s = record { passing = passes_on true e m ∙ s.passing ∙ fits-option AsWritten CommandLine n v named rows o; ending = go o s.ending }
        where
          go : (x : Option Reading) → Ending rules after_it words (not (has_row n rows)) (put n (values_for v) rows) x → Ending rules w (word ∷ words) true rows (option_map (with_option n v) x)
          go None h = tt
          go (Some r) h = λ good fits id.
              let p = both_fit rows r fits in
              ends_on m id ∙ h (ap not p.0) p.1 id ∙ after-option AsWritten CommandLine n v named rows r id p.0

-- what is found passes the test
pub find-true : {X : Type 0} (p : X → Bool) (xs : List X) (x : X) → find p xs ≡ Some x → p x ≡ true
find-true p [] x e = cc
find-true p (y ∷ ys) x e = go (p y) refl e (find-true p ys x)
  where
    go : (b : Bool) → p y ≡ b → cond b (Some y) (find p ys) ≡ Some x → (find p ys ≡ Some x → p x ≡ true) → p x ≡ true
    go true t f rest = let same : y ≡ x = cc in subst (λ z. p z ≡ true) same t
    go false t f rest = rest f

-- an option's name, as the command has it
pub known_as : (known : List Known) (name : Text) (k : Known) → known_by name known ≡ Some k → known_by k.name known ≡ Some k
known_as known name k e = subst (λ (x : Text). known_by x known ≡ Some k) (sym (same_text k.name name (find-true (λ (x : Known). bytes_eq x.name name) known k e))) e

-- no option is called as the files are
pub named_apart : (known : List Known) → known_by files_name known ≡ None → (n : Text) (k : Known) → known_by n known ≡ Some k → bytes_eq n files_name ≡ false
named_apart known no_file n k e = go (bytes_eq n files_name) refl
  where
    go : (b : Bool) → bytes_eq n files_name ≡ b → b ≡ false
    go false is = refl
    go true is =
        let found : known_by files_name known ≡ Some k = subst (λ (x : Text). known_by x known ≡ Some k) (same_text n files_name is) e in
        cc

-- what is read, by the kind of the word
read_divider : (known : List Known) (word : Text) (words : List Text) → bytes_eq word divider_word ≡ true → read known (word ∷ words) None ≡ Some (record { options = []; files = words })
unfolding read
read_divider known word words e = rw e refl

-- a word that isn't dashed is a file
read_file : (known : List Known) (word : Text) (words : List Text) → bytes_eq word divider_word ≡ false → is_dashed word ≡ false → read known (word ∷ words) None ≡ option_map (with_file word) (read known words None)
unfolding read
read_file known word words e f = rw (e, f) refl

-- a dashed word is read by its parts
read_dashed : (known : List Known) (word : Text) (words : List Text) (o : Option (Text × Option Text)) → bytes_eq word divider_word ≡ false → is_dashed word ≡ true → option_parts word ≡ o
    → read known (word ∷ words) None ≡ option_and_then (λ (p : Text × Option Text). option_and_then (λ (k : Known). option_read k p.1 (read known words)) (known_by p.0 known)) o
unfolding read
read_dashed known word words o e f g = rw (e, f, g) refl

-- a word that isn't dashed is the value that an option waits for
read_value : (known : List Known) (word : Text) (words : List Text) (n : Text) → is_dashed word ≡ false → read known (word ∷ words) (Some n) ≡ option_map (with_option n (Some word)) (read known words None)
unfolding read
read_value known word words n f = rw f refl

-- a dashed word is no value
read_no_value : (known : List Known) (word : Text) (words : List Text) (n : Text) → is_dashed word ≡ true → read known (word ∷ words) (Some n) ≡ None
unfolding read
read_no_value known word words n f = rw f refl

-- no words give nothing
read_end : (known : List Known) → read known [] None ≡ Some (record { options = []; files = [] })
unfolding read
read_end known = refl

-- at the end no option may wait
read_end_waits : (known : List Known) (n : Text) → read known [] (Some n) ≡ None
unfolding read
read_end_waits known n = refl

module _ (known : List Known) (rules : List Rule) (r : IsRules known rules) (no_file : known_by files_name known ≡ None) where
  -- the walk from this state says what is read, where what is pending passes
  abbrev from_mid : List Row → Pending → Waiting → Bool → List Text → Option Reading → Type 0
  from_mid rows p v t words o = Says rules (mid rows p v t) words (settles rules rows p) (settled_rows rules p rows) o

  -- from after `--`, each word is a file
  trailing_says : (words : List Text) (rows : List Row) (p : Pending) (v : Waiting) → from_mid rows p v true words (Some (record { options = []; files = words }))
  trailing_says [] rows p v = says-end rules rows p v true
  trailing_says (word ∷ words) rows p v =
      let now = settled_rows rules p rows in
      let filed = mid now (Some (files_name, word ∷ [])) positional true in
      file_step rules (mid rows p v true) filed word words (settles rules rows p) now (Some (record { options = []; files = words })) (turn-trailing rules rows p v word r.place) (moved-trailing rules rows p v word r.place)
      (subst₂ (λ ok (rs : List Row). Says rules filed words ok rs (Some (record { options = []; files = words }))) (settles-file rules now word r.file) (settled-file rules now word r.file)
      (trailing_says words now (Some (files_name, word ∷ [])) positional))

  -- what is said from the two states in which options are read
  record Agrees (words : List Text) : Type 0 where
    quiet : (rows : List Row) (p : Pending) (v : Waiting) → is_quiet v ≡ true → from_mid rows p v false words (read known words None)
    waits : (rows : List Row) (n : Text) → known_by n known ≡ Some (record { name = n; valued = true }) → Says rules (mid rows (Some (n, [])) (option n) false) words true rows (read known words (Some n))

  module _ (words : List Text) (rest : Agrees words) (rows : List Row) (p : Pending) (v : Waiting) (word name : Text) (apart : bytes_eq word divider_word ≡ false) where
    -- the rule of the option is found by its name
    found_rule : (k : Known) → known_by name known ≡ Some k → arg_by_long rules name ≡ Some (option_rule k)
    found_rule k e = r.long name ∙ ap (option_map option_rule) e

    -- `--NAME=VALUE`
    given_says : (x : Text) (n : Text) (valued : Bool) → long_of word ≡ Some (name, Some x) → known_by name known ≡ Some (record { name = n; valued = valued })
        → from_mid rows p v false (word ∷ words) (option_read (record { name = n; valued = valued }) (Some x) (read known words))
    given_says x n true is e =
        let now = settled_rows rules p rows in
        option_step rules (mid rows p v false) (mid (put n (x ∷ []) now) None idle false) word words n (Some x) (named_apart known no_file n (record { name = n; valued = true }) (known_as known name (record { name = n; valued = true }) e)) (settles rules rows p) now (read known words None)
        (turn-given rules rows p v word name n apart x is (found_rule (record { name = n; valued = true }) e)) (moved-given rules rows p v word name n apart x is (found_rule (record { name = n; valued = true }) e))
        (rest.quiet (put n (x ∷ []) now) None idle refl)
    given_says x n false is e = refused rules (mid rows p v false) (mid rows p v false) word words (settles rules rows p) (settled_rows rules p rows) (turn-unneeded rules rows p v word name n apart x is (found_rule (record { name = n; valued = false }) e))

    -- `--NAME`
    named_says : (n : Text) (valued : Bool) → long_of word ≡ Some (name, None) → known_by name known ≡ Some (record { name = n; valued = valued })
        → from_mid rows p v false (word ∷ words) (option_read (record { name = n; valued = valued }) None (read known words))
    named_says n true is e =
        let now = settled_rows rules p rows in
        wait_step rules (mid rows p v false) (mid now (Some (n, [])) (option n) false) word words (settles rules rows p) now (read known words (Some n))
        (turn-waits rules rows p v word name n apart is (found_rule (record { name = n; valued = true }) e)) (moved-waits rules rows p v word name n apart is (found_rule (record { name = n; valued = true }) e))
        (rest.waits now n (known_as known name (record { name = n; valued = true }) e))
    named_says n false is e =
        let now = settled_rows rules p rows in
        option_step rules (mid rows p v false) (mid (put n (codes "true" ∷ []) now) None idle false) word words n None (named_apart known no_file n (record { name = n; valued = false }) (known_as known name (record { name = n; valued = false }) e)) (settles rules rows p) now (read known words None)
        (turn-flag rules rows p v word name n apart is (found_rule (record { name = n; valued = false }) e)) (moved-flag rules rows p v word name n apart is (found_rule (record { name = n; valued = false }) e))
        (rest.quiet (put n (codes "true" ∷ []) now) None idle refl)

    -- a long option, by what is known of its name
    long_says : (given : Option Text) (o : Option Known) → long_of word ≡ Some (name, given) → known_by name known ≡ o
        → from_mid rows p v false (word ∷ words) (option_and_then (λ (k : Known). option_read k given (read known words)) o)
    long_says given None is e =
        refused rules (mid rows p v false) (mid rows p v false) word words (settles rules rows p) (settled_rows rules p rows) (turn-unknown rules rows p v word name given apart is (r.long name ∙ ap (option_map option_rule) e))
    long_says None (Some k) is e = named_says k.name k.valued is e
    long_says (Some x) (Some k) is e = given_says x k.name k.valued is e

  module _ (word : Text) (words : List Text) (rest : Agrees words) where
    -- a word while no option waits
    quiet_says : (kind : WordIs word) (rows : List Row) (p : Pending) (v : Waiting) → is_quiet v ≡ true → from_mid rows p v false (word ∷ words) (read known (word ∷ words) None)
    quiet_says (divider is) rows p v quiet =
        subst (λ o. from_mid rows p v false (word ∷ words) o) (sym (read_divider known word words is))
        (skip_step rules (mid rows p v false) (mid rows p v true) word words (settles rules rows p) (settled_rows rules p rows) (Some (record { options = []; files = words })) (turn-divider rules rows p v word is) (moved-divider rules rows p v word is) (trailing_says words rows p v))
    quiet_says (plain_text apart dashed not_long not_short) rows p v quiet =
        let now = settled_rows rules p rows in
        let filed = mid now (Some (files_name, word ∷ [])) positional false in
        subst (λ o. from_mid rows p v false (word ∷ words) o) (sym (read_file known word words apart dashed))
        (file_step rules (mid rows p v false) filed word words (settles rules rows p) now (read known words None) (turn-file rules rows p v word apart not_long not_short quiet r.place) (moved-file rules rows p v word apart not_long not_short quiet r.place)
        (subst₂ (λ ok (rs : List Row). Says rules filed words ok rs (read known words None)) (settles-file rules now word r.file) (settled-file rules now word r.file)
        (rest.quiet now (Some (files_name, word ∷ [])) positional refl)))
    quiet_says (long_option q apart dashed parts is) rows p v quiet =
        subst (λ o. from_mid rows p v false (word ∷ words) o) (sym (read_dashed known word words (Some q) apart dashed parts)) (long_says words rest rows p v word q.0 apart q.1 (known_by q.0 known) is refl)
    quiet_says (short_flags c more x apart dashed parts not_long is first) rows p v quiet =
        subst (λ o. from_mid rows p v false (word ∷ words) o) (sym (read_dashed known word words None apart dashed parts))
        (refused rules (mid rows p v false) (mid rows p v false) word words (settles rules rows p) (settled_rows rules p rows) (turn-short rules rows p v word c more x apart not_long is first (r.short x)))

    -- a word while an option waits
    module _ (rows : List Row) (n : Text) (e : known_by n known ≡ Some (record { name = n; valued = true })) where
      -- the rule of the option that waits is found by its id
      own_rule : arg_by_id rules n ≡ Some (valued_rule n)
      own_rule = r.own (record { name = n; valued = true }) e

      -- a dashed word is refused while an option waits
      no_value : is_dashed word ≡ true → passes rules (mid rows (Some (n, [])) (option n) false) (word ∷ words) ≡ false
          → Says rules (mid rows (Some (n, [])) (option n) false) (word ∷ words) true rows (read known (word ∷ words) (Some n))
      no_value dashed fails = subst (λ o. Says rules (mid rows (Some (n, [])) (option n) false) (word ∷ words) true rows o) (sym (read_no_value known word words n dashed)) (record { passing = fails; ending = tt })

      -- each kind of word while an option waits
      waits_says : (kind : WordIs word) → Says rules (mid rows (Some (n, [])) (option n) false) (word ∷ words) true rows (read known (word ∷ words) (Some n))
      waits_says (divider is) =
          no_value (ap is_dashed (same_text word divider_word is))
          (passes_on rules (mid rows (Some (n, [])) (option n) false) (mid rows (Some (n, [])) (option n) true) word words true (turn-divider rules rows (Some (n, [])) (option n) word is) (moved-divider rules rows (Some (n, [])) (option n) word is)
          ∙ (trailing_says words rows (Some (n, [])) (option n)).passing ∙ ap (λ b. b && true) (settles-bare rules rows n own_rule))
      waits_says (plain_text apart dashed not_long not_short) =
          let after_it = mid rows (Some (n, word ∷ [])) idle false in
          subst (λ o. Says rules (mid rows (Some (n, [])) (option n) false) (word ∷ words) true rows o) (sym (read_value known word words n dashed))
          (value_step rules (mid rows (Some (n, [])) (option n) false) after_it word words n (Some word) (named_apart known no_file n (record { name = n; valued = true }) e) rows (read known words None)
          (turn-value rules rows n word apart not_long not_short own_rule) (moved-value rules rows n word apart not_long not_short own_rule)
          (subst₂ (λ ok (rs : List Row). Says rules after_it words ok rs (read known words None)) (settles-value rules rows n word own_rule) (settled-value rules rows n word own_rule)
          (rest.quiet rows (Some (n, word ∷ [])) idle refl)))
      waits_says (long_option q apart dashed parts is) =
          let s = long_says words rest rows (Some (n, [])) (option n) word q.0 apart q.1 (known_by q.0 known) is refl in
          no_value dashed (s.passing ∙ ap (λ b. b && fits_rows (settled_rows rules (Some (n, [])) rows) (option_and_then (λ (k : Known). option_read k q.1 (read known words)) (known_by q.0 known))) (settles-bare rules rows n own_rule))
      waits_says (short_flags c more x apart dashed parts not_long is first) =
          no_value dashed (passes_on rules (mid rows (Some (n, [])) (option n) false) (moved rules (mid rows (Some (n, [])) (option n) false) word) word words false
          (turn-short rules rows (Some (n, [])) (option n) word c more x apart not_long is first (r.short x)) refl)

  -- the walk agrees with the reading
  agrees : (words : List Text) → All IsUtf8 words → Agrees words
  agrees [] utf8 = record {
    quiet = λ rows p v quiet. subst (λ o. from_mid rows p v false [] o) (sym (read_end known)) (says-end rules rows p v false);
    waits = λ rows n e. subst (λ o. Says rules (mid rows (Some (n, [])) (option n) false) [] true rows o) (sym (read_end_waits known n))
        (record { passing = passes-end rules rows (Some (n, [])) (option n) false ∙ settles-bare rules rows n (r.own (record { name = n; valued = true }) e); ending = tt });
  }
  agrees (word ∷ words) utf8 =
      let rest = agrees words (λ k d lt. utf8 (suc k) d (omega arith)) in
      let kind = word_is word (utf8 0 word (omega arith)) in
      record { quiet = quiet_says word words rest kind; waits = λ rows n e. waits_says word words rest rows n e kind }

  -- from the start the walk says what the words give
  pub walk_says : (words : List Text) → All IsUtf8 words → Says rules (mid [] None idle false) words true [] (read known words None)
  walk_says words utf8 = (agrees words utf8).quiet [] None idle refl
