-- What a reading says of any name, also of one that the table hasn't.
use Rattle.std.proofs.Common.{◌≡◌, ◌∙◌, ◌&&◌, ◌||◌, ℕ, Bool, cond, true, false, not, refl, sym, ap, subst, List, [], ◌∷◌, map, Option, Some, None, is_some, unwrap_or, true≢false}
use Rattle.std.specs.Prelude.{if◌then◌else◌, option_and_then, option_map}
use Rattle.std.specs.List.{find, list_all, list_any}
use Rattle.std.specs.Option.{option_map_or}
use Rattle.std.specs.Borrow.{Bor}
use Rattle.std.specs.Str.{bytes_eq}
use Rattle.std.specs.String.{string_bytes}
use Rattle.std.specs.declared.string.String.{String}
use Rattle.clap.proofs.WalkLemmas.{both}
use Rattle.torx_words.specs.Accepted.{known_of}
use Rattle.torx_words.specs.Form.{Known, Reading, are_distinct, has_flag, has_valued, known_by, read, read_once, stands, value_of}
use Rattle.torx_words.specs.Named.{entry_from}
use Rattle.torx_words.specs.Taken.{GivesOnce, IsUnread, IsWordsUnless, ReadWords, Tells, Told, reading_from}
use Rattle.torx_words.specs.declared.kind.WordsError.{WordsError}
use Rattle.torx_words.specs.declared.kind.WordsError.TheVariants.{Usage, Memory}
use Rattle.torx_words.specs.declared.form.NamedOption.{NamedOption}
use Rattle.torx_words.proofs.ParserEnd.{all_known, is_as_known, read_known}
use Rattle.torx_words.proofs.ParserRows.{Given}
use Rattle.torx_words.proofs.ParserRules.{same_text}

-- where no option of the name passes, the first of the name doesn't
first_fails : (t : Known → Bool) (known : List Known) (name : List ℕ) → list_any (λ (k : Known). t k && bytes_eq k.name name) known ≡ false → option_map_or t (known_by name known) false ≡ false
first_fails t [] name e = refl
first_fails t (k ∷ ks) name e = go (t k) (bytes_eq k.name name) (list_any (λ (x : Known). t x && bytes_eq x.name name) ks) refl e (first_fails t ks name)
  where
    go : (b c rest : Bool) → t k ≡ b → ((b && c) || rest) ≡ false → (rest ≡ false → option_map_or t (known_by name ks) false ≡ false) → option_map_or t (cond c (Some k) (known_by name ks)) false ≡ false
    go true true rest is e more = absurd (true≢false e)
    go false true rest is e more = is
    go true false rest is e more = more e
    go false false rest is e more = more e

-- the test of an option, by the option of the table
abbrev as_known : Option Known → Option (List ℕ) → Bool
as_known o value = option_map_or (λ (k : Known). if k.valued then is_some value else not (is_some value)) o false

-- an option whose name takes no value has none
no_value : (o : Option Known) (value : Option (List ℕ)) → as_known o value ≡ true → option_map_or (λ (k : Known). k.valued) o false ≡ false → value ≡ None
no_value None value e f = absurd (true≢false (sym e))
no_value (Some k) value e f = go k.valued value f e
  where
    go : (b : Bool) (v : Option (List ℕ)) → b ≡ false → (if b then is_some v else not (is_some v)) ≡ true → v ≡ None
    go true v f e = absurd (true≢false f)
    go false None f e = refl
    go false (Some text) f e = absurd (true≢false (sym e))

-- an option whose name is no flag has a value
some_value : (o : Option Known) (value : Option (List ℕ)) → as_known o value ≡ true → option_map_or (λ (k : Known). not k.valued) o false ≡ false → is_some value ≡ true
some_value None value e f = absurd (true≢false (sym e))
some_value (Some k) value e f = go k.valued f e
  where
    go : (b : Bool) → not b ≡ false → (if b then is_some value else not (is_some value)) ≡ true → is_some value ≡ true
    go true f e = e
    go false f e = absurd (true≢false f)

module _ (known : List Known) (name : List ℕ) where
  -- a name that takes no value has none
  value_none : (options : List Given) → list_all (is_as_known known) options ≡ true → has_valued name known ≡ false
      → option_and_then (λ (o : Given). o.1) (find (λ (o : Given). bytes_eq o.0 name) options) ≡ None
  value_none [] all off = refl
  value_none (o ∷ options) all off = go (bytes_eq o.0 name) refl (value_none options (both _ _ all).1 off)
    where
      go : (b : Bool) → bytes_eq o.0 name ≡ b → option_and_then (λ (x : Given). x.1) (find (λ (x : Given). bytes_eq x.0 name) options) ≡ None
          → option_and_then (λ (x : Given). x.1) (cond b (Some o) (find (λ (x : Given). bytes_eq x.0 name) options)) ≡ None
      go true is rest =
          let here : as_known (known_by name known) o.1 ≡ true = subst (λ (n : List ℕ). as_known (known_by n known) o.1 ≡ true) (same_text o.0 name is) (both _ _ all).0 in
          no_value (known_by name known) o.1 here (first_fails (λ (k : Known). k.valued) known name off)
      go false is rest = rest

  -- a name that is no flag stands where it has a value
  stands_some : (options : List Given) → list_all (is_as_known known) options ≡ true → has_flag name known ≡ false
      → list_any (λ (o : Given). bytes_eq o.0 name) options ≡ is_some (option_and_then (λ (o : Given). o.1) (find (λ (o : Given). bytes_eq o.0 name) options))
  stands_some [] all off = refl
  stands_some (o ∷ options) all off = go (bytes_eq o.0 name) refl (stands_some options (both _ _ all).1 off)
    where
      go : (b : Bool) → bytes_eq o.0 name ≡ b → list_any (λ (x : Given). bytes_eq x.0 name) options ≡ is_some (option_and_then (λ (x : Given). x.1) (find (λ (x : Given). bytes_eq x.0 name) options))
          → (b || list_any (λ (x : Given). bytes_eq x.0 name) options) ≡ is_some (option_and_then (λ (x : Given). x.1) (cond b (Some o) (find (λ (x : Given). bytes_eq x.0 name) options)))
      go true is rest =
          let here : as_known (known_by name known) o.1 ≡ true = subst (λ (n : List ℕ). as_known (known_by n known) o.1 ≡ true) (same_text o.0 name is) (both _ _ all).0 in
          sym (some_value (known_by name known) o.1 here (first_fails (λ (k : Known). not k.valued) known name off))
      go false is rest = rest

-- what is read once is as the table has it
once_known : (known : List Known) (words : List (List ℕ)) (r : Reading) → read_once known words ≡ Some r → list_all (is_as_known known) r.options ≡ true
once_known known words r e = go (read known words None) (read_known known words) e
  where
    kept : (x : Reading) (b : Bool) → list_all (is_as_known known) x.options ≡ true → cond b (Some x) None ≡ Some r → list_all (is_as_known known) r.options ≡ true
    kept x true all e = let same : x ≡ r = cc in subst (λ (y : Reading). list_all (is_as_known known) y.options ≡ true) same all
    kept x false all e = cc

    go : (o : Option Reading) → all_known known o ≡ true
        → option_and_then (λ (x : Reading). cond (are_distinct (map (λ (p : Given). p.0) x.options)) (Some x) None) o ≡ Some r → list_all (is_as_known known) r.options ≡ true
    go None all e = cc
    go (Some x) all e = kept x (are_distinct (map (λ (p : Given). p.0) x.options)) all e

-- what words that are read give, whatever the name
pub record Says (known : List Known) (r : Reading) (t : Told) : Type 0 where
  pub tells : Tells known r t
  pub unvalued : (name : List ℕ) → has_valued name known ≡ false → value_of name r ≡ None
  pub unflagged : (name : List ℕ) → has_flag name known ≡ false → stands name r ≡ is_some (value_of name r)

pub says_once : (known : List Known) (words : List (List ℕ)) (t : Told) (none : Reading) → GivesOnce known words t → Says known (unwrap_or (read_once known words) none) t
says_once known words t none (r, e, tells) =
    let all = once_known known words r e in
    subst (λ (o : Option Reading). Says known (unwrap_or o none) t) (sym e) (record {
      tells = tells;
      unvalued = λ name h. value_none known name r.options all h;
      unflagged = λ name h. stands_some known name r.options all h;
    })

-- what the options give of the words, whatever the name
says_read : {Z : Type 0} (options : List NamedOption) (words : List (String Z)) (t : Told) → GivesOnce (map known_of (map entry_from options)) (map string_bytes words) t
    → Says (map known_of (map entry_from options)) (reading_from options words) t
says_read options words t gives = says_once (map known_of (map entry_from options)) (map string_bytes words) t (record { options = []; files = [] }) gives

-- the same of what is seen of words that are read
pub says_of : {Z : Type 0} (options : List NamedOption) (words : List (String Z)) (t : Told) (p : ReadWords) → GivesOnce (map known_of (map entry_from options)) (map string_bytes words) t
    → record { options = map entry_from options; reading = reading_from options words } ≡ p → Says (map known_of (map entry_from options)) p.reading t
says_of options words t p gives e = subst (λ (x : ReadWords). Says (map known_of (map entry_from options)) x.reading t) e (says_read options words t gives)

-- words that are read have a reading, which is the one that is kept
pub reading_is : (known : List Known) (words : List (List ℕ)) (t : Told) (none : Reading) → GivesOnce known words t → read_once known words ≡ Some (unwrap_or (read_once known words) none)
reading_is known words t none (r, e, tells) = e ∙ ap Some (sym (ap (λ o. unwrap_or o none) e))

-- a lent text is there where a text is
pub lent_some : (o : Option (Bor (List ℕ))) (v : Option (List ℕ)) → option_map (λ (w : Bor (List ℕ)). w.now) o ≡ v → is_some o ≡ is_some v
lent_some None v e = ap is_some e
lent_some (Some w) v e = ap is_some e

-- an error of the form comes of words that aren't read
pub unread_for : (other : Type 0) (known : List Known) (words : List (List ℕ)) (e : WordsError) → (¬ other → read_once known words ≡ None) → IsWordsUnless other e → IsUnread known words e
unread_for other known words (Usage kind) f h = (h.0, f h.1)
unread_for other known words Memory f h = tt
