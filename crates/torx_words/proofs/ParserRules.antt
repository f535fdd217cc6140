-- The rules that the parser's command has once it is built, and how it finds them.
use Rattle.std.proofs.Common.{◌≡◌, ◌∙◌, ◌+◌, ◌&&◌, ◌||◌, ℕ, Bool, cond, true, false, not, refl, sym, ap, ap₂, subst, List, [], ◌∷◌, ◌++◌, map, append_assoc, append-nil, add-zero, Option, Some, None, is_some, option_map, true≢false}
use Rattle.std.specs.Option.{option_or}
use Rattle.std.specs.List.{count_by, fold, list_all, list_any}
use Rattle.std.specs.Str.{bytes_eq}
use Rattle.std.proofs.lemmas.Slice.Eq.{bytes_eq-Decides}
use Rattle.clap.specs.Walk.{Rule, Text, arg_by_id, arg_by_index, arg_by_long, arg_by_short, is_early_multiple}
use Rattle.clap.specs.Simple.{App, Shape, built, filled, filled_from, is_buildable, is_in_order, with_index, with_rule}
use Rattle.clap.specs.Faults.{is_simple_and_free}
use Rattle.clap.proofs.WalkLemmas.{both}
use Rattle.clap.proofs.SimpleLemmas.{is_false}
use Rattle.torx_words.specs.Form.{Known, files_name, is_table, known_by}
use Rattle.torx_words.specs.Parsed.{app_for, bare_app, files_rule, rule_for, with_known}

-- the command with these rules, before it is built
abbrev pub bare_with : List Rule → App
bare_with rules = record { top = record bare_app.top { rules = rules }; subs = [] }

-- the command with these rules, once it is built
abbrev pub shape_with : List Rule → Shape
shape_with rules = record bare_app.top { rules = rules; is_built = true; disable_help_subcommand = true }

-- the whole command with these rules, built
abbrev pub built_with : List Rule → App
built_with rules = record { top = shape_with rules; subs = [] }

-- the rule of an option, once it is built
abbrev pub option_rule : Known → Rule
option_rule k = filled (rule_for k)

-- the rule of the files, once it is built: it has the first place
abbrev pub filled_files : Rule
filled_files = with_index 1 (filled files_rule)

-- the rules of the options, and then that of the files
unfoldable pub rules_for : List Known → List Rule
rules_for known = map option_rule known ++ filled_files ∷ []

-- the fold adds a rule for each option
added : (known : List Known) (rules : List Rule) → fold with_known (bare_with rules) known ≡ bare_with (rules ++ map rule_for known)
added [] rules = ap bare_with (sym (append-nil rules))
added (k ∷ ks) rules = added ks (rules ++ rule_for k ∷ []) ∙ ap bare_with (append_assoc rules (rule_for k ∷ []) (map rule_for ks))

-- the parser's command, written out
pub app_is : (known : List Known) → app_for known ≡ bare_with (map rule_for known ++ files_rule ∷ [])
app_is known = ap (λ (a : App). with_rule a files_rule) (added known [])

-- building fills each rule in
filled_are : (known : List Known) → filled_from 1 (map rule_for known ++ files_rule ∷ []) ≡ rules_for known
unfolding rules_for
filled_are [] = refl
filled_are (k ∷ ks) = ap (λ rs. option_rule k ∷ rs) (filled_are ks)

-- the parser's command, built
pub built_app : (known : List Known) → built (bare_with (map rule_for known ++ files_rule ∷ [])) ≡ built_with (rules_for known)
built_app known = ap built_with (filled_are known)

-- ---- the command is simple and free

-- each option's rule passes a test that passes them all, and the files' rule
tested : (p : Rule → Bool) → ((k : Known) → p (rule_for k) ≡ true) → p files_rule ≡ true → (known : List Known) → list_all p (map rule_for known ++ files_rule ∷ []) ≡ true
tested p each last [] = rw last refl
tested p each last (k ∷ ks) = ap₂ (λ a b. a && b) (each k) (tested p each last ks)

-- the same of the rules once they are built
filled_tested : (p : Rule → Bool) → ((k : Known) → p (option_rule k) ≡ true) → p filled_files ≡ true → (known : List Known) → list_all p (rules_for known) ≡ true
unfolding rules_for
filled_tested p each last [] = rw last refl
filled_tested p each last (k ∷ ks) = ap₂ (λ a b. a && b) (each k) (filled_tested p each last ks)

-- only the files' rule has a place
placed : (known : List Known) (n : ℕ) → fold (λ m (a : Rule). m + cond (is_some a.index) 1 0) n (rules_for known) ≡ n + 1
unfolding rules_for
placed [] n = refl
placed (k ∷ ks) n = placed ks (n + 0) ∙ ap (λ m. m + 1) (add-zero n)

-- no rule before the last place takes several values
early : (known : List Known) (n : ℕ) → n ≡ 1 → list_any (is_early_multiple n) (rules_for known) ≡ false
unfolding rules_for
early [] n e = rw e refl
early (k ∷ ks) n e = early ks n e

-- the rules are in order
in_order : (known : List Known) → is_in_order (rules_for known) ≡ true
in_order known = ap not (early known (count_by (λ (a : Rule). is_some a.index) (rules_for known)) (placed known 0))

-- a command that builds to these rules is simple and free
free_at : (a : App) (rules : List Rule) → is_buildable a ≡ true → built a ≡ built_with rules → list_all (λ (r : Rule). r.is_simple) rules ≡ true → list_all (λ (r : Rule). r.is_free) rules ≡ true → is_in_order rules ≡ true → is_simple_and_free a ≡ true
free_at a rules able is simple free order = rw (able, is, simple, free, order) refl

-- the parser's command is simple and free
pub free : (known : List Known) → is_simple_and_free (app_for known) ≡ true
free known =
    let able : is_buildable (bare_with (map rule_for known ++ files_rule ∷ [])) ≡ true = rw (tested (λ (r : Rule). r.is_simple) (λ k. refl) refl known) refl in
    subst (λ (a : App). is_simple_and_free a ≡ true) (sym (app_is known))
    (free_at (bare_with (map rule_for known ++ files_rule ∷ [])) (rules_for known) able (built_app known) (filled_tested (λ (r : Rule). r.is_simple) (λ k. refl) refl known) (filled_tested (λ (r : Rule). r.is_free) (λ k. refl) refl known) (in_order known))

-- ---- how the rules are found

-- each text is equal to itself
pub eq-refl : (a : Text) → bytes_eq a a ≡ true
eq-refl a = (bytes_eq-Decides a a).1 refl

-- texts that are found equal are the same
pub same_text : (a b : Text) → bytes_eq a b ≡ true → a ≡ b
same_text a b e = (bytes_eq-Decides a b).0 e

-- texts that differ, in the other order
pub differs : (a b : Text) → bytes_eq a b ≡ false → bytes_eq b a ≡ false
differs a b e = go (bytes_eq b a) refl
  where
    go : (t : Bool) → bytes_eq b a ≡ t → t ≡ false
    go false is = refl
    go true is = absurd (true≢false (sym (subst (λ x. bytes_eq x b ≡ true) (same_text b a is) (eq-refl b)) ∙ e))

-- what the parser finds among the rules of these options
pub record IsRules (known : List Known) (rules : List Rule) : Type 0 where
  pub long : (name : Text) → arg_by_long rules name ≡ option_map option_rule (known_by name known)
  pub short : (x : ℕ) → arg_by_short rules x ≡ None
  pub place : arg_by_index rules 1 ≡ Some filled_files
  pub own : (k : Known) → known_by k.name known ≡ Some k → arg_by_id rules k.name ≡ Some (option_rule k)
  pub file : arg_by_id rules files_name ≡ Some filled_files

-- the first one is found on both sides, or what is found in the rest
same_first : (k : Known) (b : Bool) (x : Option Known) (y : Option Rule) → y ≡ option_map option_rule x → cond (b || false) (Some (option_rule k)) y ≡ option_map option_rule (cond b (Some k) x)
same_first k true x y e = refl
same_first k false x y e = e

-- by its long name the rule of a known option is found, and no other
by_long : (known : List Known) (name : Text) → arg_by_long (rules_for known) name ≡ option_map option_rule (known_by name known)
unfolding rules_for
by_long [] name = refl
by_long (k ∷ ks) name = same_first k (bytes_eq k.name name) (known_by name ks) (arg_by_long (rules_for ks) name) (by_long ks name)

-- no rule has a short name
by_short : (known : List Known) (x : ℕ) → arg_by_short (rules_for known) x ≡ None
unfolding rules_for
by_short [] x = refl
by_short (k ∷ ks) x = by_short ks x

-- the rule of the files is found at the first place
by_place : (known : List Known) → arg_by_index (rules_for known) 1 ≡ Some filled_files
unfolding rules_for
by_place [] = refl
by_place (k ∷ ks) = by_place ks

-- by its id an option is found as by its name, and the files behind the options
same_id : (k : Known) (b : Bool) (x : Option Known) (y z : Option Rule) → y ≡ option_or (option_map option_rule x) z → cond b (Some (option_rule k)) y ≡ option_or (option_map option_rule (cond b (Some k) x)) z
same_id k true x y z e = refl
same_id k false x y z e = e

-- by an id the rule of an option of that name is found, or else that of the files
by_id : (known : List Known) (id : Text) → arg_by_id (rules_for known) id ≡ option_or (option_map option_rule (known_by id known)) (arg_by_id (filled_files ∷ []) id)
unfolding rules_for
by_id [] id = refl
by_id (k ∷ ks) id = same_id k (bytes_eq k.name id) (known_by id ks) (arg_by_id (rules_for ks) id) (arg_by_id (filled_files ∷ []) id) (by_id ks id)

-- a name that no option has is not found
pub unknown : (known : List Known) (name : Text) → list_any (bytes_eq name) (map (λ (k : Known). k.name) known) ≡ false → known_by name known ≡ None
unknown [] name e = refl
unknown (k ∷ ks) name e = go (bytes_eq name k.name) refl (unknown ks name) e
  where
    go : (b : Bool) → bytes_eq name k.name ≡ b → (list_any (bytes_eq name) (map (λ (k : Known). k.name) ks) ≡ false → known_by name ks ≡ None)
        → (b || list_any (bytes_eq name) (map (λ (k : Known). k.name) ks)) ≡ false → known_by name (k ∷ ks) ≡ None
    go true is rest e = absurd (true≢false e)
    go false is rest e = let other : bytes_eq k.name name ≡ false = differs name k.name is in rw other (rest e)

-- no option has the name of the files
pub no_file : (known : List Known) → is_table known ≡ true → known_by files_name known ≡ None
no_file known table = unknown known files_name (is_false _ (both _ _ table).0)

-- the parser finds all that the table says
pub are_rules : (known : List Known) → is_table known ≡ true → IsRules known (rules_for known)
are_rules known table = record {
  long = by_long known;
  short = by_short known;
  place = by_place known;
  own = λ k is. by_id known k.name ∙ ap (λ o. option_or (option_map option_rule o) (arg_by_id (filled_files ∷ []) k.name)) is;
  file = by_id known files_name ∙ ap (λ o. option_or (option_map option_rule o) (arg_by_id (filled_files ∷ []) files_name)) (no_file known table);
}
