-- The log of a session is in the form of a log.
use Rattle.std.proofs.Common.{◌≡◌, ℕ, suc, ◌+◌, ◌-◌, ◌<◌, ◌≤◌, List, [], ◌∷◌, ◌++◌, length, map, All, Contains, Option, None, Some, refl, arith}
use Rattle.std.specs.Prelude.{IfSome}
use Rattle.std.proofs.lemmas.List.{length-append, length-map}
use Rattle.std.proofs.lemmas.List.Elements.{All-nil, All-cons, All-head, All-tail, All-append, All-map, All-weaker, All-get_or}
use Rattle.text_scan.specs.Cut.{Lacks}
use Rattle.lts_base.specs.declared.item.Item.{Item}
use Rattle.lts_base.specs.declared.item.Item.TheVariants.{Input, Output, Delta}
use Rattle.lts_base.specs.System.{System, IsSystem, IsItemOf, label_count}
use Rattle.lts_base.specs.Alphabet.{Alphabet, IsAlphabet, IsLabel, text_at}
use Rattle.log_text.specs.declared.limits.TheConstants.{MOST_TEXT_BYTES, MOST_LEFT_BYTES}
use Rattle.log_text.specs.declared.log.Ending.{Ending}
use Rattle.log_text.specs.Logs.{IsText, IsEntry, IsLog}
use Rattle.edge_io.specs.Links.{IsWithinLine}
use Rattle.walk_core.specs.Walked.{Walked}
use Rattle.session_core.specs.Table.{Rules}
use Rattle.session_core.specs.Kept.{Kept, IsLoggable}
use Rattle.session_core.specs.Sound.{AreRules, IsSound}
use Rattle.session_core.specs.Logged.{entry_of, strange_entries, log_of}
use Rattle.session_core.specs.Judged.{AreLabelled}

-- bytes of one line lack the LF
line_lacks : (text : List ℕ) → (¬ Contains text 10) → Lacks 10 text
line_lacks [] none = tt
line_lacks (b ∷ text) none = (λ same. none (0, omega arith, same), line_lacks text (λ found. none (later found)))
  where
    later : Contains text 10 → Contains (b ∷ text) 10
    later (k, below, at) = (suc k, omega (arith, below), at)

line_text : (most : ℕ) (text : List ℕ) → IsWithinLine most text → IsText most text
line_text most text (none, short) = record { short = short; lacks = line_lacks text none }

-- a label lacks the LF
plain_lacks : (text : List ℕ) → All (λ b. 32 ≤ b) text → Lacks 10 text
plain_lacks [] plain = tt
plain_lacks (b ∷ text) plain =
    let high : 32 ≤ b = All-head (λ (c : ℕ). 32 ≤ c) b text plain in
    (λ same. omega (arith, high, same), plain_lacks text (All-tail (λ (c : ℕ). 32 ≤ c) b text plain))

label_text : (text : List ℕ) → IsLabel text → IsText MOST_TEXT_BYTES text
label_text text label = record { short = omega (arith, label.short); lacks = plain_lacks text label.plain }

-- the entry of an item of the alphabet is plain
item_entry : (a : Alphabet) (s : System) (texts : List (List ℕ)) (x : Item) → IsAlphabet a → texts ≡ a.texts → s.inputs ≡ a.inputs → label_count s ≡ length a.texts → IsItemOf s x → IsEntry (entry_of texts x)
item_entry a s texts (Input k) alphabet same inputs count item =
    let below : k < length a.texts = omega (arith, item, inputs, alphabet.inputs) in
    let label : IsLabel (text_at a.texts k) = All-get_or IsLabel a.texts k [] below alphabet.labels in
    rw same (label.some, label_text (text_at a.texts k) label)
item_entry a s texts (Output k) alphabet same inputs count item =
    let under = item.1 in
    let below : k < length a.texts = omega (arith, under, count) in
    let label : IsLabel (text_at a.texts k) = All-get_or IsLabel a.texts k [] below alphabet.labels in
    rw same (label_text (text_at a.texts k) label)
item_entry a s texts Delta alphabet same inputs count item = tt

strange_plain : (strange : Option (List ℕ)) → IfSome strange (IsWithinLine MOST_TEXT_BYTES) → All IsEntry (strange_entries strange)
strange_plain None h = All-nil IsEntry
strange_plain (Some text) h = All-cons IsEntry _ [] (line_text MOST_TEXT_BYTES text h) (All-nil IsEntry)

-- the log of a sound session is in its form
pub log_form : (w : Walked) (a : Alphabet) (r : Rules) (kept : Kept) (here next : ℕ) (offers : List ℕ) (otherwise : Ending) → IsAlphabet a → IsSound w a r kept here next offers → IsLoggable kept → IsLog (log_of r kept.sitting otherwise)
log_form w a r kept here next offers otherwise alphabet sound loggable =
    let rules = sound.rules in
    let entries = map (entry_of r.texts) kept.sitting.items in
    let long : length (entries ++ strange_entries kept.sitting.strange) ≡ length entries + length (strange_entries kept.sitting.strange) = length-append entries (strange_entries kept.sitting.strange) in
    let same : length entries ≡ length kept.sitting.items = length-map kept.sitting.items (entry_of r.texts) in
    let few = loggable.few in
    let room = sound.room in
    record {
      patience = (rules.patience, rules.patient);
      steps = (rules.steps, rules.few);
      few = omega (arith, long, same, few, room);
      entries = All-append IsEntry entries (strange_entries kept.sitting.strange) (All-map IsEntry (entry_of r.texts) kept.sitting.items (All-weaker (IsItemOf r.system) (λ (x : Item). IsEntry (entry_of r.texts x)) (λ x item. item_entry a r.system r.texts x alphabet rules.texts rules.inputs rules.count item) kept.sitting.items sound.items)) (strange_plain kept.sitting.strange loggable.strange);
      left = line_text MOST_LEFT_BYTES kept.sitting.left loggable.left;
    }

-- the rules of a session are labelled
pub rules_labelled : (w : Walked) (a : Alphabet) (r : Rules) → IsAlphabet a → IsSystem w.system → AreRules w a r → AreLabelled r
rules_labelled w a r alphabet system rules =
    let count = rules.count in
    record {
      system = rw rules.system system;
      alphabet = rw (rules.texts, rules.inputs) alphabet;
      over = record { inputs = refl; outputs = outputs r.system.inputs r.system.outputs (length a.texts) (length r.texts) count (rw rules.texts refl) };
    }
  where
    outputs : (m n k l : ℕ) → m + n ≡ k → l ≡ k → n ≡ l - m
    outputs m n k l e same = omega (arith, e, same)
