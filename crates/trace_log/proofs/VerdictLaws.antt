-- Laws on the verdict on what was seen.
use Rattle.std.proofs.Common.{◌≡◌, ◌∙◌, ◌⊎◌, ℕ, ◌+◌, ◌<◌, ◌≤◌, List, [], ◌∷◌, ◌++◌, length, map, take, drop, get_or, All, inl, inr, refl, sym, ap, subst, arith}
use Rattle.std.specs.List.{AllZip}
use Rattle.std.proofs.Math.Seq.{take-length}
use Rattle.std.proofs.lemmas.List.{take_more, append-nil, append_assoc, take-append-drop, map-append, length-map, length-take-le}
use Rattle.std.proofs.lemmas.List.Elements.{All-nil, All-cons}
use Rattle.lts_base.specs.declared.item.Item.{Item}
use Rattle.lts_base.specs.declared.item.Item.TheVariants.{Input, Output, Delta}
use Rattle.lts_base.specs.declared.item.Mode.{Mode}
use Rattle.lts_base.specs.Alphabet.{Alphabet, IsAlphabet, IsOver, text_at}
use Rattle.lts_base.specs.System.{System, IsSystem, IsItemOf}
use Rattle.lts_base.specs.After.{IsSetAfter, Allows}
use Rattle.lts_base.specs.Next.{IsNext}
use Rattle.lts_base.specs.Conformance.{IsAllowed}
use Rattle.lts_base.proofs.SetLaws.{IsSetAfter-next}
use Rattle.lts_base.proofs.AllowedLaws.{IsAllowed-nil, IsAllowed-push, IsAllowed-last, IsAllowed-front}
use Rattle.trace_text.proofs.OnceLaws.{item_once}
use Rattle.log_text.specs.declared.log.Entry.{Entry}
use Rattle.log_text.specs.declared.log.Entry.TheVariants.{Sent, Heard, Quiet}
use Rattle.trace_log.specs.declared.seen.Seen.{Seen}
use Rattle.trace_log.specs.declared.seen.Seen.TheVariants.{Known, StrangeSent, StrangeHeard}
use Rattle.trace_log.specs.declared.judge.LogVerdict.{LogVerdict}
use Rattle.trace_log.specs.declared.judge.LogVerdict.TheVariants.{Pass, Fail, Off}
use Rattle.trace_log.specs.Verdict.{IsInputText, IsOutputText, IsSeenAs, IsSeenOf, IsHeard, IsFollowed, IsFirstStop, IsStop, IsVerdict}

-- the first k entries are the items of an allowed trace, after which the set is this
pub record IsJudged (mode : Mode) (s : System) (seen : List Seen) (k : ℕ) (set : List ℕ) : Type 0 where
  pub trace : List Item
  pub front : take k seen ≡ map Known trace
  pub allowed : IsAllowed mode s trace
  pub set_is : IsSetAfter s trace set
  pub within : All (λ (q : ℕ). q < s.states) set

pub judged_none : (mode : Mode) (s : System) (seen : List Seen) (set : List ℕ) → IsSetAfter s [] set → All (λ (q : ℕ). q < s.states) set → IsJudged mode s seen 0 set
judged_none mode s seen set is within = record { trace = []; front = refl; allowed = IsAllowed-nil mode s; set_is = is; within = within }

pub judged_more : (mode : Mode) (s : System) (seen : List Seen) (k : ℕ) (d : Seen) (x : Item) (set next : List ℕ) → IsSystem s → k < length seen → get_or seen k d ≡ Known x → IsItemOf s x → Allows mode s set x → IsNext s x set next → All (λ (q : ℕ). q < s.states) next →
    IsJudged mode s seen k set → IsJudged mode s seen (k + 1) next
judged_more mode s seen k d x set next system below known item allows step within is = record {
  trace = is.trace ++ x ∷ [];
  front = take_more seen k d below ∙ rw (is.front, known, map-append Known is.trace (x ∷ [])) refl;
  allowed = IsAllowed-push mode s is.trace x set system item is.set_is is.allowed allows;
  set_is = IsSetAfter-next s x is.trace set next is.set_is step;
  within = within;
}

-- as many items as entries
judged_long : (mode : Mode) (s : System) (seen : List Seen) (k : ℕ) (set : List ℕ) → k ≤ length seen → (is : IsJudged mode s seen k set) → length is.trace ≡ k
judged_long mode s seen k set below is = sym (length-map is.trace Known) ∙ ap length (sym is.front) ∙ length-take-le k seen below

pub judged_stop : (mode : Mode) (s : System) (seen : List Seen) (k : ℕ) (d : Seen) (set : List ℕ) → IsSystem s → k < length seen → ((x : Item) → get_or seen k d ≡ Known x → Allows mode s set x → ⊥) →
    IsJudged mode s seen k set → IsFirstStop mode s seen (k + 1) (get_or seen k d)
judged_stop mode s seen k d set system below stops is = record {
  trace = is.trace;
  others = drop (k + 1) seen;
  whole = sym (take-append-drop (k + 1) seen) ∙ rw (take_more seen k d below, is.front) (append_assoc (map Known is.trace) (get_or seen k d ∷ []) (drop (k + 1) seen));
  allowed = is.allowed;
  stops = λ x e allowed. stops x e (IsAllowed-last mode s is.trace x set system is.set_is allowed);
  place = let long = judged_long mode s seen k set (omega (arith, below)) is in omega (arith, long);
}

-- the verdict at the first place that can't follow
pub stop_verdict : (mode : Mode) (s : System) (seen : List Seen) (entry : Seen) (place : ℕ) (v : LogVerdict) → IsStop entry place v → IsFirstStop mode s seen place entry → IsVerdict mode s seen v
stop_verdict mode s seen entry place Pass is first = absurd is
stop_verdict mode s seen entry place (Fail k) is first = (entry, rw (is.0) first, is.1)
stop_verdict mode s seen entry place (Off k) is first = (entry, rw (is.0) first, is.1)

-- the same, where the place is written otherwise
pub stop_at : (mode : Mode) (s : System) (seen : List Seen) (entry : Seen) (place k : ℕ) (v : LogVerdict) → IsStop entry place v → place ≡ k → IsFirstStop mode s seen k entry → IsVerdict mode s seen v
stop_at mode s seen entry place k v is same first = stop_verdict mode s seen entry k v (subst (λ (n : ℕ). IsStop entry n v) same is) first

pub judged_pass : (mode : Mode) (s : System) (seen : List Seen) (k : ℕ) (set : List ℕ) → k ≡ length seen → IsJudged mode s seen k set → IsVerdict mode s seen Pass
judged_pass mode s seen k set all is = (is.trace, (sym (take-length seen) ∙ rw all at is.front, is.allowed))

-- of an allowed trace each beginning is allowed
allowed_begins : (mode : Mode) (s : System) (σ τ : List Item) → IsAllowed mode s (σ ++ τ) → IsAllowed mode s σ
allowed_begins mode s σ [] allowed = rw append-nil at allowed
allowed_begins mode s σ (x ∷ τ) allowed = IsAllowed-front mode s σ x (allowed_begins mode s (σ ++ x ∷ []) τ (rw (append_assoc σ (x ∷ []) τ) allowed))

-- an entry among the items of a trace is one of them
among : (σ τ : List Item) (e : Seen) (others : List Seen) → map Known σ ≡ map Known τ ++ e ∷ others → (x : Item) × (ρ : List Item) × (e ≡ Known x) × (σ ≡ τ ++ x ∷ ρ)
among [] [] e others same = cc
among [] (y ∷ τ) e others same = cc
among (x ∷ σ) [] e others same = (x, σ, cc, refl)
among (x ∷ σ) (y ∷ τ) e others same =
    let first : x ≡ y = cc in
    let (z, ρ, is, longer) = among σ τ e others cc in
    (z, ρ, is, cc)

-- a stop is within no allowed trace
stop_not : (mode : Mode) (s : System) (seen : List Seen) (k : ℕ) (e : Seen) (σ : List Item) → (first : IsFirstStop mode s seen k e) (x : Item) (ρ : List Item) → e ≡ Known x → σ ≡ first.trace ++ x ∷ ρ → IsAllowed mode s σ → ⊥
stop_not mode s seen k e σ first x ρ is longer allowed = first.stops x is (allowed_begins mode s (first.trace ++ x ∷ []) ρ (rw (append_assoc first.trace (x ∷ []) ρ) (rw longer at allowed)))

-- what is followed has no stop
followed_not : (mode : Mode) (s : System) (seen : List Seen) (k : ℕ) (e : Seen) (σ : List Item) → IsFollowed mode s seen σ → IsFirstStop mode s seen k e → ⊥
followed_not mode s seen k e σ (same, allowed) first =
    let (x, ρ, is, longer) = among σ first.trace e first.others (sym same ∙ first.whole) in
    stop_not mode s seen k e σ first x ρ is longer allowed

-- two places in what was seen: the same, or one of them is among the items before the other
Places : List Item → Seen → List Item → Seen → Type 0
Places σ e τ f = ((σ ≡ τ) × (e ≡ f)) ⊎ (((x : Item) × (ρ : List Item) × (e ≡ Known x) × (τ ≡ σ ++ x ∷ ρ)) ⊎ ((x : Item) × (ρ : List Item) × (f ≡ Known x) × (σ ≡ τ ++ x ∷ ρ)))

places : (σ τ : List Item) (e f : Seen) (xs ys : List Seen) → map Known σ ++ e ∷ xs ≡ map Known τ ++ f ∷ ys → Places σ e τ f
unfolding Places
places [] [] e f xs ys same = inl (refl, cc)
places [] (y ∷ τ) e f xs ys same = inr (inl (y, τ, cc, refl))
places (x ∷ σ) [] e f xs ys same = inr (inr (x, σ, cc, refl))
places (x ∷ σ) (y ∷ τ) e f xs ys same =
    let first : x ≡ y = cc in
    elim (places σ τ e f xs ys cc) [
      | inl (here, is) ↦ inl (cc, is)
      | inr (inl (z, ρ, is, longer)) ↦ inr (inl (z, ρ, is, cc))
      | inr (inr (z, ρ, is, longer)) ↦ inr (inr (z, ρ, is, cc))
    ]

-- there is one first stop
stop_once : (mode : Mode) (s : System) (seen : List Seen) (k m : ℕ) (e f : Seen) → IsFirstStop mode s seen k e → IsFirstStop mode s seen m f → (k ≡ m) × (e ≡ f)
unfolding Places
stop_once mode s seen k m e f one two = elim (places one.trace two.trace e f one.others two.others (sym one.whole ∙ two.whole)) [
  | inl (same, is) ↦
      let long : length one.trace ≡ length two.trace = ap length same in
      let a = one.place in
      let b = two.place in
      (omega (arith, long, a, b), is)
  | inr (inl (x, ρ, is, longer)) ↦ absurd (stop_not mode s seen k e two.trace one x ρ is longer two.allowed)
  | inr (inr (x, ρ, is, longer)) ↦ absurd (stop_not mode s seen m f one.trace two x ρ is longer one.allowed)
]

-- there is one verdict
pub verdict_once : (mode : Mode) (s : System) (seen : List Seen) (v w : LogVerdict) → IsVerdict mode s seen v → IsVerdict mode s seen w → w ≡ v
verdict_once mode s seen Pass Pass one two = refl
verdict_once mode s seen Pass (Fail m) (σ, is) (f, first, heard) = absurd (followed_not mode s seen m f σ is first)
verdict_once mode s seen Pass (Off m) (σ, is) (f, first, sent) = absurd (followed_not mode s seen m f σ is first)
verdict_once mode s seen (Fail k) Pass (e, first, heard) (σ, is) = absurd (followed_not mode s seen k e σ is first)
verdict_once mode s seen (Off k) Pass (e, first, sent) (σ, is) = absurd (followed_not mode s seen k e σ is first)
verdict_once mode s seen (Fail k) (Fail m) (e, one, heard) (f, two, also) = ap {A = ℕ} {B = LogVerdict} Fail (stop_once mode s seen m k f e two one).0
verdict_once mode s seen (Off k) (Off m) (e, one, sent) (f, two, also) = ap {A = ℕ} {B = LogVerdict} Off (stop_once mode s seen m k f e two one).0
verdict_once mode s seen (Fail k) (Off m) (e, one, heard) (f, two, sent) = absurd (sent (subst IsHeard (stop_once mode s seen k m e f one two).1 heard))
verdict_once mode s seen (Off k) (Fail m) (e, one, sent) (f, two, heard) = absurd (sent (subst IsHeard (sym (stop_once mode s seen k m e f one two).1) heard))

-- place by place, with one place more
pub zip_push : {X Y : Type 0} (R : X → Y → Type 0) (xs : List X) (ys : List Y) (x : X) (y : Y) → AllZip R xs ys → R x y → AllZip R (xs ++ x ∷ []) (ys ++ y ∷ [])
zip_push R [] [] x y all one = (one, tt)
zip_push R [] (z ∷ ys) x y all one = absurd all
zip_push R (z ∷ xs) [] x y all one = absurd all
zip_push R (z ∷ xs) (w ∷ ys) x y all one = (all.0, zip_push R xs ys x y all.1 one)

-- one entry more
pub zip_more : {X Y : Type 0} (R : X → Y → Type 0) (xs : List X) (ys : List Y) (i : ℕ) (x : X) (y : Y) → i < length xs → x ≡ get_or xs i x → AllZip R (take i xs) ys → R x y → AllZip R (take (i + 1) xs) (ys ++ y ∷ [])
zip_more R xs ys i x y below is all one = rw (take_more xs i x below) (zip_push R (take i xs) ys (get_or xs i x) y all (subst (λ z. R z y) is one))

-- a text that is that of an output is that of no input
pub output_no_input : (a : Alphabet) (text : List ℕ) (k : ℕ) → IsAlphabet a → a.inputs ≤ k → k < length a.texts → text_at a.texts k ≡ text → (j : ℕ) → IsInputText a text j → ⊥
output_no_input a text k alphabet above below is j input = alphabet.apart j k input.0 above below (sym input.1 ∙ sym is)

-- a text that is that of an input is that of no output
pub input_no_output : (a : Alphabet) (text : List ℕ) (k : ℕ) → IsAlphabet a → k < a.inputs → text_at a.texts k ≡ text → (j : ℕ) → IsOutputText a text j → ⊥
input_no_output a text k alphabet below is j output = alphabet.apart k j below output.0 output.1 (is ∙ output.2)

-- as many places as entries
pub zip_long : {X Y : Type 0} (R : X → Y → Type 0) (xs : List X) (ys : List Y) → AllZip R xs ys → length ys ≡ length xs
zip_long R [] [] all = refl
zip_long R [] (y ∷ ys) all = absurd all
zip_long R (x ∷ xs) [] all = absurd all
zip_long R (x ∷ xs) (y ∷ ys) all = let long = zip_long R xs ys all.1 in omega (arith, long)

-- what is known of an entry is an item of each system over the alphabet
seen_item : (a : Alphabet) (s : System) (e : Entry) (v : Seen) → IsAlphabet a → IsOver a s → IsSeenAs a e v → IsSeenOf s v
seen_item a s (Sent text) (Known (Input k)) alphabet over is = let low = is.0 in omega (arith, low, over.inputs)
seen_item a s (Sent text) (Known (Output k)) alphabet over is = absurd is
seen_item a s (Sent text) (Known Delta) alphabet over is = absurd is
seen_item a s (Sent text) StrangeSent alphabet over is = tt
seen_item a s (Sent text) StrangeHeard alphabet over is = absurd is
seen_item a s (Heard text) (Known (Input k)) alphabet over is = absurd is
seen_item a s (Heard text) (Known (Output k)) alphabet over is =
    let high = is.0 in
    let below = is.1 in
    let inputs = alphabet.inputs in
    (omega (arith, high, over.inputs), omega (arith, below, inputs, over.inputs, over.outputs))
seen_item a s (Heard text) (Known Delta) alphabet over is = absurd is
seen_item a s (Heard text) StrangeSent alphabet over is = absurd is
seen_item a s (Heard text) StrangeHeard alphabet over is = tt
seen_item a s Quiet (Known (Input k)) alphabet over is = absurd is
seen_item a s Quiet (Known (Output k)) alphabet over is = absurd is
seen_item a s Quiet (Known Delta) alphabet over is = tt
seen_item a s Quiet StrangeSent alphabet over is = absurd is
seen_item a s Quiet StrangeHeard alphabet over is = absurd is

pub seen_items : (a : Alphabet) (s : System) (es : List Entry) (vs : List Seen) → IsAlphabet a → IsOver a s → AllZip (IsSeenAs a) es vs → All (IsSeenOf s) vs
seen_items a s [] [] alphabet over all = All-nil (IsSeenOf s)
seen_items a s [] (v ∷ vs) alphabet over all = absurd all
seen_items a s (e ∷ es) [] alphabet over all = absurd all
seen_items a s (e ∷ es) (v ∷ vs) alphabet over all = All-cons (IsSeenOf s) v vs (seen_item a s e v alphabet over all.0) (seen_items a s es vs alphabet over all.1)

-- a text is that of one input
input_once : (a : Alphabet) (text : List ℕ) (j k : ℕ) → IsAlphabet a → IsInputText a text j → IsInputText a text k → Input j ≡ Input k
input_once a text j k alphabet one two = item_once a text (Input j) (Input k) alphabet one two

-- a text is that of one output
output_once : (a : Alphabet) (text : List ℕ) (j k : ℕ) → IsAlphabet a → IsOutputText a text j → IsOutputText a text k → Output j ≡ Output k
output_once a text j k alphabet one two = item_once a text (Output j) (Output k) alphabet ((one.0, one.1), one.2) ((two.0, two.1), two.2)

-- an entry says one thing
seen_once : (a : Alphabet) (e : Entry) (v w : Seen) → IsAlphabet a → IsSeenAs a e v → IsSeenAs a e w → w ≡ v
seen_once a (Sent text) (Known (Input k)) (Known (Input j)) alphabet one two = ap Known (input_once a text j k alphabet two one)
seen_once a (Sent text) (Known (Input k)) StrangeSent alphabet one two = absurd (two k one)
seen_once a (Sent text) StrangeSent (Known (Input j)) alphabet one two = absurd (one j two)
seen_once a (Sent text) StrangeSent StrangeSent alphabet one two = refl
seen_once a (Sent text) (Known (Output k)) w alphabet one two = absurd one
seen_once a (Sent text) (Known Delta) w alphabet one two = absurd one
seen_once a (Sent text) StrangeHeard w alphabet one two = absurd one
seen_once a (Sent text) v (Known (Output j)) alphabet one two = absurd two
seen_once a (Sent text) v (Known Delta) alphabet one two = absurd two
seen_once a (Sent text) v StrangeHeard alphabet one two = absurd two
seen_once a (Heard text) (Known (Output k)) (Known (Output j)) alphabet one two = ap Known (output_once a text j k alphabet two one)
seen_once a (Heard text) (Known (Output k)) StrangeHeard alphabet one two = absurd (two k one)
seen_once a (Heard text) StrangeHeard (Known (Output j)) alphabet one two = absurd (one j two)
seen_once a (Heard text) StrangeHeard StrangeHeard alphabet one two = refl
seen_once a (Heard text) (Known (Input k)) w alphabet one two = absurd one
seen_once a (Heard text) (Known Delta) w alphabet one two = absurd one
seen_once a (Heard text) StrangeSent w alphabet one two = absurd one
seen_once a (Heard text) v (Known (Input j)) alphabet one two = absurd two
seen_once a (Heard text) v (Known Delta) alphabet one two = absurd two
seen_once a (Heard text) v StrangeSent alphabet one two = absurd two
seen_once a Quiet (Known Delta) (Known Delta) alphabet one two = refl
seen_once a Quiet (Known (Input k)) w alphabet one two = absurd one
seen_once a Quiet (Known (Output k)) w alphabet one two = absurd one
seen_once a Quiet StrangeSent w alphabet one two = absurd one
seen_once a Quiet StrangeHeard w alphabet one two = absurd one
seen_once a Quiet v (Known (Input j)) alphabet one two = absurd two
seen_once a Quiet v (Known (Output j)) alphabet one two = absurd two
seen_once a Quiet v StrangeSent alphabet one two = absurd two
seen_once a Quiet v StrangeHeard alphabet one two = absurd two

-- a log says one thing
pub all_seen_once : (a : Alphabet) (es : List Entry) (vs ws : List Seen) → IsAlphabet a → AllZip (IsSeenAs a) es vs → AllZip (IsSeenAs a) es ws → ws ≡ vs
all_seen_once a [] [] [] alphabet one two = refl
all_seen_once a [] (v ∷ vs) ws alphabet one two = absurd one
all_seen_once a [] [] (w ∷ ws) alphabet one two = absurd two
all_seen_once a (e ∷ es) [] ws alphabet one two = absurd one
all_seen_once a (e ∷ es) (v ∷ vs) [] alphabet one two = absurd two
all_seen_once a (e ∷ es) (v ∷ vs) (w ∷ ws) alphabet one two =
    let first : w ≡ v = seen_once a e v w alphabet one.0 two.0 in
    let rest : ws ≡ vs = all_seen_once a es vs ws alphabet one.1 two.1 in
    cc
