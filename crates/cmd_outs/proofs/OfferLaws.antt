-- What a set shows and allows, gathered label by label; and where a trace leads.
use Rattle.std.proofs.Common.{◌≡◌, ℕ, zero, suc, ◌+◌, ◌-◌, ◌<◌, ◌≤◌, List, [], ◌∷◌, ◌++◌, length, map, take, All, Contains, get_or, inl, inr, refl, sym, subst, ap, arith, ◌⊎◌}
use Rattle.std.specs.List.Sorted.{IsStrictlyIncreasing}
use Rattle.std.proofs.lemmas.List.{map-append, take_more}
use Rattle.std.proofs.lemmas.List.Elements.{All-push, All-nil, All-map, Contains-push, Contains-append_left}
use Rattle.lts_base.specs.declared.item.Item.{Item}
use Rattle.lts_base.specs.declared.item.Item.TheVariants.{Input, Output, Delta}
use Rattle.lts_base.specs.declared.item.Mode.{Mode}
use Rattle.lts_base.specs.System.{System, IsSystem, IsItemOf, label_count}
use Rattle.lts_base.specs.After.{IsSetAfter, Shows, Allows}
use Rattle.lts_base.specs.Alphabet.{Alphabet, IsOver}
use Rattle.lts_base.specs.Next.{IsNext}
use Rattle.lts_base.specs.Conformance.{IsAllowed}
use Rattle.lts_base.specs.Order.{place}
use Rattle.lts_base.proofs.ListLaws.{IsStrictlyIncreasing-push}
use Rattle.lts_base.proofs.SetLaws.{IsSetAfter-next, Shows-item}
use Rattle.lts_base.proofs.AllowedLaws.{IsAllowed-nil, IsAllowed-last, IsAllowed-push}
use Rattle.trace_text.specs.Items.{IsItem, IsPrintable}
use Rattle.cmd_outs.specs.Outs.{AreItemsWith, AllowsInput, IsFirstAbsent}
use Rattle.cmd_outs.specs.Followed.{ShowsOutput}

-- the items with P whose places are below k have been gathered
pub record AreItemsBelow (P : Item → Type 0) (n k : ℕ) (items : List Item) : Type 0 where
  pub rising : IsStrictlyIncreasing (map (place n) items)
  pub each : All P items
  pub below : All (λ (p : ℕ). p < k) (map (place n) items)
  pub all : (x : Item) → P x → place n x < k → Contains items x

-- before the first place there are none
pub gathered_none : (P : Item → Type 0) (n k : ℕ) → ((x : Item) → P x → k ≤ place n x) → AreItemsBelow P n k []
gathered_none P n k least = record {
  rising = λ j below. absurd (omega (arith, below));
  each = All-nil P;
  below = All-nil (λ (p : ℕ). p < k);
  all = λ x h low. absurd (omega (arith, least x h, low));
}

-- places below k are below the next one
wider : (k : ℕ) (ps : List ℕ) → All (λ (p : ℕ). p < k) ps → All (λ (p : ℕ). p < k + 1) ps
wider k ps below j d lt = let low = below j d lt in omega (arith, low)

-- at most is the same or below
at_most : (p q : ℕ) → p ≤ q → (p ≡ q) ⊎ (p < q)
at_most zero zero low = inl refl
at_most zero (suc q) low = inr (omega arith)
at_most (suc p) zero low = absurd (omega (arith, low))
at_most (suc p) (suc q) low = elim (at_most p q (omega (arith, low))) [ inl same ↦ inl (ap suc same) | inr less ↦ inr (omega (arith, less)) ]

-- the item at place k is one with P, and is added
gathered_more : (P : Item → Type 0) (n k : ℕ) (items : List Item) (x : Item) → AreItemsBelow P n k items → P x → place n x ≡ k →
    ((y : Item) → P y → place n y ≡ k → y ≡ x) → AreItemsBelow P n (k + 1) (items ++ x ∷ [])
gathered_more P n k items x so_far is here only = record {
  rising = subst IsStrictlyIncreasing (sym (map-append (place n) items (x ∷ []))) (rw here (IsStrictlyIncreasing-push (map (place n) items) k so_far.rising so_far.below));
  each = All-push P items x so_far.each is;
  below = subst (All (λ (p : ℕ). p < k + 1)) (sym (map-append (place n) items (x ∷ []))) (All-push (λ (p : ℕ). p < k + 1) (map (place n) items) (place n x) (wider k (map (place n) items) so_far.below) (omega (arith, here)));
  all = all;
}
  where
    all : (y : Item) → P y → place n y < k + 1 → Contains (items ++ x ∷ []) y
    all y h low = elim (at_most (place n y) k (omega (arith, low))) [
      | inl same ↦ rw (only y h same) (Contains-push items x)
      | inr less ↦ Contains-append_left items (x ∷ []) y (so_far.all y h less)
    ]

-- no item at place k is one with P
gathered_same : (P : Item → Type 0) (n k : ℕ) (items : List Item) → AreItemsBelow P n k items → ((y : Item) → P y → place n y ≡ k → ⊥) → AreItemsBelow P n (k + 1) items
gathered_same P n k items so_far none = record {
  rising = so_far.rising;
  each = so_far.each;
  below = wider k (map (place n) items) so_far.below;
  all = all;
}
  where
    all : (y : Item) → P y → place n y < k + 1 → Contains items y
    all y h low = elim (at_most (place n y) k (omega (arith, low))) [
      | inl same ↦ absurd (none y h same)
      | inr less ↦ so_far.all y h less
    ]

-- all have been gathered
pub gathered_all : (P : Item → Type 0) (n k : ℕ) (items : List Item) → AreItemsBelow P n k items → ((x : Item) → P x → place n x < k) → AreItemsWith P n items
gathered_all P n k items so_far low = record { rising = so_far.rising; each = so_far.each; all = λ x h. so_far.all x h (low x h) }

-- an output that is shown, or an input that is allowed, by its number
output_at : (s : System) (ps : List ℕ) (n k : ℕ) (y : Item) → ShowsOutput s ps y → place n y ≡ k → y ≡ Output k
output_at s ps n k (Input a) h e = absurd h
output_at s ps n k (Output a) h e = ap Output e
output_at s ps n k Delta h e = absurd h

input_at : (mode : Mode) (s : System) (ps : List ℕ) (n k : ℕ) (y : Item) → AllowsInput mode s ps y → place n y ≡ k → y ≡ Input k
input_at mode s ps n k (Input a) h e = ap Input e
input_at mode s ps n k (Output a) h e = absurd h
input_at mode s ps n k Delta h e = absurd h

-- the next output is shown, or isn't; the next input is allowed, or isn't
pub outputs_more : (s : System) (ps : List ℕ) (k : ℕ) (items : List Item) → AreItemsBelow (ShowsOutput s ps) (label_count s) k items → Shows s ps (Output k) → AreItemsBelow (ShowsOutput s ps) (label_count s) (k + 1) (items ++ Output k ∷ [])
outputs_more s ps k items so_far shown = gathered_more (ShowsOutput s ps) (label_count s) k items (Output k) so_far shown refl (output_at s ps (label_count s) k)

pub outputs_same : (s : System) (ps : List ℕ) (k : ℕ) (items : List Item) → AreItemsBelow (ShowsOutput s ps) (label_count s) k items → (Shows s ps (Output k) → ⊥) → AreItemsBelow (ShowsOutput s ps) (label_count s) (k + 1) items
outputs_same s ps k items so_far hidden = gathered_same (ShowsOutput s ps) (label_count s) k items so_far (λ y h e. hidden (subst (ShowsOutput s ps) (output_at s ps (label_count s) k y h e) h))

pub inputs_more : (mode : Mode) (s : System) (ps : List ℕ) (k : ℕ) (items : List Item) → AreItemsBelow (AllowsInput mode s ps) (label_count s) k items → k < s.inputs → Allows mode s ps (Input k) →
    AreItemsBelow (AllowsInput mode s ps) (label_count s) (k + 1) (items ++ Input k ∷ [])
inputs_more mode s ps k items so_far low allowed = gathered_more (AllowsInput mode s ps) (label_count s) k items (Input k) so_far (low, allowed) refl (input_at mode s ps (label_count s) k)

pub inputs_same : (mode : Mode) (s : System) (ps : List ℕ) (k : ℕ) (items : List Item) → AreItemsBelow (AllowsInput mode s ps) (label_count s) k items → (Allows mode s ps (Input k) → ⊥) → AreItemsBelow (AllowsInput mode s ps) (label_count s) (k + 1) items
inputs_same mode s ps k items so_far refused = gathered_same (AllowsInput mode s ps) (label_count s) k items so_far (λ y h e. let allowed = subst (AllowsInput mode s ps) (input_at mode s ps (label_count s) k y h e) h in refused allowed.1)

-- the outputs that are shown stand between the inputs and the end
pub output_low : (s : System) (ps : List ℕ) (n : ℕ) (x : Item) → ShowsOutput s ps x → s.inputs ≤ place n x
output_low s ps n (Input a) h = absurd h
output_low s ps n (Output a) h = h.2.0
output_low s ps n Delta h = absurd h

pub output_high : (s : System) (ps : List ℕ) (n : ℕ) (x : Item) → IsSystem s → ShowsOutput s ps x → place n x < label_count s
output_high s ps n (Input a) sound h = absurd h
output_high s ps n (Output a) sound h = (Shows-item s ps (Output a) sound h).1
output_high s ps n Delta sound h = absurd h

pub input_low : (mode : Mode) (s : System) (ps : List ℕ) (n : ℕ) (x : Item) → AllowsInput mode s ps x → 0 ≤ place n x
input_low mode s ps n x h = omega arith

pub input_high : (mode : Mode) (s : System) (ps : List ℕ) (n : ℕ) (x : Item) → AllowsInput mode s ps x → place n x < s.inputs
input_high mode s ps n (Input a) h = h.0
input_high mode s ps n (Output a) h = absurd h
input_high mode s ps n Delta h = absurd h

-- the outputs are all that is shown but `delta`
shows_output : (s : System) (ps : List ℕ) (x : Item) → ShowsOutput s ps x → Shows s ps x
shows_output s ps (Input a) h = absurd h
shows_output s ps (Output a) h = h
shows_output s ps Delta h = absurd h

-- with `delta` after the outputs that are shown, these are all items that are shown
pub shown_delta : (s : System) (ps : List ℕ) (items : List Item) → IsSystem s → AreItemsWith (ShowsOutput s ps) (label_count s) items → Shows s ps Delta →
    AreItemsWith (Shows s ps) (label_count s) (items ++ Delta ∷ [])
shown_delta s ps items sound outputs quiet = record {
  rising = subst IsStrictlyIncreasing (sym (map-append (place (label_count s)) items (Delta ∷ []))) (IsStrictlyIncreasing-push (map (place (label_count s)) items) (label_count s) outputs.rising low);
  each = All-push (Shows s ps) items Delta (λ k d below. shows_output s ps _ (outputs.each k d below)) quiet;
  all = all;
}
  where
    low : All (λ (p : ℕ). p < label_count s) (map (place (label_count s)) items)
    low = All-map (λ (p : ℕ). p < label_count s) (place (label_count s)) items (λ k d below. output_high s ps (label_count s) _ sound (outputs.each k d below))

    all : (x : Item) → Shows s ps x → Contains (items ++ Delta ∷ []) x
    all (Input a) h = absurd h.2
    all (Output a) h = Contains-append_left items (Delta ∷ []) (Output a) (outputs.all (Output a) h)
    all Delta h = Contains-push items Delta

-- without `delta` the outputs are all that is shown
pub shown_outputs : (s : System) (ps : List ℕ) (items : List Item) → AreItemsWith (ShowsOutput s ps) (label_count s) items → (Shows s ps Delta → ⊥) → AreItemsWith (Shows s ps) (label_count s) items
shown_outputs s ps items outputs moving = record {
  rising = outputs.rising;
  each = λ k d below. shows_output s ps _ (outputs.each k d below);
  all = all;
}
  where
    all : (x : Item) → Shows s ps x → Contains items x
    all (Input a) h = absurd h.2
    all (Output a) h = outputs.all (Output a) h
    all Delta h = absurd (moving h)

-- items of the system's alphabet can be printed
item_printable : (s : System) (n : ℕ) (x : Item) → label_count s ≡ n → IsItemOf s x → IsPrintable n x
item_printable s n (Input a) e h = omega (arith, e, h)
item_printable s n (Output a) e h = omega (arith, e, h.1)
item_printable s n Delta e h = tt

pub shown_printable : (s : System) (ps : List ℕ) (n : ℕ) (items : List Item) → label_count s ≡ n → IsSystem s → All (Shows s ps) items → All (IsPrintable n) items
shown_printable s ps n items e sound shown k d below = item_printable s n _ e (Shows-item s ps _ sound (shown k d below))

pub allowed_printable : (mode : Mode) (s : System) (ps : List ℕ) (n : ℕ) (items : List Item) → label_count s ≡ n → All (AllowsInput mode s ps) items → All (IsPrintable n) items
allowed_printable mode s ps n items e allowed k d below = go (get_or items k d) (allowed k d below)
  where
    go : (x : Item) → AllowsInput mode s ps x → IsPrintable n x
    go (Input a) h = omega (arith, e, h.0)
    go (Output a) h = absurd h
    go Delta h = absurd h

-- items over the alphabet are items of a system over it
pub items_of : (a : Alphabet) (s : System) (σ : List Item) → a.inputs ≤ length a.texts → IsOver a s → All (IsItem a) σ → All (IsItemOf s) σ
items_of a s σ inputs over items k d below = go (get_or σ k d) (items k d below)
  where
    go : (x : Item) → IsItem a x → IsItemOf s x
    go (Input j) h = rw (over.inputs) h
    go (Output j) h = (omega (arith, over.inputs, h.0), omega (arith, over.inputs, over.outputs, h.1, inputs))
    go Delta h = tt

-- the first k items of the trace are an allowed trace, which leads to this set
pub record IsFollowed (mode : Mode) (s : System) (σ : List Item) (k : ℕ) (set : List ℕ) : Type 0 where
  pub allowed : IsAllowed mode s (take k σ)
  pub set_is : IsSetAfter s (take k σ) set
  pub within : All (λ (q : ℕ). q < s.states) set

pub followed_none : (mode : Mode) (s : System) (σ : List Item) (set : List ℕ) → IsSetAfter s [] set → All (λ (q : ℕ). q < s.states) set → IsFollowed mode s σ 0 set
followed_none mode s σ set is within = record { allowed = IsAllowed-nil mode s; set_is = is; within = within }

pub followed_more : (mode : Mode) (s : System) (σ : List Item) (k : ℕ) (d : Item) (set next : List ℕ) → IsSystem s → IsFollowed mode s σ k set → k < length σ → IsItemOf s (get_or σ k d) →
    Allows mode s set (get_or σ k d) → IsNext s (get_or σ k d) set next → All (λ (q : ℕ). q < s.states) next → IsFollowed mode s σ (k + 1) next
followed_more mode s σ k d set next sound so_far below item allows step within = record {
  allowed = subst (IsAllowed mode s) (sym (take_more σ k d below)) (IsAllowed-push mode s (take k σ) (get_or σ k d) set sound item so_far.set_is so_far.allowed allows);
  set_is = subst (λ (τ : List Item). IsSetAfter s τ next) (sym (take_more σ k d below)) (IsSetAfter-next s (get_or σ k d) (take k σ) set next so_far.set_is step);
  within = within;
}

pub followed_absent : (mode : Mode) (s : System) (σ : List Item) (k : ℕ) (d : Item) (set : List ℕ) → IsSystem s → IsFollowed mode s σ k set → k < length σ →
    (Allows mode s set (get_or σ k d) → ⊥) → IsFirstAbsent mode s σ (k + 1)
followed_absent mode s σ k d set sound so_far below refused = record {
  some = omega arith;
  within = omega (arith, below);
  before = subst (λ (n : ℕ). IsAllowed mode s (take n σ)) (minus k) so_far.allowed;
  absent = λ allowed. refused (IsAllowed-last mode s (take k σ) (get_or σ k d) set sound so_far.set_is (subst (IsAllowed mode s) (take_more σ k d below) allowed));
}
  where
    minus : (n : ℕ) → n ≡ n + 1 - 1
    minus n = omega arith
