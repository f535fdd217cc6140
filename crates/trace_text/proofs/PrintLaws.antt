-- What is printed for a trace is read again as that trace.
use Rattle.std.proofs.Common.{◌≡◌, ◌∙◌, ℕ, zero, suc, ◌-◌, ◌<◌, ◌≤◌, true, List, [], ◌∷◌, length, map, filter, drop, All, codes, refl, sym, ap, subst, inl, inr, arith}
use Rattle.std.specs.List.{AllZip, list_all}
use Rattle.std.specs.Str.{bytes_eq}
use Rattle.std.proofs.lemmas.List.{append_assoc}
use Rattle.lts_base.specs.declared.item.Item.{Item}
use Rattle.lts_base.specs.declared.item.Item.TheVariants.{Input, Output, Delta}
use Rattle.lts_base.specs.Alphabet.{Alphabet, IsAlphabet, IsLabel, text_at}
use Rattle.text_scan.specs.Cut.{Lacks}
use Rattle.text_scan.specs.Lines.{lines_of, without_cr}
use Rattle.text_scan.specs.Listing.{has_bytes, texts_of, IsPlain}
use Rattle.trace_text.specs.Items.{IsItem, IsNamed, item_text}
use Rattle.trace_text.specs.Lines.{items_text}
use Rattle.trace_text.specs.Traces.{IsTrace}
use Rattle.text_scan.proofs.LineLaws.{lines_of-line}
use Rattle.std.proofs.lemmas.Bool.{cases_Bool, false≢true, ltb-true}
use Rattle.std.proofs.lemmas.Slice.Eq.{bytes_eq-Decides}
use Rattle.std.proofs.lemmas.List.Elements.{All-drop, All-head, All-tail, All-weaker}
use Rattle.std.proofs.lemmas.List.Sums.{AllPass-from_list_all}
use Rattle.std.specs.Prelude.{nat_lt}

-- the text isn't empty, and no byte of it is below 32
record IsClean (text : List ℕ) : Type 0 where
  pub some : has_bytes text ≡ true
  pub plain : IsPlain text

label_clean : (text : List ℕ) → IsLabel text → IsClean text
label_clean [] is = let some = is.some in absurd (omega (arith, some))
label_clean (b ∷ text) is = record { some = refl; plain = is.plain }

-- a test of all bytes
plain_all : (text : List ℕ) → list_all (λ b. nat_lt 31 b) text ≡ true → IsPlain text
plain_all text test = All-weaker (λ b. nat_lt 31 b ≡ true) (λ b. 32 ≤ b) (λ b high. high_byte b high) text (AllPass-from_list_all (λ b. nat_lt 31 b) text test)
  where
    high_byte : (b : ℕ) → nat_lt 31 b ≡ true → 32 ≤ b
    high_byte b high = let above : 31 < b = ltb-true 31 b high in omega (arith, above)

delta_plain : IsPlain (codes "delta")
delta_plain = plain_all (codes "delta") refl

-- the text of each item of an alphabet
item_clean : (a : Alphabet) (x : Item) → IsAlphabet a → IsItem a x → IsClean (item_text a.texts x)
item_clean a (Input k) alphabet is = label_clean (text_at a.texts k) (alphabet.labels k [] (omega (arith, is, alphabet.inputs)))
item_clean a (Output k) alphabet is = label_clean (text_at a.texts k) (alphabet.labels k [] is.1)
item_clean a Delta alphabet is = record { some = refl; plain = delta_plain }

-- no byte that is below 32 is in such a text
pub plain_lacks : (b : ℕ) (text : List ℕ) → b < 32 → IsPlain text → Lacks b text
plain_lacks b [] low plain = tt
plain_lacks b (c ∷ text) low plain =
    let first : 32 ≤ c = plain zero 0 (omega arith) in
    ((λ e. omega (arith, first, e, low)), plain_lacks b text low (λ k d below. plain (suc k) d (omega (arith, below))))

-- no LF is in the text of an item
pub item_lacks : (a : Alphabet) (x : Item) → IsAlphabet a → IsItem a x → Lacks 10 (item_text a.texts x)
item_lacks a x alphabet is = plain_lacks 10 (item_text a.texts x) (omega arith) (item_clean a x alphabet is).plain

-- no CR goes from such a text
plain_same : (text : List ℕ) → IsPlain text → without_cr text ≡ text
plain_same text plain = elim (cases_Bool (bytes_eq (drop (length text - 1) text) (13 ∷ []))) [
  | inl is ↦
      let last : drop (length text - 1) text ≡ 13 ∷ [] = (bytes_eq-Decides (drop (length text - 1) text) (13 ∷ [])).0 is in
      let high : IsPlain (13 ∷ []) = subst IsPlain last (All-drop (λ b. 32 ≤ b) (length text - 1) text plain) in
      let low : 32 ≤ 13 = high zero 0 (omega arith) in
      absurd (omega (arith, low))
  | inr not ↦ rw not refl
]

-- the text of a trace, item by item
pub trace_printed : (a : Alphabet) (σ : List Item) → IsAlphabet a → All (IsItem a) σ → IsTrace a (items_text [] a.texts σ) σ
trace_printed a [] alphabet each = tt
trace_printed a (x ∷ σ) alphabet each =
    let is : IsItem a x = All-head (IsItem a) x σ each in
    let rest = trace_printed a σ alphabet (All-tail (IsItem a) x σ each) in
    let clean = item_clean a x alphabet is in
    let lines : lines_of (items_text [] a.texts (x ∷ σ)) ≡ item_text a.texts x ∷ lines_of (items_text [] a.texts σ) =
    ap lines_of (append_assoc (item_text a.texts x) (10 ∷ []) (items_text [] a.texts σ)) ∙ lines_of-line (item_text a.texts x) (items_text [] a.texts σ) (item_lacks a x alphabet is) in
    subst (λ (ls : List (List ℕ)). AllZip (IsNamed a) (texts_of ls) (x ∷ σ)) (sym lines)
    (named (without_cr (item_text a.texts x)) (plain_same (item_text a.texts x) clean.plain) rest clean.some is)
  where
    named : (text : List ℕ) → text ≡ item_text a.texts x → IsTrace a (items_text [] a.texts σ) σ → has_bytes (item_text a.texts x) ≡ true → IsItem a x →
        AllZip (IsNamed a) (filter has_bytes (text ∷ map without_cr (lines_of (items_text [] a.texts σ)))) (x ∷ σ)
    named [] same rest some is = absurd (false≢true (ap has_bytes same ∙ some))
    named (b ∷ text) same rest some is = ((is, same), rest)
