-- What a line adds is one thing, or it has one fault.
use Rattle.std.proofs.Common.{◌≡◌, ◌∙◌, ℕ, zero, suc, ◌+◌, ◌^◌, ◌<◌, ◌≤◌, List, [], ◌∷◌, ◌++◌, map, All, ◌⊎◌, inl, inr, refl, sym, ap, subst, arith, decimal, codes}
use Rattle.std.proofs.lemmas.Fmt.{decimal_injective}
use Rattle.lts_base.specs.declared.item.Item.{Item}
use Rattle.lts_base.specs.declared.item.Mode.{Mode}
use Rattle.lts_base.specs.declared.item.Mode.TheVariants.{Ioco, Uioco}
use Rattle.lts_base.specs.Alphabet.{Alphabet, IsAlphabet}
use Rattle.cert_text.specs.declared.error.CertError.{CertError}
use Rattle.cert_text.specs.declared.error.CertError.TheVariants.{Line, Cut, UnknownLabel, StateRange, Memory}
use Rattle.cert_text.specs.declared.stage.Stage.{Stage}
use Rattle.cert_text.specs.declared.stage.Stage.TheVariants.{Opening, Titled, Moded, Pairing, Tracing, Showing, Ended}
use Rattle.cert_text.specs.Printed.{spaced, mode_line}
use Rattle.trace_text.specs.Items.{item_text}
use Rattle.trace_text.proofs.ItemLaws.{item_from_shown}
use Rattle.trace_text.proofs.OnceLaws.{item_once}
use Rattle.cert_text.specs.Numbers.{IsListOf, HasLarge, value_of}
use Rattle.cert_text.specs.Faults.{MayFollow, NamesNone, ListsLarge, IsFaultOf, IsRestFault}
use Rattle.cert_text.specs.Adding.{Adds}
use Rattle.cert_text.proofs.NumberLaws.{value-decimal}
use Rattle.cert_text.proofs.ListingLaws.{numbers_of, numbers_once, IsNumberList-states}
use Rattle.cert_text.proofs.PieceLaws.{apart}

-- a mode is told by its line
mode_once : (m n : Mode) → mode_line m ≡ mode_line n → m ≡ n
mode_once Ioco Ioco e = refl
mode_once Ioco Uioco e = let f : ◌≡◌ {A = ℕ} 105 117 = cc in absurd (omega (arith, f))
mode_once Uioco Ioco e = let f : ◌≡◌ {A = ℕ} 117 105 = cc in absurd (omega (arith, f))
mode_once Uioco Uioco e = refl

-- numbers below a bound are told by what is written of them
decimals_once : (bound : ℕ) (xs ys : List ℕ) → bound ≤ 2 ^ 64 → All (λ q. q < bound) xs → All (λ q. q < bound) ys → map decimal xs ≡ map decimal ys → xs ≡ ys
decimals_once bound [] [] few below_x below_y e = refl
decimals_once bound [] (y ∷ ys) few below_x below_y e = cc
decimals_once bound (x ∷ xs) [] few below_x below_y e = cc
decimals_once bound (x ∷ xs) (y ∷ ys) few below_x below_y e =
    let one : x < bound = below_x zero x (omega arith) in
    let two : y < bound = below_y zero y (omega arith) in
    let first : decimal x ≡ decimal y = cc in
    let others : map decimal xs ≡ map decimal ys = cc in
    let same : x ≡ y = decimal_injective x y (omega (arith, one, few)) (omega (arith, two, few)) first in
    let rest : xs ≡ ys = decimals_once bound xs ys few (λ k d below. below_x (suc k) d (omega (arith, below))) (λ k d below. below_y (suc k) d (omega (arith, below))) others in
    cc

-- the states are told by the text that lists them
list_once : (bound : ℕ) (text xs ys : List ℕ) → bound ≤ 2 ^ 64 → IsListOf bound text xs → IsListOf bound text ys → xs ≡ ys
list_once bound text xs ys few one two = decimals_once bound xs ys few one.list.below two.list.below (numbers_once (map decimal xs) (map decimal ys) (numbers_of bound xs few one.list.below) (numbers_of bound ys few two.list.below) (sym one.list.spelled ∙ two.list.spelled))

-- a list of states below a bound has none that isn't
list_small : (bound : ℕ) (text xs : List ℕ) → bound ≤ 2 ^ 64 → IsListOf bound text xs → HasLarge bound text → ⊥
list_small bound text xs few is large =
    let same : map decimal xs ≡ large.before ++ large.large ∷ large.after = numbers_once (map decimal xs) (large.before ++ large.large ∷ large.after) (numbers_of bound xs few is.list.below) large.each (sym is.list.spelled ∙ large.spelled) in
    go xs large.before same is.list.below
  where
    go : (xs : List ℕ) (before : List (List ℕ)) → map decimal xs ≡ before ++ large.large ∷ large.after → All (λ q. q < bound) xs → ⊥
    go [] [] e below = cc
    go [] (b ∷ before) e below = cc
    go (x ∷ xs) [] e below =
        let small : x < bound = below zero x (omega arith) in
        let first : decimal x ≡ large.large = cc in
        let value : value_of large.large ≡ x = ap {A = List ℕ} {B = ℕ} value_of (sym first) ∙ value-decimal x (omega (arith, small, few)) in
        omega (arith, value, small, large.over)
    go (x ∷ xs) (b ∷ before) e below = let rest : map decimal xs ≡ before ++ large.large ∷ large.after = cc in go xs before rest (λ k d under. below (suc k) d (omega (arith, under)))

-- a pair is told by what is written of it
pair_once : (p q : ℕ × ℕ) → (p.0 < 2 ^ 32) × (p.1 < 2 ^ 32) → (q.0 < 2 ^ 32) × (q.1 < 2 ^ 32) → spaced (decimal (p.0 + 1) ∷ decimal (p.1 + 1) ∷ []) ≡ spaced (decimal (q.0 + 1) ∷ decimal (q.1 + 1) ∷ []) → p ≡ q
pair_once p q fits_p fits_q e =
    let listed : (p.0 + 1) ∷ (p.1 + 1) ∷ [] ≡ (q.0 + 1) ∷ (q.1 + 1) ∷ [] =
    decimals_once (2 ^ 64) ((p.0 + 1) ∷ (p.1 + 1) ∷ []) ((q.0 + 1) ∷ (q.1 + 1) ∷ []) (omega arith) (small p fits_p) (small q fits_q)
    (numbers_once (decimal (p.0 + 1) ∷ decimal (p.1 + 1) ∷ []) (decimal (q.0 + 1) ∷ decimal (q.1 + 1) ∷ []) (numbers_of (2 ^ 64) ((p.0 + 1) ∷ (p.1 + 1) ∷ []) (omega arith) (small p fits_p)) (numbers_of (2 ^ 64) ((q.0 + 1) ∷ (q.1 + 1) ∷ []) (omega arith) (small q fits_q)) e) in
    let first : p.0 + 1 ≡ q.0 + 1 = cc in
    let second : p.1 + 1 ≡ q.1 + 1 = cc in
    let same0 : p.0 ≡ q.0 = omega (arith, first) in
    let same1 : p.1 ≡ q.1 = omega (arith, second) in
    ap {A = ℕ} {B = ℕ × ℕ} (λ i. (i, p.1)) same0 ∙ ap {A = ℕ} {B = ℕ × ℕ} (λ j. (q.0, j)) same1
  where
    small : (p : ℕ × ℕ) → (p.0 < 2 ^ 32) × (p.1 < 2 ^ 32) → All (λ n. n < 2 ^ 64) ((p.0 + 1) ∷ (p.1 + 1) ∷ [])
    small p fits zero d below = omega (arith, fits.0)
    small p fits (suc zero) d below = omega (arith, fits.1)
    small p fits (suc (suc k)) d below = absurd (omega (arith, below))

-- what holds of the bounds and the alphabet where lines tell what they add
pub record IsSetting (a : Alphabet) (imp spec : ℕ) : Type 0 where
  pub alphabet : IsAlphabet a
  pub imp_small : imp ≤ 2 ^ 64
  pub spec_small : spec ≤ 2 ^ 64

-- a line leads to one stage
pub Adds-once : (a : Alphabet) (imp spec : ℕ) (s : Stage) (line : List ℕ) (t u : Stage) → IsSetting a imp spec → Adds a imp spec s line t → Adds a imp spec s line u → t ≡ u
Adds-once a imp spec Opening line t u set (e, is) (f, js) = is ∙ sym js
Adds-once a imp spec Titled line t u set (m, e, is) (n, f, js) = is ∙ ap Moded (mode_once m n (sym e ∙ f)) ∙ sym js
Adds-once a imp spec (Moded mode) line t u set (inl (e, is)) (inl (f, js)) = is ∙ sym js
Adds-once a imp spec (Moded mode) line t u set (inl (e, is)) (inr (f, js)) = let g : ◌≡◌ {A = ℕ} 114 116 = cc in absurd (omega (arith, g))
Adds-once a imp spec (Moded mode) line t u set (inr (e, is)) (inl (f, js)) = let g : ◌≡◌ {A = ℕ} 116 114 = cc in absurd (omega (arith, g))
Adds-once a imp spec (Moded mode) line t u set (inr (e, is)) (inr (f, js)) = is ∙ sym js
Adds-once a imp spec (Pairing mode r) line t u set (inl h) (inl k) =
    let e : codes "left" ++ h.text ≡ codes "left" ++ k.text = sym h.line_is ∙ k.line_is in
    let same : k.text ≡ h.text = cc in
    let states : h.states ≡ k.states = list_once imp h.text h.states k.states set.imp_small h.list (subst (λ (x : List ℕ). IsListOf imp x k.states) same k.list) in
    h.next_is ∙ ap {A = List ℕ} {B = Stage} (λ x. Pairing mode (record { left = r.left ++ x ∷ []; right = r.right; pairs = r.pairs })) states ∙ sym k.next_is
Adds-once a imp spec (Pairing mode r) line t u set (inl h) (inr (inl k)) = absurd (apart 108 114 _ _ (λ f. omega (arith, f)) (sym h.line_is ∙ k.line_is))
Adds-once a imp spec (Pairing mode r) line t u set (inl h) (inr (inr (inl k))) = absurd (apart 108 112 _ _ (λ f. omega (arith, f)) (sym h.line_is ∙ k.line_is))
Adds-once a imp spec (Pairing mode r) line t u set (inl h) (inr (inr (inr (f, js)))) = absurd (apart 108 101 _ _ (λ g. omega (arith, g)) (sym h.line_is ∙ f))
Adds-once a imp spec (Pairing mode r) line t u set (inr (inl h)) (inl k) = absurd (apart 114 108 _ _ (λ f. omega (arith, f)) (sym h.line_is ∙ k.line_is))
Adds-once a imp spec (Pairing mode r) line t u set (inr (inl h)) (inr (inl k)) =
    let e : codes "right" ++ h.text ≡ codes "right" ++ k.text = sym h.line_is ∙ k.line_is in
    let same : k.text ≡ h.text = cc in
    let states : h.states ≡ k.states = list_once spec h.text h.states k.states set.spec_small h.list (subst (λ (x : List ℕ). IsListOf spec x k.states) same k.list) in
    h.next_is ∙ ap {A = List ℕ} {B = Stage} (λ x. Pairing mode (record { left = r.left; right = r.right ++ x ∷ []; pairs = r.pairs })) states ∙ sym k.next_is
Adds-once a imp spec (Pairing mode r) line t u set (inr (inl h)) (inr (inr (inl k))) = absurd (apart 114 112 _ _ (λ f. omega (arith, f)) (sym h.line_is ∙ k.line_is))
Adds-once a imp spec (Pairing mode r) line t u set (inr (inl h)) (inr (inr (inr (f, js)))) = absurd (apart 114 101 _ _ (λ g. omega (arith, g)) (sym h.line_is ∙ f))
Adds-once a imp spec (Pairing mode r) line t u set (inr (inr (inl h))) (inl k) = absurd (apart 112 108 _ _ (λ f. omega (arith, f)) (sym h.line_is ∙ k.line_is))
Adds-once a imp spec (Pairing mode r) line t u set (inr (inr (inl h))) (inr (inl k)) = absurd (apart 112 114 _ _ (λ f. omega (arith, f)) (sym h.line_is ∙ k.line_is))
Adds-once a imp spec (Pairing mode r) line t u set (inr (inr (inl h))) (inr (inr (inl k))) =
    let e : codes "pair" ++ spaced (decimal (h.pair.0 + 1) ∷ decimal (h.pair.1 + 1) ∷ []) ≡ codes "pair" ++ spaced (decimal (k.pair.0 + 1) ∷ decimal (k.pair.1 + 1) ∷ []) = sym h.line_is ∙ k.line_is in
    let same : h.pair ≡ k.pair = pair_once h.pair k.pair h.fits k.fits cc in
    h.next_is ∙ ap {A = ℕ × ℕ} {B = Stage} (λ p. Pairing mode (record { left = r.left; right = r.right; pairs = r.pairs ++ p ∷ [] })) same ∙ sym k.next_is
Adds-once a imp spec (Pairing mode r) line t u set (inr (inr (inl h))) (inr (inr (inr (f, js)))) = absurd (apart 112 101 _ _ (λ g. omega (arith, g)) (sym h.line_is ∙ f))
Adds-once a imp spec (Pairing mode r) line t u set (inr (inr (inr (e, is)))) (inl k) = absurd (apart 101 108 _ _ (λ g. omega (arith, g)) (sym e ∙ k.line_is))
Adds-once a imp spec (Pairing mode r) line t u set (inr (inr (inr (e, is)))) (inr (inl k)) = absurd (apart 101 114 _ _ (λ g. omega (arith, g)) (sym e ∙ k.line_is))
Adds-once a imp spec (Pairing mode r) line t u set (inr (inr (inr (e, is)))) (inr (inr (inl k))) = absurd (apart 101 112 _ _ (λ g. omega (arith, g)) (sym e ∙ k.line_is))
Adds-once a imp spec (Pairing mode r) line t u set (inr (inr (inr (e, is)))) (inr (inr (inr (f, js)))) = is ∙ sym js
Adds-once a imp spec (Tracing mode σ) line t u set (inl (x, item, e, is)) (inl (y, other, f, js)) =
    let g : codes "after " ++ item_text a.texts x ≡ codes "after " ++ item_text a.texts y = sym e ∙ f in
    let same : x ≡ y = item_once a (item_text a.texts x) x y set.alphabet (item, refl) (other, cc) in
    is ∙ ap {A = Item} {B = Stage} (λ z. Tracing mode (σ ++ z ∷ [])) same ∙ sym js
Adds-once a imp spec (Tracing mode σ) line t u set (inl (x, item, e, is)) (inr (y, other, f, js)) = absurd (apart 97 115 _ _ (λ g. omega (arith, g)) (sym e ∙ f))
Adds-once a imp spec (Tracing mode σ) line t u set (inr (x, item, e, is)) (inl (y, other, f, js)) = absurd (apart 115 97 _ _ (λ g. omega (arith, g)) (sym e ∙ f))
Adds-once a imp spec (Tracing mode σ) line t u set (inr (x, item, e, is)) (inr (y, other, f, js)) =
    let g : codes "shows " ++ item_text a.texts x ≡ codes "shows " ++ item_text a.texts y = sym e ∙ f in
    let same : x ≡ y = item_once a (item_text a.texts x) x y set.alphabet (item_from_shown a x item, refl) (item_from_shown a y other, cc) in
    is ∙ ap {A = Item} {B = Stage} (λ z. Showing mode σ z) same ∙ sym js
Adds-once a imp spec (Showing mode σ x) line t u set (e, is) (f, js) = is ∙ sym js
Adds-once a imp spec (Ended cert) line t u set h k = absurd h

-- a line that adds something may follow
Adds-follows : (a : Alphabet) (imp spec : ℕ) (s : Stage) (line : List ℕ) (t : Stage) → imp ≤ 2 ^ 64 → spec ≤ 2 ^ 64 → Adds a imp spec s line t → MayFollow s line
Adds-follows a imp spec Opening line t fi fs (e, is) = e
Adds-follows a imp spec Titled line t fi fs (mode, e, is) = (mode, e)
Adds-follows a imp spec (Moded mode) line t fi fs (inl (e, is)) = inl e
Adds-follows a imp spec (Moded mode) line t fi fs (inr (e, is)) = inr e
Adds-follows a imp spec (Pairing mode r) line t fi fs (inl h) = inl (h.no_right, h.no_pairs, (h.text, h.line_is, IsNumberList-states imp h.text h.states fi h.list))
Adds-follows a imp spec (Pairing mode r) line t fi fs (inr (inl h)) = inr (inl (h.no_pairs, (h.text, h.line_is, IsNumberList-states spec h.text h.states fs h.list)))
Adds-follows a imp spec (Pairing mode r) line t fi fs (inr (inr (inl h))) = inr (inr (inl (h.pair, h.named, h.line_is)))
Adds-follows a imp spec (Pairing mode r) line t fi fs (inr (inr (inr (e, is)))) = inr (inr (inr e))
Adds-follows a imp spec (Tracing mode σ) line t fi fs (inl (x, item, e, is)) = inl (item_text a.texts x, e, tt)
Adds-follows a imp spec (Tracing mode σ) line t fi fs (inr (x, item, e, is)) = inr (item_text a.texts x, e, tt)
Adds-follows a imp spec (Showing mode σ x) line t fi fs (e, is) = e
Adds-follows a imp spec (Ended cert) line t fi fs h = h

-- a line that adds something names an item
Adds-names : (a : Alphabet) (imp spec : ℕ) (s : Stage) (line : List ℕ) (t : Stage) → Adds a imp spec s line t → NamesNone a s line → ⊥
Adds-names a imp spec (Tracing mode σ) line t (inl (x, item, e, is)) (inl (text, f, none)) =
    let g : codes "after " ++ text ≡ codes "after " ++ item_text a.texts x = sym f ∙ e in
    none x (item, cc)
Adds-names a imp spec (Tracing mode σ) line t (inl (x, item, e, is)) (inr (text, f, none)) = apart 97 115 _ _ (λ g. omega (arith, g)) (sym e ∙ f)
Adds-names a imp spec (Tracing mode σ) line t (inr (x, item, e, is)) (inl (text, f, none)) = apart 115 97 _ _ (λ g. omega (arith, g)) (sym e ∙ f)
Adds-names a imp spec (Tracing mode σ) line t (inr (x, item, e, is)) (inr (text, f, none)) =
    let g : codes "shows " ++ text ≡ codes "shows " ++ item_text a.texts x = sym f ∙ e in
    none x (item, cc)
Adds-names a imp spec Opening line t adds none = none
Adds-names a imp spec Titled line t adds none = none
Adds-names a imp spec (Moded mode) line t adds none = none
Adds-names a imp spec (Pairing mode r) line t adds none = none
Adds-names a imp spec (Showing mode σ x) line t adds none = none
Adds-names a imp spec (Ended cert) line t adds none = none

-- a line that adds something lists no state that is too large
Adds-small : (a : Alphabet) (imp spec : ℕ) (s : Stage) (line : List ℕ) (t : Stage) → imp ≤ 2 ^ 64 → spec ≤ 2 ^ 64 → Adds a imp spec s line t → ListsLarge imp spec s line → ⊥
Adds-small a imp spec (Pairing mode r) line t fi fs (inl h) (inl (text, f, large)) =
    let e : codes "left" ++ h.text ≡ codes "left" ++ text = sym h.line_is ∙ f in
    let same : text ≡ h.text = cc in
    list_small imp h.text h.states fi h.list (subst (HasLarge imp) same large)
Adds-small a imp spec (Pairing mode r) line t fi fs (inl h) (inr (text, f, large)) = apart 108 114 _ _ (λ g. omega (arith, g)) (sym h.line_is ∙ f)
Adds-small a imp spec (Pairing mode r) line t fi fs (inr (inl h)) (inl (text, f, large)) = apart 114 108 _ _ (λ g. omega (arith, g)) (sym h.line_is ∙ f)
Adds-small a imp spec (Pairing mode r) line t fi fs (inr (inl h)) (inr (text, f, large)) =
    let e : codes "right" ++ h.text ≡ codes "right" ++ text = sym h.line_is ∙ f in
    let same : text ≡ h.text = cc in
    list_small spec h.text h.states fs h.list (subst (HasLarge spec) same large)
Adds-small a imp spec (Pairing mode r) line t fi fs (inr (inr (inl h))) (inl (text, f, large)) = apart 112 108 _ _ (λ g. omega (arith, g)) (sym h.line_is ∙ f)
Adds-small a imp spec (Pairing mode r) line t fi fs (inr (inr (inl h))) (inr (text, f, large)) = apart 112 114 _ _ (λ g. omega (arith, g)) (sym h.line_is ∙ f)
Adds-small a imp spec (Pairing mode r) line t fi fs (inr (inr (inr (e, is)))) (inl (text, f, large)) = apart 101 108 _ _ (λ g. omega (arith, g)) (sym e ∙ f)
Adds-small a imp spec (Pairing mode r) line t fi fs (inr (inr (inr (e, is)))) (inr (text, f, large)) = apart 101 114 _ _ (λ g. omega (arith, g)) (sym e ∙ f)
Adds-small a imp spec Opening line t fi fs adds large = large
Adds-small a imp spec Titled line t fi fs adds large = large
Adds-small a imp spec (Moded mode) line t fi fs adds large = large
Adds-small a imp spec (Tracing mode σ) line t fi fs adds large = large
Adds-small a imp spec (Showing mode σ x) line t fi fs adds large = large
Adds-small a imp spec (Ended cert) line t fi fs adds large = large

-- a line that adds something has no fault
pub Adds-excludes : (a : Alphabet) (imp spec : ℕ) (s : Stage) (line : List ℕ) (t : Stage) (n : ℕ) (e : CertError) → imp ≤ 2 ^ 64 → spec ≤ 2 ^ 64 → Adds a imp spec s line t → IsFaultOf a imp spec s line n e → e ≡ Memory
Adds-excludes a imp spec s line t n (Line k) fi fs adds fault = absurd (fault.1 (Adds-follows a imp spec s line t fi fs adds))
Adds-excludes a imp spec s line t n (UnknownLabel k) fi fs adds fault = absurd (Adds-names a imp spec s line t adds fault.2)
Adds-excludes a imp spec s line t n (StateRange k) fi fs adds fault = absurd (Adds-small a imp spec s line t fi fs adds fault.2)
Adds-excludes a imp spec s line t n (Cut k) fi fs adds fault = absurd fault
Adds-excludes a imp spec s line t n Memory fi fs adds fault = refl

-- two errors are the same, or memory ran out
abbrev pub AreSame : CertError → CertError → Type 0
AreSame e f = (e ≡ f) ⊎ ((e ≡ Memory) ⊎ (f ≡ Memory))

-- a line that names an item lists no states
none_large : (a : Alphabet) (imp spec : ℕ) (s : Stage) (line : List ℕ) → NamesNone a s line → ListsLarge imp spec s line → ⊥
none_large a imp spec Opening line none large = none
none_large a imp spec Titled line none large = none
none_large a imp spec (Moded mode) line none large = none
none_large a imp spec (Pairing mode r) line none large = none
none_large a imp spec (Tracing mode σ) line none large = large
none_large a imp spec (Showing mode σ x) line none large = none
none_large a imp spec (Ended cert) line none large = none

-- a line has one fault
pub fault_once : (a : Alphabet) (imp spec : ℕ) (s : Stage) (line : List ℕ) (n : ℕ) (e f : CertError) → IsFaultOf a imp spec s line n e → IsFaultOf a imp spec s line n f → AreSame e f
fault_once a imp spec s line n (Line j) (Line k) one two = inl (ap Line (one.0 ∙ sym (two.0)))
fault_once a imp spec s line n (Line j) (UnknownLabel k) one two = absurd (one.1 two.1)
fault_once a imp spec s line n (Line j) (StateRange k) one two = absurd (one.1 two.1)
fault_once a imp spec s line n (Line j) (Cut k) one two = absurd two
fault_once a imp spec s line n (Line j) Memory one two = inr (inr refl)
fault_once a imp spec s line n (UnknownLabel j) (Line k) one two = absurd (two.1 one.1)
fault_once a imp spec s line n (UnknownLabel j) (UnknownLabel k) one two = inl (ap UnknownLabel (one.0 ∙ sym (two.0)))
fault_once a imp spec s line n (UnknownLabel j) (StateRange k) one two = absurd (none_large a imp spec s line one.2 two.2)
fault_once a imp spec s line n (UnknownLabel j) (Cut k) one two = absurd two
fault_once a imp spec s line n (UnknownLabel j) Memory one two = inr (inr refl)
fault_once a imp spec s line n (StateRange j) (Line k) one two = absurd (two.1 one.1)
fault_once a imp spec s line n (StateRange j) (UnknownLabel k) one two = absurd (none_large a imp spec s line two.2 one.2)
fault_once a imp spec s line n (StateRange j) (StateRange k) one two = inl (ap StateRange (one.0 ∙ sym (two.0)))
fault_once a imp spec s line n (StateRange j) (Cut k) one two = absurd two
fault_once a imp spec s line n (StateRange j) Memory one two = inr (inr refl)
fault_once a imp spec s line n (Cut j) f one two = absurd one
fault_once a imp spec s line n Memory f one two = inr (inl refl)

-- a rest without a whole line has one fault
pub rest_once : (s : Stage) (rest : List ℕ) (n : ℕ) (e f : CertError) → IsRestFault s rest n e → IsRestFault s rest n f → AreSame e f
rest_once s rest n (Line j) (Line k) one two = inl (ap Line (one.0 ∙ sym (two.0)))
rest_once s rest n (Line j) (Cut k) one two = absurd (two.1 one.1)
rest_once s rest n (Line j) (UnknownLabel k) one two = absurd two
rest_once s rest n (Line j) (StateRange k) one two = absurd two
rest_once s rest n (Line j) Memory one two = inr (inr refl)
rest_once s rest n (Cut j) (Line k) one two = absurd (one.1 two.1)
rest_once s rest n (Cut j) (Cut k) one two = inl (ap Cut (one.0 ∙ sym (two.0)))
rest_once s rest n (Cut j) (UnknownLabel k) one two = absurd two
rest_once s rest n (Cut j) (StateRange k) one two = absurd two
rest_once s rest n (Cut j) Memory one two = inr (inr refl)
rest_once s rest n (UnknownLabel j) f one two = absurd one
rest_once s rest n (StateRange j) f one two = absurd one
rest_once s rest n Memory f one two = inr (inl refl)
