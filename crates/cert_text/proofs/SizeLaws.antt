-- How many bytes a certificate has at most, from the sizes of what it holds.
use Rattle.std.proofs.Common.{◌≡◌, ◌∙◌, ℕ, zero, suc, ◌+◌, ◌*◌, ◌^◌, ◌<◌, ◌≤◌, List, [], ◌∷◌, ◌++◌, length, map, All, inl, inr, codes, decimal, refl, sym, ap, arith}
use Rattle.std.proofs.lemmas.Bool.{cases_lt}
use Rattle.std.proofs.lemmas.List.{length-append, get_or_past}
use Rattle.std.proofs.lemmas.List.Elements.{All-nil, All-cons}
use Rattle.std.proofs.lemmas.List.Sums.{sum_by-cons}
use Rattle.std.proofs.lemmas.Fmt.{length-decimal-le}
use Rattle.std.proofs.lemmas.Grind.{flat_map-append}
use Rattle.lts_base.specs.declared.item.Item.{Item}
use Rattle.lts_base.specs.declared.item.Item.TheVariants.{Input, Output, Delta}
use Rattle.lts_base.specs.declared.item.Mode.{Mode}
use Rattle.lts_base.specs.declared.item.Mode.TheVariants.{Ioco, Uioco}
use Rattle.lts_base.specs.declared.relation.Relation.{Relation}
use Rattle.lts_base.specs.Alphabet.{text_at}
use Rattle.lts_base.specs.Reached.{total_members}
use Rattle.trace_text.specs.Items.{item_text}
use Rattle.cert_text.specs.declared.cert.CertBody.TheVariants.{Related, Shown}
use Rattle.cert_text.specs.Printed.{spaced, number_line, title_line, mode_line, relation_line, trace_line, left_line, right_line, pair_line, after_line, shows_line, end_line, relation_lines, body_lines, with_ends, printed}
use Rattle.cert_text.specs.Certificate.{AreBelow}

-- what holds of all elements holds of all but the first
All-rest : {X : Type 0} (P : X → Type 0) (x : X) (xs : List X) → All P (x ∷ xs) → All P xs
All-rest P x xs all k d below = all (suc k) d (omega (arith, below))

-- lines are counted one by one
ends_first : (line : List ℕ) (lines : List (List ℕ)) → length (with_ends (line ∷ lines)) ≡ length line + 1 + length (with_ends lines)
ends_first line lines = length-append (line ++ 10 ∷ []) (with_ends lines) ∙ ap {A = ℕ} {B = ℕ} (λ n. n + length (with_ends lines)) (length-append line (10 ∷ []))

ends_join : (xs ys : List (List ℕ)) → length (with_ends (xs ++ ys)) ≡ length (with_ends xs) + length (with_ends ys)
ends_join xs ys = ap {A = List ℕ} {B = ℕ} length (flat_map-append (λ (line : List ℕ). line ++ 10 ∷ []) xs ys) ∙ length-append (with_ends xs) (with_ends ys)

spaced_first : (t : List ℕ) (ts : List (List ℕ)) → length (spaced (t ∷ ts)) ≡ suc (length t) + length (spaced ts)
spaced_first t ts = length-append (32 ∷ t) (spaced ts)

-- numbers of at most five digits, each after a space
spaced_size : (states : List ℕ) → All (λ q. q < 100000) states → length (spaced (map decimal states)) ≤ 6 * length states
spaced_size [] small = omega arith
spaced_size (q ∷ states) small =
    let one : q < 100000 = small zero q (omega arith) in
    let digits : length (decimal q) ≤ 5 = length-decimal-le 5 q (omega arith) (omega (arith, one)) (omega (arith, one)) in
    let rest = spaced_size states (All-rest (λ p. p < 100000) q states small) in
    omega (arith, digits, rest, spaced_first (decimal q) (map decimal states))

-- numbers of at most six digits, each after a space
wide_size : (numbers : List ℕ) → All (λ n. n < 1000000) numbers → length (spaced (map decimal numbers)) ≤ 7 * length numbers
wide_size [] small = omega arith
wide_size (n ∷ numbers) small =
    let one : n < 1000000 = small zero n (omega arith) in
    let digits : length (decimal n) ≤ 6 = length-decimal-le 6 n (omega arith) (omega (arith, one)) (omega (arith, one)) in
    let rest = wide_size numbers (All-rest (λ p. p < 1000000) n numbers small) in
    omega (arith, digits, rest, spaced_first (decimal n) (map decimal numbers))

-- lists of states, each after a word of at most five bytes
pub lists_size : (word : List ℕ) (lists : List (List ℕ)) → length word ≤ 5 → AreBelow 100000 lists → length (with_ends (map (number_line word) lists)) ≤ 6 * length lists + 6 * total_members lists
lists_size word [] short small = omega arith
lists_size word (list ∷ lists) short small =
    let one = spaced_size list (small zero list (omega arith)) in
    let rest = lists_size word lists short (All-rest (All (λ q. q < 100000)) list lists small) in
    let line = length-append word (spaced (map decimal list)) in
    omega (arith, one, rest, short, line, ends_first (number_line word list) (map (number_line word) lists), sum_by-cons {X = List ℕ} length list lists)

-- pairs of lists
pub pairs_size : (pairs : List (ℕ × ℕ)) → All (λ (p : ℕ × ℕ). (p.0 < 999999) × (p.1 < 999999)) pairs → length (with_ends (map pair_line pairs)) ≤ 19 * length pairs
pairs_size [] small = omega arith
pairs_size (p ∷ pairs) small =
    let here : (p.0 < 999999) × (p.1 < 999999) = small zero p (omega arith) in
    let both : All (λ n. n < 1000000) ((p.0 + 1) ∷ (p.1 + 1) ∷ []) =
    All-cons (λ n. n < 1000000) (p.0 + 1) ((p.1 + 1) ∷ []) (omega (arith, here.0)) (All-cons (λ n. n < 1000000) (p.1 + 1) [] (omega (arith, here.1)) (All-nil (λ n. n < 1000000))) in
    let numbers = wide_size ((p.0 + 1) ∷ (p.1 + 1) ∷ []) both in
    let rest = pairs_size pairs (All-rest (λ (q : ℕ × ℕ). (q.0 < 999999) × (q.1 < 999999)) p pairs small) in
    let line = length-append (codes "pair") (spaced (map decimal ((p.0 + 1) ∷ (p.1 + 1) ∷ []))) in
    omega (arith, numbers, rest, line, ends_first (pair_line p) (map pair_line pairs))

-- the last line
end_size : (n : ℕ) → n < 1000000 → length (with_ends (end_line n ∷ [])) ≤ 11
end_size n small =
    let number = wide_size (n ∷ []) (All-cons (λ m. m < 1000000) n [] small (All-nil (λ m. m < 1000000))) in
    let line = length-append (codes "end") (spaced (map decimal (n ∷ []))) in
    omega (arith, number, line, ends_first (end_line n) [])

mode_size : (mode : Mode) → length (mode_line mode) ≤ 10
mode_size Ioco = omega arith
mode_size Uioco = omega arith

-- the certificate of a relation
pub relation_size : (texts : List (List ℕ)) (mode : Mode) (r : Relation) → AreBelow 100000 r.left → AreBelow 100000 r.right → All (λ (p : ℕ × ℕ). (p.0 < 999999) × (p.1 < 999999)) r.pairs → length r.pairs < 1000000 →
    length (printed texts (record { mode = mode; body = Related r })) ≤ 100 + (6 * length r.left + 6 * total_members r.left) + (6 * length r.right + 6 * total_members r.right) + 19 * length r.pairs
relation_size texts mode r left right pairs few =
    let ls = lists_size (codes "left") r.left (omega arith) left in
    let rs = lists_size (codes "right") r.right (omega arith) right in
    let ps = pairs_size r.pairs pairs in
    let end = end_size (length r.pairs) few in
    let one = ends_first title_line (mode_line mode ∷ body_lines texts (Related r)) in
    let two = ends_first (mode_line mode) (body_lines texts (Related r)) in
    let three = ends_first relation_line (relation_lines r ++ end_line (length r.pairs) ∷ []) in
    let four = ends_join (relation_lines r) (end_line (length r.pairs) ∷ []) in
    let five = ends_join (map left_line r.left) (map right_line r.right ++ map pair_line r.pairs) in
    let six = ends_join (map right_line r.right) (map pair_line r.pairs) in
    let title : length title_line ≡ 18 = refl in
    let kind : length relation_line ≡ 13 = refl in
    omega (arith, ls, rs, ps, end, one, two, three, four, five, six, title, kind, mode_size mode)

-- ---- traces

text_size : (texts : List (List ℕ)) → All (λ t. length t ≤ 1024) texts → (k : ℕ) → length (text_at texts k) ≤ 1024
text_size texts short k = elim (cases_lt k (length texts)) [
  | inl low ↦ short k [] low
  | inr past ↦ let none : text_at texts k ≡ [] = get_or_past texts k [] past in omega (arith, ap {A = List ℕ} {B = ℕ} length none)
]

item_size : (texts : List (List ℕ)) → All (λ t. length t ≤ 1024) texts → (x : Item) → length (item_text texts x) ≤ 1024
item_size texts short (Input k) = text_size texts short k
item_size texts short (Output k) = text_size texts short k
item_size texts short Delta = omega arith

-- the items of a trace
items_size : (texts : List (List ℕ)) → All (λ t. length t ≤ 1024) texts → (σ : List Item) → length (with_ends (map (after_line texts) σ)) ≤ 1031 * length σ
items_size texts short [] = omega arith
items_size texts short (x ∷ σ) =
    let one = item_size texts short x in
    let rest = items_size texts short σ in
    let line = length-append (codes "after ") (item_text texts x) in
    omega (arith, one, rest, line, ends_first (after_line texts x) (map (after_line texts) σ))

-- the certificate of a violation
pub trace_size : (texts : List (List ℕ)) (mode : Mode) (σ : List Item) (x : Item) → All (λ t. length t ≤ 1024) texts → length σ < 1000000 → length (printed texts (record { mode = mode; body = Shown σ x })) ≤ 2000 + 1031 * length σ
trace_size texts mode σ x short few =
    let items = items_size texts short σ in
    let item = item_size texts short x in
    let end = end_size (length σ) few in
    let one = ends_first title_line (mode_line mode ∷ body_lines texts (Shown σ x)) in
    let two = ends_first (mode_line mode) (body_lines texts (Shown σ x)) in
    let three = ends_first trace_line (map (after_line texts) σ ++ shows_line texts x ∷ end_line (length σ) ∷ []) in
    let four = ends_join (map (after_line texts) σ) (shows_line texts x ∷ end_line (length σ) ∷ []) in
    let five = ends_first (shows_line texts x) (end_line (length σ) ∷ []) in
    let line = length-append (codes "shows ") (item_text texts x) in
    let title : length title_line ≡ 18 = refl in
    let kind : length trace_line ≡ 10 = refl in
    omega (arith, items, item, end, one, two, three, four, five, line, title, kind, mode_size mode)
