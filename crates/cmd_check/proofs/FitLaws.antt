-- The certificate of a right decision fits into a file.
use Rattle.std.proofs.Common.{ℕ, ◌+◌, ◌-◌, ◌<◌, ◌≤◌, List, length, All, inl, inr, sym, subst, arith}
use Rattle.std.proofs.lemmas.List.{length-map, length_push}
use Rattle.std.proofs.lemmas.List.Elements.{All-weaker}
use Rattle.lts_base.specs.declared.item.Item.{Item}
use Rattle.lts_base.specs.declared.item.Mode.{Mode}
use Rattle.lts_base.specs.declared.relation.Relation.{Relation}
use Rattle.lts_base.specs.declared.limits.TheConstants.{MOST_STATES, MOST_PAIRS, MOST_MEMBERS, MOST_CERT_BYTES}
use Rattle.lts_base.specs.System.{System, IsSystem}
use Rattle.lts_base.specs.Alphabet.{IsLabel}
use Rattle.lts_base.specs.Reached.{Row, trace_at, lefts, rights, with_new, distinct, total_members, Limits}
use Rattle.lts_base.specs.Related.{row_of, rows_of}
use Rattle.lts_base.proofs.ListLaws.{snoc_induction}
use Rattle.lts_base.proofs.DistinctLaws.{contains_cases, with_new-there, with_new-absent, distinct-push}
use Rattle.cert_text.specs.declared.cert.CertBody.TheVariants.{Related, Shown}
use Rattle.cert_text.specs.Certificate.{IsPair, AreBelow}
use Rattle.cert_text.specs.Printed.{printed}
use Rattle.cert_text.proofs.SizeLaws.{relation_size, trace_size}
use Rattle.conf_decide.specs.Decided.{IsConformance, IsUncut}
use Rattle.conf_decide.proofs.DepthLaws.{trace_short}
use Rattle.cmd_check.proofs.CertLaws.{relation_sound, relation_within}

-- the limits are among those that words can ask for
pub record AreAskable (limits : Limits) : Type 0 where
  pub pairs : limits.pairs ≤ MOST_PAIRS
  pub imp : limits.imp ≤ MOST_MEMBERS
  pub spec : limits.spec ≤ MOST_MEMBERS

-- distinct lists are no more than all
distinct_length : (lists : List (List ℕ)) → length (distinct lists) ≤ length lists
distinct_length = snoc_induction (λ (lists : List (List ℕ)). length (distinct lists) ≤ length lists) (omega arith)
    (λ lists x low. let more = one (distinct lists) x in rw (distinct-push lists x) (omega (arith, low, more, length_push lists x)))
  where
    one : (seen : List (List ℕ)) (x : List ℕ) → length (with_new seen x) ≤ length seen + 1
    one seen x = elim (contains_cases seen x) [
      | inl there ↦ rw (with_new-there seen x there) (omega arith)
      | inr absent ↦ rw (with_new-absent seen x absent) (omega (arith, length_push seen x))
    ]

-- states that are below a number are below a greater one
below_more : (m n : ℕ) (lists : List (List ℕ)) → m ≤ n → AreBelow m lists → AreBelow n lists
below_more m n lists more below =
    All-weaker (All (λ q. q < m)) (All (λ q. q < n)) (λ list small. All-weaker (λ q. q < m) (λ q. q < n) (λ q low. omega (arith, low, more)) list small) lists below

pub relation_fits : (texts : List (List ℕ)) (mode : Mode) (limits : Limits) (i s : System) (r : Relation) → AreAskable limits → IsConformance mode limits i s r → IsSystem i → IsSystem s → i.states ≤ MOST_STATES → s.states ≤ MOST_STATES →
    length (printed texts (record { mode = mode; body = Related r })) ≤ MOST_CERT_BYTES
relation_fits texts mode limits i s r asked h imp spec small_i small_s =
    let within = relation_within mode limits i s r h imp spec in
    let left = below_more i.states 100000 r.left (omega (arith, small_i)) within.0 in
    let right = below_more s.states 100000 r.right (omega (arith, small_s)) within.1 in
    let pairs : All (λ (p : ℕ × ℕ). (p.0 < 999999) × (p.1 < 999999)) r.pairs =
    All-weaker (IsPair r.left r.right) (λ (p : ℕ × ℕ). (p.0 < 999999) × (p.1 < 999999)) (λ p named. (omega (arith, named.0, few_left), omega (arith, named.1, few_right))) r.pairs (relation_sound mode limits i s r h).named in
    let size = relation_size texts mode r left right pairs (omega (arith, few)) in
    omega (arith, size, few, few_left, few_right, left_members, right_members)
  where
    few_rows : length (rows_of r) ≤ 200000
    few_rows = omega (arith, h.within.pairs, asked.pairs)

    few : length r.pairs ≤ 200000
    few = omega (arith, few_rows, length-map r.pairs (row_of r.left r.right))

    few_left : length r.left ≤ 200000
    few_left = rw h.left (omega (arith, few_rows, distinct_length (lefts (rows_of r)), length-map (rows_of r) (λ (x : Row). x.left)))

    few_right : length r.right ≤ 200000
    few_right = rw h.right (omega (arith, few_rows, distinct_length (rights (rows_of r)), length-map (rows_of r) (λ (x : Row). x.right)))

    left_members : total_members r.left ≤ 33554432
    left_members = subst (λ (ls : List (List ℕ)). total_members ls ≤ 33554432) (sym h.left) (omega (arith, h.within.imp, asked.imp))

    right_members : total_members r.right ≤ 33554432
    right_members = subst (λ (ls : List (List ℕ)). total_members ls ≤ 33554432) (sym h.right) (omega (arith, h.within.spec, asked.spec))

pub trace_fits : (texts : List (List ℕ)) (mode : Mode) (limits : Limits) (i s : System) (trace : List Item) (shown : Item) (rows : List Row) (ts : List (List Item)) → AreAskable limits → IsUncut mode limits i s trace rows ts → IsSystem i → IsSystem s → All IsLabel texts →
    length (printed texts (record { mode = mode; body = Shown trace shown })) ≤ MOST_CERT_BYTES
trace_fits texts mode limits i s trace shown rows ts asked h imp spec labels =
    let short : length trace < 200000 = subst (λ (σ : List Item). length σ < 200000) h.last last_short in
    let size = trace_size texts mode trace shown (All-weaker IsLabel (λ t. length t ≤ 1024) (λ t label. omega (arith, label.short)) texts labels) (omega (arith, short)) in
    omega (arith, size, short)
  where
    last_short : length (trace_at ts (length ts - 1)) < 200000
    last_short =
        let low : length ts - 1 < length rows = omega (arith, h.some, h.first.long) in
        let most = trace_short mode i s imp spec rows ts h.first (length ts - 1) low in
        omega (arith, most, h.some, h.first.long, h.within.pairs, asked.pairs)
