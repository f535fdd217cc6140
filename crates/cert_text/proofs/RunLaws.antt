-- The lines of a beginning lead to it, one by one.
use Rattle.std.proofs.Common.{◌≡◌, ℕ, zero, suc, ◌+◌, ◌^◌, ◌<◌, ◌≤◌, true, List, [], ◌∷◌, ◌++◌, length, map, All, inl, inr, refl, sym, ap, subst, arith, decimal, codes, nat_lt}
use Rattle.std.specs.List.{list_all, AllByRecursion}
use Rattle.std.proofs.lemmas.Bool.{cases_Bool, false≢true}
use Rattle.std.proofs.lemmas.Bool.Decides.{Decides-ltb}
use Rattle.std.proofs.lemmas.List.Elements.{All-nil, All-cons}
use Rattle.std.proofs.lemmas.List.{append-nil, append_assoc, length-append, length-map, length_push}
use Rattle.lts_base.specs.declared.item.Item.{Item}
use Rattle.lts_base.specs.declared.item.Mode.{Mode}
use Rattle.lts_base.specs.declared.item.Mode.TheVariants.{Ioco, Uioco}
use Rattle.lts_base.specs.declared.relation.Relation.{Relation}
use Rattle.lts_base.specs.Alphabet.{Alphabet, IsAlphabet}
use Rattle.text_scan.specs.Cut.{Lacks}
use Rattle.cert_text.specs.declared.cert.CertBody.{CertBody}
use Rattle.cert_text.specs.declared.cert.CertBody.TheVariants.{Related, Shown}
use Rattle.cert_text.specs.declared.stage.Stage.{Stage}
use Rattle.cert_text.specs.declared.stage.Stage.TheVariants.{Opening, Titled, Moded, Pairing, Tracing, Showing, Ended}
use Rattle.trace_text.specs.Items.{IsItem, IsShown, item_text}
use Rattle.trace_text.proofs.ItemLaws.{item_from_shown}
use Rattle.trace_text.proofs.PrintLaws.{item_lacks}
use Rattle.cert_text.specs.Printed.{spaced, title_line, mode_line, relation_line, trace_line, left_line, right_line, pair_line, after_line, shows_line, end_line, relation_lines, body_lines, lines_at}
use Rattle.cert_text.specs.Certificate.{IsStates, IsPair, IsRelation, AreBelow, IsBody, IsBodyWithin, IsStage}
use Rattle.cert_text.specs.Numbers.{IsNumber}
use Rattle.cert_text.specs.Adding.{no_relation, Adds}
use Rattle.cert_text.proofs.NumberLaws.{IsNumber-decimal, Lacks-digits}
use Rattle.cert_text.proofs.ListingLaws.{numbers_of}

-- the lines lead from one stage to the other
abbrev pub Runs : Alphabet → ℕ → ℕ → Stage → List (List ℕ) → Stage → Type 0
Runs a imp spec s [] t = s ≡ t
Runs a imp spec s (line ∷ lines) t = (m : Stage) × Adds a imp spec s line m × Runs a imp spec m lines t

-- lines that lead on after lines
pub Runs-append : (a : Alphabet) (imp spec : ℕ) (s m t : Stage) (xs ys : List (List ℕ)) → Runs a imp spec s xs m → Runs a imp spec m ys t → Runs a imp spec s (xs ++ ys) t
Runs-append a imp spec s m t [] ys one two = subst (λ (u : Stage). Runs a imp spec u ys t) (sym one) two
Runs-append a imp spec s m t (x ∷ xs) ys one two = (one.0, one.1, Runs-append a imp spec one.0 m t xs ys one.2 two)

-- lines of one kind, each of which adds one thing
Runs-kind : {X : Type 0} (a : Alphabet) (imp spec : ℕ) (P : X → Type 0) (line : X → List ℕ) (stage : List X → Stage) → ((done : List X) (x : X) → P x → Adds a imp spec (stage done) (line x) (stage (done ++ x ∷ []))) →
    (done xs : List X) → All P xs → Runs a imp spec (stage done) (map line xs) (stage (done ++ xs))
Runs-kind a imp spec P line stage step done [] all = ap stage (sym (append-nil done))
Runs-kind a imp spec P line stage step done (x ∷ xs) all =
    (stage (done ++ x ∷ []), step done x (all zero x (omega arith)), rw append_assoc at (Runs-kind a imp spec P line stage step (done ++ x ∷ []) xs (λ k d below. all (suc k) d (omega (arith, below)))))

-- two facts of all elements
both : {X : Type 0} (P Q : X → Type 0) (xs : List X) → All P xs → All Q xs → All (λ x. P x × Q x) xs
both P Q xs one two k d below = (one k d below, two k d below)

-- the lines of the left lists
Runs-lefts : (a : Alphabet) (imp spec : ℕ) (mode : Mode) (ls : List (List ℕ)) → All IsStates ls → AreBelow imp ls →
    Runs a imp spec (Pairing mode no_relation) (map left_line ls) (Pairing mode (record { left = ls; right = []; pairs = [] }))
Runs-lefts a imp spec mode ls states below = Runs-kind a imp spec (λ (qs : List ℕ). IsStates qs × All (λ q. q < imp) qs) left_line (λ (done : List (List ℕ)). Pairing mode (record { left = done; right = []; pairs = [] }))
    (λ done x is. inl (record { states = x; text = spaced (map decimal x); no_right = refl; no_pairs = refl; line_is = refl; list = record { list = record { spelled = refl; below = is.1 }; sound = is.0 }; next_is = refl }))
    [] ls (both IsStates (All (λ q. q < imp)) ls states below)

-- the lines of the right lists
Runs-rights : (a : Alphabet) (imp spec : ℕ) (mode : Mode) (ls rs : List (List ℕ)) → All IsStates rs → AreBelow spec rs →
    Runs a imp spec (Pairing mode (record { left = ls; right = []; pairs = [] })) (map right_line rs) (Pairing mode (record { left = ls; right = rs; pairs = [] }))
Runs-rights a imp spec mode ls rs states below = Runs-kind a imp spec (λ (qs : List ℕ). IsStates qs × All (λ q. q < spec) qs) right_line (λ (done : List (List ℕ)). Pairing mode (record { left = ls; right = done; pairs = [] }))
    (λ done x is. inr (inl (record { states = x; text = spaced (map decimal x); no_pairs = refl; line_is = refl; list = record { list = record { spelled = refl; below = is.1 }; sound = is.0 }; next_is = refl })))
    [] rs (both IsStates (All (λ q. q < spec)) rs states below)

-- the lines of the pairs
Runs-pairs : (a : Alphabet) (imp spec : ℕ) (mode : Mode) (ls rs : List (List ℕ)) (ps : List (ℕ × ℕ)) → length ls < 2 ^ 32 → length rs < 2 ^ 32 → All (IsPair ls rs) ps →
    Runs a imp spec (Pairing mode (record { left = ls; right = rs; pairs = [] })) (map pair_line ps) (Pairing mode (record { left = ls; right = rs; pairs = ps }))
Runs-pairs a imp spec mode ls rs ps few_left few_right named = Runs-kind a imp spec (IsPair ls rs) pair_line (λ (done : List (ℕ × ℕ)). Pairing mode (record { left = ls; right = rs; pairs = done }))
    (λ done p is. inr (inr (inl (record { pair = p; named = is; fits = (omega (arith, is.0, few_left), omega (arith, is.1, few_right)); line_is = refl; next_is = refl }))))
    [] ps named

-- the lines of a relation
Runs-relation : (a : Alphabet) (imp spec : ℕ) (mode : Mode) (r : Relation) → length r.left < 2 ^ 32 → length r.right < 2 ^ 32 → IsRelation r → AreBelow imp r.left → AreBelow spec r.right →
    Runs a imp spec (Pairing mode no_relation) (relation_lines r) (Pairing mode r)
Runs-relation a imp spec mode r few_left few_right is below_left below_right =
    Runs-append a imp spec _ _ _ (map left_line r.left) (map right_line r.right ++ map pair_line r.pairs) (Runs-lefts a imp spec mode r.left is.lefts below_left)
    (Runs-append a imp spec _ _ _ (map right_line r.right) (map pair_line r.pairs) (Runs-rights a imp spec mode r.left r.right is.rights below_right) (Runs-pairs a imp spec mode r.left r.right r.pairs few_left few_right is.named))

-- the lines of a trace
Runs-trace : (a : Alphabet) (imp spec : ℕ) (mode : Mode) (σ : List Item) → All (IsItem a) σ → Runs a imp spec (Tracing mode []) (map (after_line a.texts) σ) (Tracing mode σ)
Runs-trace a imp spec mode σ items = Runs-kind a imp spec (IsItem a) (after_line a.texts) (Tracing mode) (λ done x is. inl (x, is, refl, refl)) [] σ items

-- the lines of a trace and of the item that is shown
Runs-shown : (a : Alphabet) (imp spec : ℕ) (mode : Mode) (σ : List Item) (x : Item) → All (IsItem a) σ → IsShown a x → Runs a imp spec (Tracing mode []) (map (after_line a.texts) σ ++ shows_line a.texts x ∷ []) (Showing mode σ x)
Runs-shown a imp spec mode σ x items shown = Runs-append a imp spec _ _ _ (map (after_line a.texts) σ) (shows_line a.texts x ∷ []) (Runs-trace a imp spec mode σ items) (Showing mode σ x, inr (x, shown, refl, refl), refl)

-- after the first three lines
Runs-opened : (a : Alphabet) (imp spec : ℕ) (mode : Mode) (kind : List ℕ) (first t : Stage) (lines : List (List ℕ)) → Adds a imp spec (Moded mode) kind first → Runs a imp spec first lines t → Runs a imp spec Opening (title_line ∷ mode_line mode ∷ kind ∷ lines) t
Runs-opened a imp spec mode kind first t lines adds runs = (Titled, (refl, refl), (Moded mode, (mode, refl, refl), (first, adds, runs)))

-- there are no more lists than lines
lines_left : (texts : List (List ℕ)) (mode : Mode) (r : Relation) (more : List (List ℕ)) → (length r.left ≤ length (relation_lines r ++ more)) × (length r.right ≤ length (relation_lines r ++ more))
lines_left texts mode r more =
    let one : length (relation_lines r ++ more) ≡ length (relation_lines r) + length more = length-append (relation_lines r) more in
    let two : length (relation_lines r) ≡ length (map left_line r.left) + length (map right_line r.right ++ map pair_line r.pairs) = length-append (map left_line r.left) (map right_line r.right ++ map pair_line r.pairs) in
    let three : length (map right_line r.right ++ map pair_line r.pairs) ≡ length (map right_line r.right) + length (map pair_line r.pairs) = length-append (map right_line r.right) (map pair_line r.pairs) in
    let lefts : length (map left_line r.left) ≡ length r.left = length-map r.left left_line in
    let rights : length (map right_line r.right) ≡ length r.right = length-map r.right right_line in
    (omega (arith, one, two, three, lefts, rights), omega (arith, one, two, three, lefts, rights))

-- the lines of a certificate lead to it
Runs-ended : (a : Alphabet) (imp spec : ℕ) (mode : Mode) (body : CertBody) → length (body_lines a.texts body) < 2 ^ 32 → IsBody a body → IsBodyWithin imp spec body →
    Runs a imp spec Opening (title_line ∷ mode_line mode ∷ body_lines a.texts body) (Ended (record { mode = mode; body = body }))
Runs-ended a imp spec mode (Related r) few is within =
    let count = lines_left a.texts mode r (end_line (length r.pairs) ∷ []) in
    Runs-opened a imp spec mode relation_line (Pairing mode no_relation) (Ended (record { mode = mode; body = Related r })) (relation_lines r ++ end_line (length r.pairs) ∷ []) (inl (refl, refl))
    (Runs-append a imp spec _ (Pairing mode r) _ (relation_lines r) (end_line (length r.pairs) ∷ []) (Runs-relation a imp spec mode r (omega (arith, few, count.0)) (omega (arith, few, count.1)) is within.0 within.1)
    (Ended (record { mode = mode; body = Related r }), inr (inr (inr (refl, refl))), refl))
Runs-ended a imp spec mode (Shown σ x) few is within =
    Runs-opened a imp spec mode trace_line (Tracing mode []) (Ended (record { mode = mode; body = Shown σ x })) (map (after_line a.texts) σ ++ shows_line a.texts x ∷ end_line (length σ) ∷ []) (inr (refl, refl))
    (Runs-append a imp spec _ (Tracing mode σ) _ (map (after_line a.texts) σ) (shows_line a.texts x ∷ end_line (length σ) ∷ []) (Runs-trace a imp spec mode σ is.0)
    (Showing mode σ x, inr (x, is.1, refl, refl), (Ended (record { mode = mode; body = Shown σ x }), (refl, refl), refl)))

-- the lines of a beginning lead to it
pub Runs-stage : (a : Alphabet) (imp spec : ℕ) (stage : Stage) → length (lines_at a.texts stage) < 2 ^ 32 → IsStage a imp spec stage → Runs a imp spec Opening (lines_at a.texts stage) stage
Runs-stage a imp spec Opening few is = refl
Runs-stage a imp spec Titled few is = (Titled, (refl, refl), refl)
Runs-stage a imp spec (Moded mode) few is = (Titled, (refl, refl), (Moded mode, (mode, refl, refl), refl))
Runs-stage a imp spec (Pairing mode r) few is =
    let count = lines_left a.texts mode r [] in
    let same : length (relation_lines r ++ []) ≡ length (relation_lines r) = ap length (append-nil (relation_lines r)) in
    Runs-opened a imp spec mode relation_line (Pairing mode no_relation) (Pairing mode r) (relation_lines r) (inl (refl, refl)) (Runs-relation a imp spec mode r (omega (arith, few, count.0, same)) (omega (arith, few, count.1, same)) is.0 is.1 is.2)
Runs-stage a imp spec (Tracing mode σ) few is = Runs-opened a imp spec mode trace_line (Tracing mode []) (Tracing mode σ) (map (after_line a.texts) σ) (inr (refl, refl)) (Runs-trace a imp spec mode σ is)
Runs-stage a imp spec (Showing mode σ x) few is = Runs-opened a imp spec mode trace_line (Tracing mode []) (Showing mode σ x) (map (after_line a.texts) σ ++ shows_line a.texts x ∷ []) (inr (refl, refl)) (Runs-shown a imp spec mode σ x is.0 is.1)
Runs-stage a imp spec (Ended cert) few is = Runs-ended a imp spec cert.mode cert.body (omega (arith, few)) is.0 is.1

-- where lines lead on, a part of them leads to a stage in between
pub Runs-split : (a : Alphabet) (imp spec : ℕ) (s t : Stage) (xs : List (List ℕ)) (line : List ℕ) (ys : List (List ℕ)) → Runs a imp spec s (xs ++ line ∷ ys) t → (m : Stage) × (n : Stage) × Runs a imp spec s xs m × Adds a imp spec m line n
Runs-split a imp spec s t [] line ys runs = (s, runs.0, refl, runs.1)
Runs-split a imp spec s t (x ∷ xs) line ys runs =
    let (m, n, before, adds) = Runs-split a imp spec runs.0 t xs line ys runs.2 in
    (m, n, (runs.0, runs.1, before), adds)

-- no byte of the text is an LF
pub lacks_tested : (bytes : List ℕ) → list_all (λ b. nat_lt 10 b) bytes ≡ true → Lacks 10 bytes
lacks_tested [] t = tt
lacks_tested (b ∷ bytes) t = elim (cases_Bool (nat_lt 10 b)) [
  | inl over ↦ let more : 10 < b = (Decides-ltb 10 b).0 over in ((λ e. omega (arith, e, more)), lacks_tested bytes (rw over at t))
  | inr under ↦ absurd (false≢true (rw under at t))
]

-- what two texts lack both lack together
Lacks-append : (mark : ℕ) (a b : List ℕ) → Lacks mark a → Lacks mark b → Lacks mark (a ++ b)
Lacks-append mark [] b one two = two
Lacks-append mark (x ∷ a) b one two = (one.0, Lacks-append mark a b one.1 two)

-- numbers after spaces have no LF
Lacks-spaced : (ns : List (List ℕ)) → All IsNumber ns → Lacks 10 (spaced ns)
Lacks-spaced [] each = tt
Lacks-spaced (n ∷ ns) each = ((λ e. omega (arith, e)), Lacks-append 10 n (spaced ns) (Lacks-digits 10 n (omega arith) (each zero [] (omega arith)).digits) (Lacks-spaced ns (λ k d below. each (suc k) d (omega (arith, below)))))

-- the last line has no LF
Lacks-end : (n : ℕ) → n < 2 ^ 64 → Lacks 10 (end_line n)
Lacks-end n low = Lacks-append 10 (codes "end") (spaced (decimal n ∷ [])) (lacks_tested (codes "end") refl) (Lacks-spaced (decimal n ∷ []) (All-cons IsNumber (decimal n) [] (IsNumber-decimal n low) (All-nil IsNumber)))

-- the line of a mode has no LF
mode_lacks : (mode : Mode) → Lacks 10 (mode_line mode)
mode_lacks Ioco = lacks_tested (codes "mode ioco") refl
mode_lacks Uioco = lacks_tested (codes "mode uioco") refl

-- how many pairs or items there are
abbrev pub size_of : Stage → ℕ
size_of Opening = 0
size_of Titled = 0
size_of (Moded mode) = 0
size_of (Pairing mode r) = length r.pairs
size_of (Tracing mode σ) = length σ
size_of (Showing mode σ x) = length σ
size_of (Ended cert) = 0

-- a line that may be added has no LF
pub Adds-lacks : (a : Alphabet) (imp spec : ℕ) (s : Stage) (line : List ℕ) (t : Stage) → IsAlphabet a → imp ≤ 2 ^ 64 → spec ≤ 2 ^ 64 → size_of s < 2 ^ 64 → Adds a imp spec s line t → Lacks 10 line
Adds-lacks a imp spec Opening line t alphabet fi fs few (e, is) = rw e (lacks_tested title_line refl)
Adds-lacks a imp spec Titled line t alphabet fi fs few (mode, e, is) = rw e (mode_lacks mode)
Adds-lacks a imp spec (Moded mode) line t alphabet fi fs few (inl (e, is)) = rw e (lacks_tested relation_line refl)
Adds-lacks a imp spec (Moded mode) line t alphabet fi fs few (inr (e, is)) = rw e (lacks_tested trace_line refl)
Adds-lacks a imp spec (Pairing mode r) line t alphabet fi fs few (inl h) = rw (h.line_is, h.list.list.spelled) (Lacks-append 10 (codes "left") (spaced (map decimal h.states)) (lacks_tested (codes "left") refl) (Lacks-spaced (map decimal h.states) (numbers_of imp h.states fi h.list.list.below)))
Adds-lacks a imp spec (Pairing mode r) line t alphabet fi fs few (inr (inl h)) = rw (h.line_is, h.list.list.spelled) (Lacks-append 10 (codes "right") (spaced (map decimal h.states)) (lacks_tested (codes "right") refl) (Lacks-spaced (map decimal h.states) (numbers_of spec h.states fs h.list.list.below)))
Adds-lacks a imp spec (Pairing mode r) line t alphabet fi fs few (inr (inr (inl h))) =
    let one : IsNumber (decimal (h.pair.0 + 1)) = IsNumber-decimal (h.pair.0 + 1) (omega (arith, h.fits.0)) in
    let two : IsNumber (decimal (h.pair.1 + 1)) = IsNumber-decimal (h.pair.1 + 1) (omega (arith, h.fits.1)) in
    let both : All IsNumber (decimal (h.pair.0 + 1) ∷ decimal (h.pair.1 + 1) ∷ []) = All-cons IsNumber (decimal (h.pair.0 + 1)) (decimal (h.pair.1 + 1) ∷ []) one (All-cons IsNumber (decimal (h.pair.1 + 1)) [] two (All-nil IsNumber)) in
    rw (h.line_is) (Lacks-append 10 (codes "pair") (spaced (decimal (h.pair.0 + 1) ∷ decimal (h.pair.1 + 1) ∷ [])) (lacks_tested (codes "pair") refl) (Lacks-spaced (decimal (h.pair.0 + 1) ∷ decimal (h.pair.1 + 1) ∷ []) both))
Adds-lacks a imp spec (Pairing mode r) line t alphabet fi fs few (inr (inr (inr (e, is)))) = rw e (Lacks-end (length r.pairs) few)
Adds-lacks a imp spec (Tracing mode σ) line t alphabet fi fs few (inl (x, item, e, is)) = rw e (Lacks-append 10 (codes "after ") (item_text a.texts x) (lacks_tested (codes "after ") refl) (item_lacks a x alphabet item))
Adds-lacks a imp spec (Tracing mode σ) line t alphabet fi fs few (inr (x, item, e, is)) = rw e (Lacks-append 10 (codes "shows ") (item_text a.texts x) (lacks_tested (codes "shows ") refl) (item_lacks a x alphabet (item_from_shown a x item)))
Adds-lacks a imp spec (Showing mode σ x) line t alphabet fi fs few (e, is) = rw e (Lacks-end (length σ) few)
Adds-lacks a imp spec (Ended cert) line t alphabet fi fs few h = absurd h

-- a line adds at most one
Adds-size : (a : Alphabet) (imp spec : ℕ) (s : Stage) (line : List ℕ) (t : Stage) → Adds a imp spec s line t → size_of t ≤ size_of s + 1
Adds-size a imp spec Opening line t (e, is) = rw is (omega arith)
Adds-size a imp spec Titled line t (mode, e, is) = rw is (omega arith)
Adds-size a imp spec (Moded mode) line t (inl (e, is)) = rw is (omega arith)
Adds-size a imp spec (Moded mode) line t (inr (e, is)) = rw is (omega arith)
Adds-size a imp spec (Pairing mode r) line t (inl h) = rw (h.next_is) (omega arith)
Adds-size a imp spec (Pairing mode r) line t (inr (inl h)) = rw (h.next_is) (omega arith)
Adds-size a imp spec (Pairing mode r) line t (inr (inr (inl h))) = rw (h.next_is, length_push r.pairs h.pair) (omega arith)
Adds-size a imp spec (Pairing mode r) line t (inr (inr (inr (e, is)))) = rw is (omega arith)
Adds-size a imp spec (Tracing mode σ) line t (inl (x, item, e, is)) = rw (is, length_push σ x) (omega arith)
Adds-size a imp spec (Tracing mode σ) line t (inr (x, item, e, is)) = rw is (omega arith)
Adds-size a imp spec (Showing mode σ x) line t (e, is) = rw is (omega arith)
Adds-size a imp spec (Ended cert) line t h = absurd h

-- no line of a beginning has an LF
pub Runs-lines : (a : Alphabet) (imp spec : ℕ) (s t : Stage) (lines : List (List ℕ)) → IsAlphabet a → imp ≤ 2 ^ 64 → spec ≤ 2 ^ 64 → size_of s + length lines < 2 ^ 64 → Runs a imp spec s lines t → AllByRecursion (Lacks 10) lines
Runs-lines a imp spec s t [] alphabet fi fs few runs = tt
Runs-lines a imp spec s t (line ∷ lines) alphabet fi fs few runs =
    let grows : size_of runs.0 ≤ size_of s + 1 = Adds-size a imp spec s line runs.0 runs.1 in
    (Adds-lacks a imp spec s line runs.0 alphabet fi fs (omega (arith, few)) runs.1, Runs-lines a imp spec runs.0 t lines alphabet fi fs (omega (arith, few, grows)) runs.2)
