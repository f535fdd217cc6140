-- A content is the text of one certificate, or it has one first fault.
use Rattle.std.proofs.Common.{◌≡◌, ◌∙◌, ℕ, ◌+◌, ◌^◌, ◌<◌, ◌≤◌, ◌==◌, List, [], ◌∷◌, ◌++◌, length, Result, Ok, Err, MatchResult, ◌⊎◌, inl, inr, refl, sym, subst, arith}
use Rattle.std.specs.List.{AllByRecursion}
use Rattle.std.proofs.lemmas.Bool.{cases_Bool}
use Rattle.std.proofs.lemmas.List.{append-nil, append_assoc}
use Rattle.lts_base.specs.Alphabet.{Alphabet}
use Rattle.text_scan.specs.Cut.{Lacks, IsCut}
use Rattle.text_scan.specs.Lines.{lines_of, with_byte}
use Rattle.text_scan.proofs.CutLaws.{cut_once, cut_same, no_cut}
use Rattle.cert_text.specs.declared.cert.Cert.{Cert}
use Rattle.cert_text.specs.declared.error.CertError.{CertError}
use Rattle.cert_text.specs.declared.error.CertError.TheVariants.{Line, Cut, UnknownLabel, StateRange, Memory}
use Rattle.cert_text.specs.declared.stage.Stage.{Stage}
use Rattle.cert_text.specs.declared.stage.Stage.TheVariants.{Opening, Ended}
use Rattle.cert_text.specs.Printed.{lines_at, with_ends, printed}
use Rattle.cert_text.specs.Certificate.{IsCertOf}
use Rattle.cert_text.specs.Faults.{IsFaultOf, IsRestFault, IsFaultAt, IsBegun, IsFirstFault, RefusesCert}
use Rattle.cert_text.specs.Adding.{Adds}
use Rattle.cert_text.proofs.RunLaws.{Runs, Runs-stage, Runs-split, Runs-lines}
use Rattle.cert_text.proofs.AddingOnce.{IsSetting, Adds-once, Adds-excludes, AreSame, fault_once, rest_once}

-- lines lead to one stage
Runs-once : (a : Alphabet) (imp spec : ℕ) (s t u : Stage) (lines : List (List ℕ)) → IsSetting a imp spec → Runs a imp spec s lines t → Runs a imp spec s lines u → t ≡ u
Runs-once a imp spec s t u [] set one two = sym one ∙ two
Runs-once a imp spec s t u (line ∷ lines) set one two =
    let same : two.0 ≡ one.0 = Adds-once a imp spec s line two.0 one.0 set two.1 one.1 in
    Runs-once a imp spec one.0 t u lines set one.2 (subst (λ (m : Stage). Runs a imp spec m lines u) same two.2)

-- there are at least as many lines as there are LFs
more_lines : (x rest : List ℕ) → length (lines_of rest) + 1 ≤ length (lines_of (x ++ 10 ∷ rest))
more_lines [] rest = omega arith
more_lines (b ∷ x) rest = elim (cases_Bool (b == 10)) [
  | inl end ↦ let more = more_lines x rest in rw end (omega (arith, more))
  | inr other ↦ rw other (go (lines_of (x ++ 10 ∷ rest)) (more_lines x rest))
]
  where
    go : (lines : List (List ℕ)) → length (lines_of rest) + 1 ≤ length lines → length (lines_of rest) + 1 ≤ length (with_byte b lines)
    go [] few = omega (arith, few)
    go (line ∷ lines) few = omega (arith, few)

-- the bytes of a line and of others, with a rest
line_first : (x : List ℕ) (xs : List (List ℕ)) (rest : List ℕ) → with_ends (x ∷ xs) ++ rest ≡ x ++ 10 ∷ (with_ends xs ++ rest)
line_first x xs rest = append_assoc (x ++ 10 ∷ []) (with_ends xs) rest ∙ append_assoc x (10 ∷ []) (with_ends xs ++ rest)

-- a text of lines and a rest has at least these lines
few_lines : (lines : List (List ℕ)) (rest : List ℕ) → length lines ≤ length (lines_of (with_ends lines ++ rest))
few_lines [] rest = omega arith
few_lines (x ∷ lines) rest =
    let more : length (lines_of (with_ends lines ++ rest)) + 1 ≤ length (lines_of (x ++ 10 ∷ (with_ends lines ++ rest))) = more_lines x (with_ends lines ++ rest) in
    rw (line_first x lines rest) (omega (arith, more, few_lines lines rest))

-- lines and a rest: the same, or one has a line more where the other has its rest
abbrev Parted : List (List ℕ) → List ℕ → List (List ℕ) → List ℕ → Type 0
Parted xs r ys s = (line : List ℕ) × (more : List (List ℕ)) × (after : List ℕ) × (ys ≡ xs ++ line ∷ more) × IsCut 10 r line after

-- two ways to begin one text are the same, or one goes on
parted : (xs ys : List (List ℕ)) (r s : List ℕ) → AllByRecursion (Lacks 10) xs → AllByRecursion (Lacks 10) ys → with_ends xs ++ r ≡ with_ends ys ++ s → ((xs ≡ ys) × (r ≡ s)) ⊎ (Parted xs r ys s ⊎ Parted ys s xs r)
parted [] [] r s one two e = inl (refl, e)
parted [] (y ∷ ys) r s one two e = inr (inl (y, ys, with_ends ys ++ s, refl, record { whole = e ∙ line_first y ys s; first = two.0 }))
parted (x ∷ xs) [] r s one two e = inr (inr (x, xs, with_ends xs ++ r, refl, record { whole = sym e ∙ line_first x xs r; first = one.0 }))
parted (x ∷ xs) (y ∷ ys) r s one two e =
    let whole : x ++ 10 ∷ (with_ends xs ++ r) ≡ y ++ 10 ∷ (with_ends ys ++ s) = sym (line_first x xs r) ∙ e ∙ line_first y ys s in
    let (first, rest) = cut_once 10 x (with_ends xs ++ r) y (with_ends ys ++ s) one.0 two.0 whole in
    elim (parted xs ys r s one.1 two.1 rest) [
      | inl (same, back) ↦ inl (cc, back)
      | inr (inl (line, more, after, longer, cut)) ↦ inr (inl (line, more, after, cc, cut))
      | inr (inr (line, more, after, longer, cut)) ↦ inr (inr (line, more, after, cc, cut))
    ]

-- the rest goes on with a line that adds something to the stage
abbrev Goes : Alphabet → ℕ → ℕ → Stage → List ℕ → Type 0
Goes a imp spec s rest = (line : List ℕ) × (after : List ℕ) × (next : Stage) × IsCut 10 rest line after × Adds a imp spec s line next

-- two beginnings of one content: the same, or one goes on
begun_cases : (a : Alphabet) (imp spec : ℕ) (content : List ℕ) (s t : Stage) (r q : List ℕ) → IsSetting a imp spec → length (lines_of content) < 2 ^ 32 → IsBegun a imp spec content s r → IsBegun a imp spec content t q →
    ((s ≡ t) × (r ≡ q)) ⊎ (Goes a imp spec s r ⊎ Goes a imp spec t q)
begun_cases a imp spec content s t r q set few one two =
    elim (parted (lines_at a.texts s) (lines_at a.texts t) r q (lines_lack s r one) (lines_lack t q two) (sym one.whole ∙ two.whole)) [
      | inl (same, rest) ↦ inl (Runs-once a imp spec Opening s t (lines_at a.texts s) set (runs s r one) (subst (λ (ls : List (List ℕ)). Runs a imp spec Opening ls t) (sym same) (runs t q two)), rest)
      | inr (inl (line, more, after, longer, cut)) ↦ inr (inl (goes s r t q line after more one two longer cut))
      | inr (inr (line, more, after, longer, cut)) ↦ inr (inr (goes t q s r line after more two one longer cut))
    ]
  where
    small : (u : Stage) (p : List ℕ) → IsBegun a imp spec content u p → length (lines_at a.texts u) < 2 ^ 32
    small u p begun =
        let count : length (lines_at a.texts u) ≤ length (lines_of content) = subst (λ (bytes : List ℕ). length (lines_at a.texts u) ≤ length (lines_of bytes)) (sym begun.whole) (few_lines (lines_at a.texts u) p) in
        omega (arith, count, few)

    runs : (u : Stage) (p : List ℕ) → IsBegun a imp spec content u p → Runs a imp spec Opening (lines_at a.texts u) u
    runs u p begun = Runs-stage a imp spec u (small u p begun) begun.sound

    lines_lack : (u : Stage) (p : List ℕ) → IsBegun a imp spec content u p → AllByRecursion (Lacks 10) (lines_at a.texts u)
    lines_lack u p begun = Runs-lines a imp spec Opening u (lines_at a.texts u) set.alphabet set.imp_small set.spec_small (let low = small u p begun in omega (arith, low)) (runs u p begun)

    goes : (u : Stage) (p : List ℕ) (v : Stage) (o : List ℕ) (line after : List ℕ) (more : List (List ℕ)) → IsBegun a imp spec content u p → IsBegun a imp spec content v o → lines_at a.texts v ≡ lines_at a.texts u ++ line ∷ more → IsCut 10 p line after → Goes a imp spec u p
    goes u p v o line after more at_u at_v longer cut =
        let (m, n, before, adds) = Runs-split a imp spec Opening v (lines_at a.texts u) line more (subst (λ (ls : List (List ℕ)). Runs a imp spec Opening ls v) longer (runs v o at_v)) in
        let same : m ≡ u = Runs-once a imp spec Opening m u (lines_at a.texts u) set before (runs u p at_u) in
        (line, after, n, cut, subst (λ (w : Stage). Adds a imp spec w line n) same adds)

-- where the rest goes on there is no fault
goes_fine : (a : Alphabet) (imp spec : ℕ) (content : List ℕ) (e : CertError) → IsSetting a imp spec → (fault : IsFirstFault a imp spec content e) → Goes a imp spec fault.stage fault.rest → e ≡ Memory
goes_fine a imp spec content e set fault (line, after, next, cut, adds) = elim (fault.fault) [
  | inl (other, back, cut_other, bad) ↦
      let (same, rest) = cut_same 10 fault.rest other back line after cut_other cut in
      Adds-excludes a imp spec fault.stage line next (length (lines_at a.texts fault.stage) + 1) e set.imp_small set.spec_small adds (subst (λ (x : List ℕ). IsFaultOf a imp spec fault.stage x (length (lines_at a.texts fault.stage) + 1) e) same bad)
  | inr (lacks, bad) ↦ absurd (no_cut 10 fault.rest line after lacks cut)
]

-- the certificate's lines are a beginning
cert_begun : (a : Alphabet) (imp spec : ℕ) (content : List ℕ) (cert : Cert) → IsCertOf a imp spec content cert → IsBegun a imp spec content (Ended cert) []
cert_begun a imp spec content cert is = record { sound = (is.sound, is.within); whole = is.text ∙ sym (append-nil (printed a.texts cert)) }

-- an empty text has no line with an LF
no_line : (line after : List ℕ) → [] ≡ line ++ 10 ∷ after → ⊥
no_line [] after e = cc
no_line (b ∷ line) after e = cc

-- nothing goes on from nothing
none_goes : (a : Alphabet) (imp spec : ℕ) (s : Stage) → Goes a imp spec s [] → ⊥
none_goes a imp spec s (line, after, next, cut, adds) = no_line line after cut.whole

-- a content is the text of one certificate
cert_once : (a : Alphabet) (imp spec : ℕ) (content : List ℕ) (c d : Cert) → IsSetting a imp spec → length (lines_of content) < 2 ^ 32 → IsCertOf a imp spec content c → IsCertOf a imp spec content d → c ≡ d
cert_once a imp spec content c d set few one two = elim (begun_cases a imp spec content (Ended c) (Ended d) [] [] set few (cert_begun a imp spec content c one) (cert_begun a imp spec content d two)) [
  | inl (same, rest) ↦ cc
  | inr (inl goes) ↦ absurd (none_goes a imp spec (Ended c) goes)
  | inr (inr goes) ↦ absurd (none_goes a imp spec (Ended d) goes)
]

-- an ended certificate without a rest has no fault
ended_fine : (a : Alphabet) (imp spec : ℕ) (content : List ℕ) (cert : Cert) (e : CertError) → (fault : IsFirstFault a imp spec content e) → Ended cert ≡ fault.stage → [] ≡ fault.rest → e ≡ Memory
ended_fine a imp spec content cert e fault same none = elim (fault.fault) [
  | inl (line, after, cut, bad) ↦ absurd (no_line line after (none ∙ cut.whole))
  | inr (lacks, bad) ↦ rest_fine e (subst (λ (s : Stage). IsRestFault s fault.rest (length (lines_at a.texts fault.stage) + 1) e) (sym same) bad)
]
  where
    rest_fine : (e : CertError) → IsRestFault (Ended cert) fault.rest (length (lines_at a.texts fault.stage) + 1) e → e ≡ Memory
    rest_fine (Line k) bad = absurd (bad.2 (sym none))
    rest_fine (Cut k) bad = absurd (bad.1 tt)
    rest_fine (UnknownLabel k) bad = absurd bad
    rest_fine (StateRange k) bad = absurd bad
    rest_fine Memory bad = refl

-- a refusal is want of memory, or it tells the first fault
first_fault : (a : Alphabet) (imp spec : ℕ) (content : List ℕ) (e : CertError) → RefusesCert a imp spec content e → (e ≡ Memory) ⊎ IsFirstFault a imp spec content e
first_fault a imp spec content (Line n) fault = inr fault
first_fault a imp spec content (Cut n) fault = inr fault
first_fault a imp spec content (UnknownLabel n) fault = inr fault
first_fault a imp spec content (StateRange n) fault = inr fault
first_fault a imp spec content Memory fault = inl refl

-- the text of a certificate has no fault
cert_excludes : (a : Alphabet) (imp spec : ℕ) (content : List ℕ) (cert : Cert) (e : CertError) → IsSetting a imp spec → length (lines_of content) < 2 ^ 32 → IsCertOf a imp spec content cert → RefusesCert a imp spec content e → e ≡ Memory
cert_excludes a imp spec content cert e set few is why = elim (first_fault a imp spec content e why) [
  | inl memory ↦ memory
  | inr fault ↦ elim (begun_cases a imp spec content (Ended cert) fault.stage [] fault.rest set few (cert_begun a imp spec content cert is) fault.begun) [
    | inl (same, none) ↦ ended_fine a imp spec content cert e fault same none
    | inr (inl goes) ↦ absurd (none_goes a imp spec (Ended cert) goes)
    | inr (inr goes) ↦ goes_fine a imp spec content e set fault goes
  ]
]

-- at one place there is one fault
at_once : (a : Alphabet) (imp spec : ℕ) (stage : Stage) (rest : List ℕ) (n : ℕ) (e f : CertError) → IsFaultAt a imp spec stage rest n e → IsFaultAt a imp spec stage rest n f → AreSame e f
at_once a imp spec stage rest n e f (inl (line, after, cut, bad)) (inl (other, back, cut_other, bad_other)) =
    let (same, behind) = cut_same 10 rest line after other back cut cut_other in
    fault_once a imp spec stage other n e f (subst (λ (x : List ℕ). IsFaultOf a imp spec stage x n e) same bad) bad_other
at_once a imp spec stage rest n e f (inl (line, after, cut, bad)) (inr (lacks, bad_other)) = absurd (no_cut 10 rest line after lacks cut)
at_once a imp spec stage rest n e f (inr (lacks, bad)) (inl (other, back, cut_other, bad_other)) = absurd (no_cut 10 rest other back lacks cut_other)
at_once a imp spec stage rest n e f (inr (lacks, bad)) (inr (lacks_other, bad_other)) = rest_once stage rest n e f bad bad_other

-- a content has one first fault
first_once : (a : Alphabet) (imp spec : ℕ) (content : List ℕ) (e f : CertError) → IsSetting a imp spec → length (lines_of content) < 2 ^ 32 → IsFirstFault a imp spec content e → IsFirstFault a imp spec content f → AreSame e f
first_once a imp spec content e f set few one two = elim (begun_cases a imp spec content one.stage two.stage one.rest two.rest set few one.begun two.begun) [
  | inr (inl goes) ↦ inr (inl (goes_fine a imp spec content e set one goes))
  | inr (inr goes) ↦ inr (inr (goes_fine a imp spec content f set two goes))
  | inl (same, rest) ↦
      let there : IsFaultAt a imp spec two.stage one.rest (length (lines_at a.texts two.stage) + 1) e = subst (λ (s : Stage). IsFaultAt a imp spec s one.rest (length (lines_at a.texts s) + 1) e) same one.fault in
      at_once a imp spec two.stage two.rest (length (lines_at a.texts two.stage) + 1) e f (subst (λ (r : List ℕ). IsFaultAt a imp spec two.stage r (length (lines_at a.texts two.stage) + 1) e) rest there) two.fault
]

-- what is read of a content is what it is the text of
pub cert_only : (a : Alphabet) (imp spec : ℕ) (content : List ℕ) (cert : Cert) (result : Result Cert CertError) → IsSetting a imp spec → length (lines_of content) < 2 ^ 32 → MatchResult result (IsCertOf a imp spec content) (RefusesCert a imp spec content) → IsCertOf a imp spec content cert →
    MatchResult result (λ c. c ≡ cert) (λ e. e ≡ Memory)
cert_only a imp spec content cert (Ok c) set few is other = cert_once a imp spec content c cert set few is other
cert_only a imp spec content cert (Err e) set few why is = cert_excludes a imp spec content cert e set few is why

-- what is answered where a fault is met
pub refuses_only : (a : Alphabet) (imp spec : ℕ) (content : List ℕ) (e : CertError) (result : Result Cert CertError) → IsSetting a imp spec → length (lines_of content) < 2 ^ 32 → MatchResult result (IsCertOf a imp spec content) (RefusesCert a imp spec content) → RefusesCert a imp spec content e → (e ≡ Memory → ⊥) →
    MatchResult result (λ _. ⊥) (λ f. (f ≡ e) ⊎ (f ≡ Memory))
refuses_only a imp spec content e (Ok c) set few is fault other = other (cert_excludes a imp spec content c e set few is fault)
refuses_only a imp spec content e (Err f) set few why fault other = elim (first_fault a imp spec content e fault) [
  | inl memory ↦ absurd (other memory)
  | inr one ↦ elim (first_fault a imp spec content f why) [
    | inl memory ↦ inr memory
    | inr two ↦ elim (first_once a imp spec content f e set few two one) [
      | inl same ↦ inl same
      | inr (inl memory) ↦ inr memory
      | inr (inr memory) ↦ absurd (other memory)
    ]
  ]
]
