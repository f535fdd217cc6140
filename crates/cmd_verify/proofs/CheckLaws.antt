-- Certificates that were read can be checked, and what `verify` accepts is true.
use Rattle.std.proofs.Common.{◌≡◌, ◌∙◌, ℕ, ◌+◌, ◌<◌, ◌≤◌, ◌^◌, List, [], ◌∷◌, ◌++◌, length, map, All, inl, inr, refl, sym, ap, subst, arith}
use Rattle.std.specs.List.{flat_map}
use Rattle.std.proofs.lemmas.List.{length-append, length-map}
use Rattle.std.proofs.lemmas.List.Elements.{All-weaker}
use Rattle.lts_base.specs.declared.item.Item.{Item}
use Rattle.lts_base.specs.declared.item.Item.TheVariants.{Input, Output, Delta}
use Rattle.lts_base.specs.declared.item.Mode.{Mode}
use Rattle.lts_base.specs.declared.limits.TheConstants.{MOST_CERT_BYTES}
use Rattle.lts_base.specs.declared.relation.Relation.{Relation}
use Rattle.lts_base.specs.Alphabet.{Alphabet, IsAlphabet, IsOver}
use Rattle.lts_base.specs.System.{System, IsSystem, IsItemOf, label_count}
use Rattle.trace_text.specs.Items.{IsItem, IsShown, IsPrintable}
use Rattle.cert_text.specs.declared.cert.Cert.{Cert}
use Rattle.cert_text.specs.declared.cert.CertBody.{CertBody}
use Rattle.cert_text.specs.declared.cert.CertBody.TheVariants.{Related, Shown}
use Rattle.cert_text.specs.Certificate.{IsStates, IsPair, IsCertOf}
use Rattle.cert_text.specs.Printed.{with_ends, left_line, right_line, pair_line, after_line, shows_line, end_line, relation_line, trace_line, relation_lines, body_lines, cert_lines}
use Rattle.cert_check.specs.declared.checked.Checked.{Checked}
use Rattle.cert_check.specs.declared.checked.Checked.TheVariants.{Accepted as Fine, Start, Outputs, NotClosed, NotAllowed, NotShown, Allowed}
use Rattle.cert_check.specs.Checks.{IsListOf, IsPairOf}
use Rattle.cert_check.proofs.ValidLaws.{conforming_from_valid}
use Rattle.cert_check.proofs.AnswerLaws.{one_for_relation, one_for_trace}
use Rattle.tool_base.specs.declared.systems.TwoSystems.{TwoSystems}
use Rattle.tool_base.specs.Contents.{Contents}
use Rattle.tool_base.specs.Kinds.{IsFile, cert_kind}
use Rattle.tool_base.specs.Loaded.{AreTwoOver}
use Rattle.cmd_verify.specs.declared.outcome.VerifyOutcome.{VerifyOutcome}
use Rattle.cmd_verify.specs.declared.outcome.VerifyOutcome.TheVariants.{Accepted, Rejected}
use Rattle.cmd_verify.specs.Verify.{outcome_of, IsCheckedBody, IsVerified, IsTrue}
use Rattle.cmd_verify.specs.Printable.{IsCheckableRelation, IsCheckableTrace, IsCheckable, IsPrintableOutcome}

-- ---- sizes

-- each line has a byte of its own
lines_short : (lines : List (List ℕ)) → length lines ≤ length (with_ends lines)
lines_short [] = omega arith
lines_short (line ∷ lines) =
    let long = length-append (line ++ 10 ∷ []) (with_ends lines) in
    let end = length-append line (10 ∷ []) in
    let rest = lines_short lines in
    omega (arith, long, end, rest)

-- a certificate has a line for each pair, and for each item
pairs_short : (texts : List (List ℕ)) (mode : Mode) (r : Relation) → length r.pairs ≤ length (cert_lines texts (record { mode = mode; body = Related r }))
pairs_short texts mode r =
    let pairs : length (map pair_line r.pairs) ≡ length r.pairs = length-map r.pairs pair_line in
    let rights = length-append (map right_line r.right) (map pair_line r.pairs) in
    let lefts = length-append (map left_line r.left) (map right_line r.right ++ map pair_line r.pairs) in
    let all = length-append (relation_lines r) (end_line (length r.pairs) ∷ []) in
    omega (arith, pairs, rights, lefts, all)

items_short : (texts : List (List ℕ)) (mode : Mode) (σ : List Item) (x : Item) → length σ ≤ length (cert_lines texts (record { mode = mode; body = Shown σ x }))
items_short texts mode σ x =
    let items : length (map (after_line texts) σ) ≡ length σ = length-map σ (after_line texts) in
    let all = length-append (map (after_line texts) σ) (shows_line texts x ∷ end_line (length σ) ∷ []) in
    omega (arith, items, all)

-- ---- certificates that were read

-- a list of a certificate is one of states of its side
list_of : (s : System) (bound : ℕ) (lists : List (List ℕ)) → s.states ≡ bound → All IsStates lists → All (All (λ q. q < bound)) lists → All (IsListOf s) lists
list_of s bound lists same sound below k d low = record { rising = (sound k d low).rising; within = rw same (below k d low) }

-- an item of the alphabet is one of a system over it
item_in : (a : Alphabet) (s : System) → IsAlphabet a → IsOver a s → (x : Item) → IsItem a x → IsItemOf s x
item_in a s alphabet over (Input k) h = omega (arith, over.inputs, h)
item_in a s alphabet over (Output k) h = (omega (arith, over.inputs, h.0), omega (arith, over.inputs, over.outputs, alphabet.inputs, h.1))
item_in a s alphabet over Delta h = tt

shown_in : (a : Alphabet) (s : System) → IsAlphabet a → IsOver a s → (x : Item) → IsShown a x → IsItemOf s x
shown_in a s alphabet over (Input k) h = absurd h
shown_in a s alphabet over (Output k) h = (omega (arith, over.inputs, h.0), omega (arith, over.inputs, over.outputs, alphabet.inputs, h.1))
shown_in a s alphabet over Delta h = tt

-- a certificate that was read can be checked
body_checkable : (a : Alphabet) (i s : System) (content : List ℕ) (mode : Mode) (body : CertBody) → IsAlphabet a → IsOver a i → IsOver a s → length content ≤ MOST_CERT_BYTES →
    IsCertOf a i.states s.states content (record { mode = mode; body = body }) → IsCheckable i s body
body_checkable a i s content mode (Related r) alphabet imp spec short is =
    let text : length content ≡ length (with_ends (cert_lines a.texts (record { mode = mode; body = Related r }))) = ap length is.text in
    let lines = lines_short (cert_lines a.texts (record { mode = mode; body = Related r })) in
    record {
      pairs = is.sound.named;
      left = list_of i i.states r.left refl is.sound.lefts is.within.0;
      right = list_of s s.states r.right refl is.sound.rights is.within.1;
      few = omega (arith, short, text, lines, pairs_short a.texts mode r);
    }
body_checkable a i s content mode (Shown σ x) alphabet imp spec short is =
    let text : length content ≡ length (with_ends (cert_lines a.texts (record { mode = mode; body = Shown σ x }))) = ap length is.text in
    let lines = lines_short (cert_lines a.texts (record { mode = mode; body = Shown σ x })) in
    record {
      items = All-weaker (IsItem a) (IsItemOf s) (item_in a s alphabet spec) σ is.sound.0;
      item = shown_in a s alphabet spec x is.sound.1;
      few = omega (arith, short, text, lines, items_short a.texts mode σ x);
    }

pub checkable : (contents : Contents) (both : TwoSystems) (name : List ℕ) (cert : Cert) → AreTwoOver both → IsFile (cert_kind both.labels both.second.states both.first.states) contents name cert → IsCheckable both.second both.first cert.body
checkable contents both name cert over file =
    body_checkable both.labels both.second both.first file.content cert.mode cert.body over.alphabet over.second_over over.first_over file.short file.reads

-- ---- answers

printable_item : (s : System) (n : ℕ) (x : Item) → label_count s ≡ n → IsItemOf s x → IsPrintable n x
printable_item s n (Input k) e h = omega (arith, e, h)
printable_item s n (Output k) e h = omega (arith, e, h.1)
printable_item s n Delta e h = tt

-- the item of a reason is one of the alphabet
reason_printable : (mode : Mode) (i s : System) (body : CertBody) (checked : Checked) (n : ℕ) → label_count s ≡ n → IsCheckedBody mode i s body checked → IsPrintableOutcome n (outcome_of checked)
reason_printable mode i s body Fine n e h = tt
reason_printable mode i s body Start n e h = tt
reason_printable mode i s body (Outputs pair) n e h = tt
reason_printable mode i s (Related r) (NotClosed pair x) n e h = printable_item s n x e h.2.open_at.here.item
reason_printable mode i s (Shown σ y) (NotClosed pair x) n e h = absurd h
reason_printable mode i s body (NotAllowed place) n e h = tt
reason_printable mode i s body NotShown n e h = tt
reason_printable mode i s body Allowed n e h = tt

pub printable : (both : TwoSystems) (cert : Cert) (checked : Checked) → AreTwoOver both → IsCheckedBody cert.mode both.second both.first cert.body checked → IsPrintableOutcome (length both.labels.texts) (outcome_of checked)
printable both cert checked over h =
    reason_printable cert.mode both.second both.first cert.body checked (length both.labels.texts) (omega (arith, over.first_over.inputs, over.first_over.outputs, over.alphabet.inputs)) h

-- a certificate has one outcome
checked_once : (mode : Mode) (i s : System) (body : CertBody) (c d : Checked) → IsCheckedBody mode i s body c → IsCheckedBody mode i s body d → d ≡ c
checked_once mode i s (Related r) c d one other = one_for_relation mode i s r c d one other
checked_once mode i s (Shown σ x) c d one other = one_for_trace mode i s σ x c d one other

pub verified_once : (i s : System) (cert : Cert) (o p : VerifyOutcome) → IsVerified i s cert o → IsVerified i s cert p → o ≡ p
verified_once i s cert o p (c, one, is) (d, other, also) = is ∙ ap outcome_of (sym (checked_once cert.mode i s cert.body c d one other)) ∙ sym also

-- what is accepted is fine
accepted_fine : (c : Checked) → Accepted ≡ outcome_of c → c ≡ Fine
accepted_fine Fine is = refl
accepted_fine Start is = absurd (cc is)
accepted_fine (Outputs pair) is = absurd (cc is)
accepted_fine (NotClosed pair x) is = absurd (cc is)
accepted_fine (NotAllowed place) is = absurd (cc is)
accepted_fine NotShown is = absurd (cc is)
accepted_fine Allowed is = absurd (cc is)

fine_true : (mode : Mode) (i s : System) (body : CertBody) → IsSystem i → IsSystem s → IsCheckedBody mode i s body Fine → IsTrue mode i s body
fine_true mode i s (Related r) imp spec h = conforming_from_valid mode i s _ imp spec h
fine_true mode i s (Shown σ x) imp spec h = h

-- what is accepted is true, whoever made the certificate
pub accepted_true : (i s : System) (cert : Cert) → IsSystem i → IsSystem s → IsVerified i s cert Accepted → IsTrue cert.mode i s cert.body
accepted_true i s cert imp spec (c, h, is) = fine_true cert.mode i s cert.body imp spec (subst (IsCheckedBody cert.mode i s cert.body) (accepted_fine c is) h)
