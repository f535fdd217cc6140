-- Laws on the lines of a log: each is told by its text.
use Rattle.std.proofs.Common.{◌≡◌, ◌∙◌, ◌⊎◌, ℕ, zero, suc, ◌/◌, ◌%◌, ◌^◌, ◌<◌, true, List, [], ◌∷◌, ◌++◌, get_or, All, slice_index, refl, sym, ap, inl, inr, arith, decimal, codes, nat_lt, Ok, Option, Some, None, MatchOption, ◌==◌, if◌then◌else◌}
use Rattle.std.specs.List.{list_all}
use Rattle.std.proofs.lemmas.Bool.{cases_Bool, false≢true, and_parts}
use Rattle.std.proofs.lemmas.Bool.Decides.{Decides-ltb}
use Rattle.std.proofs.lemmas.List.{append_cancel_left}
use Rattle.hex.specs.Hex.{encode_lower, encode_with, lower_digits, decode_of, decode_sized, IsBytes}
use Rattle.hex.proofs.HexLemmas.{decode_of-encode_lower, decode_pairs-encode_with, length-encode_with, IsDigits-lower_digits}
use Rattle.hex.proofs.Pairs.{decode_sized-pairs}
use Rattle.lts_base.specs.declared.divergence.Divergence.{Divergence}
use Rattle.lts_base.specs.declared.divergence.Divergence.TheVariants.{Refuse, Quiet as Silent}
use Rattle.lts_base.specs.declared.item.Mode.{Mode}
use Rattle.lts_base.specs.declared.item.Mode.TheVariants.{Ioco, Uioco}
use Rattle.text_scan.specs.Cut.{Lacks, IsCut}
use Rattle.text_scan.proofs.CutLaws.{cut_once, holds_mark}
use Rattle.log_text.specs.declared.log.Digest.{Digest}
use Rattle.log_text.specs.declared.log.Ending.{Ending}
use Rattle.log_text.specs.declared.log.Ending.TheVariants.{Pass, Fail, Ended, Stalled, Long, Full, Broken}
use Rattle.log_text.specs.declared.log.Entry.{Entry}
use Rattle.log_text.specs.declared.log.Entry.TheVariants.{Sent, Heard, Quiet}
use Rattle.log_text.specs.Printed.{title_one, title_two, mode_line, divergence_line, entry_line, left_line, ending_word, end_line}
use Rattle.log_text.specs.Logs.{IsDigest, IsEntry}
use Rattle.log_text.proofs.NumberLaws.{Lacks-decimal}

-- no byte of the text is an LF
pub lacks_tested : (bytes : List ℕ) → list_all (λ b. nat_lt 10 b) bytes ≡ true → Lacks 10 bytes
lacks_tested [] t = tt
lacks_tested (b ∷ bytes) t = elim (cases_Bool (nat_lt 10 b)) [
  | inl over ↦ let more : 10 < b = (Decides-ltb 10 b).0 over in ((λ e. omega (arith, e, more)), lacks_tested bytes (rw over at t))
  | inr under ↦ absurd (false≢true (rw under at t))
]

-- what two texts lack both lack together
pub Lacks-append : (mark : ℕ) (a b : List ℕ) → Lacks mark a → Lacks mark b → Lacks mark (a ++ b)
Lacks-append mark [] b one two = two
Lacks-append mark (x ∷ a) b one two = (one.0, Lacks-append mark a b one.1 two)

-- what a text lacks its back lacks
pub Lacks-back : (mark : ℕ) (a b : List ℕ) → Lacks mark (a ++ b) → Lacks mark b
Lacks-back mark [] b lacks = lacks
Lacks-back mark (x ∷ a) b lacks = Lacks-back mark a b lacks.1

-- the titles are two
pub titles_apart : title_one ≡ title_two → ⊥
titles_apart e = let f : ◌≡◌ {A = ℕ} 49 50 = cc in absurd (omega (arith, f))

-- a mode is told by its line
pub mode_once : (m n : Mode) → mode_line m ≡ mode_line n → m ≡ n
mode_once Ioco Ioco e = refl
mode_once Ioco Uioco e = let f : ◌≡◌ {A = ℕ} 105 117 = cc in absurd (omega (arith, f))
mode_once Uioco Ioco e = let f : ◌≡◌ {A = ℕ} 117 105 = cc in absurd (omega (arith, f))
mode_once Uioco Uioco e = refl

-- how divergence was read is told by its line
pub divergence_once : (v w : Divergence) → divergence_line v ≡ divergence_line w → v ≡ w
divergence_once Refuse Refuse e = refl
divergence_once Refuse Silent e = let f : ◌≡◌ {A = ℕ} 114 113 = cc in absurd (omega (arith, f))
divergence_once Silent Refuse e = let f : ◌≡◌ {A = ℕ} 113 114 = cc in absurd (omega (arith, f))
divergence_once Silent Silent e = refl

-- the bytes of a digest are bytes
pub digest_bytes : (d : Digest) → IsDigest d → IsBytes d.0
digest_bytes d is i = go d.0 is.bytes i
  where
    go : (xs : List ℕ) → All (λ b. b < 256) xs → (i : ℕ) → slice_index xs i < 256
    go [] bytes i = omega arith
    go (x ∷ xs) bytes zero = bytes zero x (omega arith)
    go (x ∷ xs) bytes (suc i) = go xs (λ k d below. bytes (suc k) d (omega (arith, below))) i

-- a digest is told by its digits
pub digits_once : (d e : Digest) → IsDigest d → IsDigest e → encode_lower d.0 ≡ encode_lower e.0 → d ≡ e
digits_once d e one two same =
    let back : Ok d.0 ≡ Ok e.0 = sym (decode_of-encode_lower d.0 (digest_bytes d one)) ∙ ap decode_of same ∙ decode_of-encode_lower e.0 (digest_bytes e two) in
    let inside : d.0 ≡ e.0 = cc in
    ap {A = List ℕ} {B = Digest} (λ (bytes : List ℕ). record { 0 = bytes }) inside

-- the digits of a digest are read as it
pub sized_again : (d : Digest) → IsDigest d → decode_sized (encode_lower d.0) 32 ≡ Ok d.0
sized_again d is =
    let long = length-encode_with lower_digits d.0 in
    let here = is.long in
    decode_sized-pairs (encode_lower d.0) 32 (omega (arith, long, here)) (omega (arith, long, here)) ∙ decode_pairs-encode_with lower_digits IsDigits-lower_digits 0 d.0 (digest_bytes d is)

-- what is read of the digits of a digest has these digits
pub digits_same : (text digits bytes made : List ℕ) (d : Digest) → IsDigest d → text ≡ encode_lower d.0 → Ok bytes ≡ decode_sized text 32 → made ≡ bytes → digits ≡ encode_lower made → digits ≡ text
digits_same text digits bytes made d is e read kept printed =
    let back : Ok bytes ≡ Ok d.0 = read ∙ rw e (sized_again d is) in
    let inside : bytes ≡ d.0 = cc in
    printed ∙ ap encode_lower (kept ∙ inside) ∙ sym e

-- no digit is an LF
table_lacks : (xs : List ℕ) → list_all (λ b. nat_lt 10 b) xs ≡ true → (i : ℕ) → slice_index xs i ≡ 10 → ⊥
table_lacks [] t i e = omega (arith, e)
table_lacks (x ∷ xs) t zero e = let more : 10 < x = (Decides-ltb 10 x).0 (and_parts (nat_lt 10 x) (list_all (λ b. nat_lt 10 b) xs) t).0 in omega (arith, e, more)
table_lacks (x ∷ xs) t (suc i) e = table_lacks xs (and_parts (nat_lt 10 x) (list_all (λ b. nat_lt 10 b) xs) t).1 i e

digits_lack : (b : ℕ) → slice_index lower_digits b ≡ 10 → ⊥
digits_lack b e = table_lacks lower_digits refl b e

-- no digit of a digest is an LF
pub hex_lacks : (bytes : List ℕ) → Lacks 10 (encode_lower bytes)
unfolding encode_with
hex_lacks [] = tt
hex_lacks (b ∷ bytes) = (digits_lack (b / 16), (digits_lack (b % 16), hex_lacks bytes))

-- an entry is told by its line
pub entry_once : (e f : Entry) → entry_line e ≡ entry_line f → e ≡ f
entry_once (Sent t) (Sent u) e = ap Sent (append_cancel_left (codes "sent ") t u e)
entry_once (Sent t) (Heard u) e = let f : ◌≡◌ {A = ℕ} 115 104 = cc in absurd (omega (arith, f))
entry_once (Sent t) Quiet e = let f : ◌≡◌ {A = ℕ} 115 100 = cc in absurd (omega (arith, f))
entry_once (Heard t) (Sent u) e = let f : ◌≡◌ {A = ℕ} 104 115 = cc in absurd (omega (arith, f))
entry_once (Heard t) (Heard u) e = ap Heard (append_cancel_left (codes "heard ") t u e)
entry_once (Heard t) Quiet e = let f : ◌≡◌ {A = ℕ} 104 100 = cc in absurd (omega (arith, f))
entry_once Quiet (Sent u) e = let f : ◌≡◌ {A = ℕ} 100 115 = cc in absurd (omega (arith, f))
entry_once Quiet (Heard u) e = let f : ◌≡◌ {A = ℕ} 100 104 = cc in absurd (omega (arith, f))
entry_once Quiet Quiet e = refl

-- the line of an entry begins neither as the line of what is left nor as the last line
pub entry_starts : (e : Entry) (b : ℕ) (bytes : List ℕ) → (b ≡ 108) ⊎ (b ≡ 101) → entry_line e ≡ b ∷ bytes → ⊥
entry_starts (Sent t) b bytes one e = let f : 115 ≡ b = cc in elim one [ inl x ↦ omega (arith, f, x) | inr x ↦ omega (arith, f, x) ]
entry_starts (Heard t) b bytes one e = let f : 104 ≡ b = cc in elim one [ inl x ↦ omega (arith, f, x) | inr x ↦ omega (arith, f, x) ]
entry_starts Quiet b bytes one e = let f : 100 ≡ b = cc in elim one [ inl x ↦ omega (arith, f, x) | inr x ↦ omega (arith, f, x) ]

-- what is left is told by its line
pub left_once : (t u : List ℕ) → left_line t ≡ left_line u → t ≡ u
left_once t u e = append_cancel_left (codes "left ") t u e

-- the line of what is left is no last line
pub left_no_end : (t : List ℕ) (n : ℕ) (e : Ending) → left_line t ≡ end_line n e → ⊥
left_no_end t n e same = let f : ◌≡◌ {A = ℕ} 108 101 = cc in absurd (omega (arith, f))

-- an ending, by the first bytes of its word
abbrev told : List ℕ → Ending
told word =
    if get_or word 0 0 == 112 then Pass
    else if get_or word 0 0 == 101 then Ended
    else if get_or word 0 0 == 115 then Stalled
    else if get_or word 0 0 == 108 then Long
    else if get_or word 0 0 == 98 then Broken
    else if get_or word 1 0 == 97 then Fail
    else Full

told_word : (e : Ending) → told (ending_word e) ≡ e
told_word Pass = refl
told_word Fail = refl
told_word Ended = refl
told_word Stalled = refl
told_word Long = refl
told_word Full = refl
told_word Broken = refl

-- an ending is told by its word
pub word_once : (e f : Ending) → ending_word e ≡ ending_word f → e ≡ f
word_once e f same = sym (told_word e) ∙ ap told same ∙ told_word f

-- an ending is told by the last line
pub end_once : (n : ℕ) (e f : Ending) → n < 2 ^ 32 → end_line n e ≡ end_line n f → e ≡ f
end_once n e f low same =
    let rest : decimal n ++ 32 ∷ ending_word e ≡ decimal n ++ 32 ∷ ending_word f = append_cancel_left (codes "end ") (decimal n ++ 32 ∷ ending_word e) (decimal n ++ 32 ∷ ending_word f) same in
    word_once e f (cut_once 32 (decimal n) (ending_word e) (decimal n) (ending_word f) (Lacks-decimal 32 n (omega arith) low) (Lacks-decimal 32 n (omega arith) low) rest).1

-- the line of an entry has no LF
pub entry_lacks : (e : Entry) → IsEntry e → Lacks 10 (entry_line e)
entry_lacks (Sent t) is = Lacks-append 10 (codes "sent ") t (lacks_tested (codes "sent ") refl) is.1.lacks
entry_lacks (Heard t) is = Lacks-append 10 (codes "heard ") t (lacks_tested (codes "heard ") refl) is.lacks
entry_lacks Quiet is = lacks_tested (codes "delta") refl

pub mode_lacks : (m : Mode) → Lacks 10 (mode_line m)
mode_lacks Ioco = lacks_tested (codes "mode ioco") refl
mode_lacks Uioco = lacks_tested (codes "mode uioco") refl

pub divergence_lacks : (v : Divergence) → Lacks 10 (divergence_line v)
divergence_lacks Refuse = lacks_tested (codes "divergence refuse") refl
divergence_lacks Silent = lacks_tested (codes "divergence quiet") refl

word_lacks : (e : Ending) → Lacks 10 (ending_word e)
word_lacks Pass = lacks_tested (codes "pass") refl
word_lacks Fail = lacks_tested (codes "fail") refl
word_lacks Ended = lacks_tested (codes "ended") refl
word_lacks Stalled = lacks_tested (codes "stalled") refl
word_lacks Long = lacks_tested (codes "long") refl
word_lacks Full = lacks_tested (codes "full") refl
word_lacks Broken = lacks_tested (codes "broken") refl

pub end_lacks : (n : ℕ) (e : Ending) → n < 2 ^ 32 → Lacks 10 (end_line n e)
end_lacks n e low =
    let tail : Lacks 10 (32 ∷ ending_word e) = ((λ same. omega (arith, same)), word_lacks e) in
    Lacks-append 10 (codes "end ") (decimal n ++ 32 ∷ ending_word e) (lacks_tested (codes "end ") refl) (Lacks-append 10 (decimal n) (32 ∷ ending_word e) (Lacks-decimal 10 n (omega arith) low) tail)

-- what the line is, where a number and a word stand after its first word
pub end_spelled : (line text digits word : List ℕ) (n : ℕ) (e : Ending) → line ≡ codes "end " ++ text → IsCut 32 text digits word → digits ≡ decimal n → word ≡ ending_word e → line ≡ end_line n e
end_spelled line text digits word n e is cut number named = is ∙ rw (cut.whole, number, named) refl

-- the pieces of a last line
pub end_pieces : (line text : List ℕ) (n : ℕ) (e : Ending) → line ≡ codes "end " ++ text → line ≡ end_line n e → text ≡ decimal n ++ 32 ∷ ending_word e
end_pieces line text n e is end = append_cancel_left (codes "end ") text (decimal n ++ 32 ∷ ending_word e) (sym is ∙ end)

pub end_parts : (line text digits word : List ℕ) (n : ℕ) (e : Ending) → n < 2 ^ 32 → line ≡ codes "end " ++ text → IsCut 32 text digits word → line ≡ end_line n e → (digits ≡ decimal n) × (word ≡ ending_word e)
end_parts line text digits word n e low is cut end = cut_once 32 digits word (decimal n) (ending_word e) cut.first (Lacks-decimal 32 n (omega arith) low) (sym cut.whole ∙ end_pieces line text n e is end)

-- a last line has a space after its number
pub end_holds : (line text : List ℕ) (n : ℕ) (e : Ending) → line ≡ codes "end " ++ text → Lacks 32 text → line ≡ end_line n e → ⊥
end_holds line text n e is lacks end = holds_mark 32 (decimal n) (ending_word e) (rw (end_pieces line text n e is end) at lacks)

-- the ending that a line names, by the ending that its word names
pub end_named : (line text digits word : List ℕ) (n : ℕ) (o : Option Ending) → n < 2 ^ 32 → line ≡ codes "end " ++ text → IsCut 32 text digits word → digits ≡ decimal n → MatchOption o ((e : Ending) → word ≡ ending_word e → ⊥) (λ e. word ≡ ending_word e) →
    MatchOption o ((e : Ending) → line ≡ end_line n e → ⊥) (λ e. line ≡ end_line n e)
end_named line text digits word n None low is cut number none = λ e end. none e (end_parts line text digits word n e low is cut end).1
end_named line text digits word n (Some e) low is cut number named = end_spelled line text digits word n e is cut number named
