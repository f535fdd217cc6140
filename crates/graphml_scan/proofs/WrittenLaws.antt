-- What is written for a piece is read as this piece.
use Rattle.std.proofs.Common.{◌≡◌, ◌∙◌, ℕ, suc, ◌+◌, Bool, true, false, ◌==◌, ◌||◌, ◌&&◌, List, [], ◌∷◌, ◌++◌, append_assoc, length, map, Some, None, inl, inr, ◌⊎◌, refl, sym, ap, subst, arith}
use Rattle.std.specs.List.{list_any, list_all, concat, prefix_len}
use Rattle.std.proofs.lemmas.Bool.{cases_eq, cases_Bool, eq-eqb, eqb-true, true≢false, or_cases, and_parts}
use Rattle.std.proofs.lemmas.List.Folds.{list_any-append}
use Rattle.text_scan.specs.Cut.{Lacks}
use Rattle.text_scan.proofs.CutLaws.{differs}
use Rattle.graphml_scan.specs.Many.{many}
use Rattle.graphml_scan.specs.Piece.{is_white, without_white, begins_name, is_in_name, name_at, cut_at}
use Rattle.graphml_scan.specs.Reference.{reference_at, piece_at, resolved}
use Rattle.graphml_scan.specs.Tag.{Attribute, Tag, value_at, quoted_at, attribute_at, are_once, tag_end_at, start_tag_at, end_tag_at}
use Rattle.graphml_scan.specs.Token.{Byte, Text, Start, End, markup_at, token_at}
use Rattle.graphml_scan.proofs.ManyLaws.{many-none, many-some}
use Rattle.graphml_scan.proofs.LengthLaws.{piece_shrinks, attribute_shrinks}
use Rattle.graphml_scan.proofs.PieceLaws.{cut_found}
use Rattle.std.proofs.Math.Seq.{take-append_seam, drop-append_seam}
use lib.Utf8.{encode}
use Rattle.graphml_scan.specs.Written.{written_byte, written, Opens, Whole, Closes, IsQuoted, AreAttributes, IsPiece}

-- ---- bytes

-- the byte is written for itself
abbrev pub IsOwn : ℕ → Type 0
IsOwn b = (b ≡ 60 → ⊥) × (b ≡ 38 → ⊥) × (b ≡ 34 → ⊥) × (b ≡ 39 → ⊥)

pub each_byte : (P : ℕ → Type 0) → P 60 → P 38 → P 34 → P 39 → ((b : ℕ) → IsOwn b → P b) → (b : ℕ) → P b
each_byte P lt amp quot apos own b = elim (cases_eq b 60) [
  | inl e ↦ subst P (sym e) lt
  | inr n60 ↦ elim (cases_eq b 38) [
    | inl e ↦ subst P (sym e) amp
    | inr n38 ↦ elim (cases_eq b 34) [
      | inl e ↦ subst P (sym e) quot
      | inr n34 ↦ elim (cases_eq b 39) [
        | inl e ↦ subst P (sym e) apos
        | inr n39 ↦ own b (n60, n38, n34, n39)
      ]
    ]
  ]
]

pub own_byte : (b : ℕ) → IsOwn b → written_byte b ≡ b ∷ []
own_byte b own = rw (differs b 60 own.0, differs b 38 own.1, differs b 34 own.2, differs b 39 own.3) refl

-- the bytes have this one
abbrev holds : ℕ → List ℕ → Bool
holds mark bytes = list_any (λ b. b == mark) bytes

lacks_any : (mark : ℕ) (bytes : List ℕ) → holds mark bytes ≡ false → Lacks mark bytes
lacks_any mark [] e = tt
lacks_any mark (b ∷ bytes) e = elim (cases_eq b mark) [
  | inl same ↦ absurd (true≢false (sym (rw (eq-eqb b mark same) refl) ∙ e))
  | inr other ↦ (other, lacks_any mark bytes (rw (differs b mark other) at e))
]

-- what is written for a text has no `<` and no quote
abbrev IsLeftOut : ℕ → Type 0
IsLeftOut mark = (mark ≡ 60) ⊎ (mark ≡ 34) ⊎ (mark ≡ 39)

byte_lacks : (mark : ℕ) → IsLeftOut mark → (b : ℕ) → holds mark (written_byte b) ≡ false
byte_lacks mark (inl lt) b = rw lt (each_byte (λ b. holds 60 (written_byte b) ≡ false) refl refl refl refl (λ b own. rw (own_byte b own, differs b 60 own.0) refl) b)
byte_lacks mark (inr (inl quot)) b = rw quot (each_byte (λ b. holds 34 (written_byte b) ≡ false) refl refl refl refl (λ b own. rw (own_byte b own, differs b 34 own.2) refl) b)
byte_lacks mark (inr (inr apos)) b = rw apos (each_byte (λ b. holds 39 (written_byte b) ≡ false) refl refl refl refl (λ b own. rw (own_byte b own, differs b 39 own.3) refl) b)

text_lacks : (mark : ℕ) → IsLeftOut mark → (text : List ℕ) → holds mark (written text) ≡ false
text_lacks mark out [] = refl
text_lacks mark out (b ∷ text) = rw (list_any-append (λ c. c == mark) (written_byte b) (written text), byte_lacks mark out b, text_lacks mark out text) refl

-- ---- texts

piece_byte : (b : ℕ) (rest : List ℕ) → piece_at (written_byte b ++ rest) ≡ Some (b ∷ [], rest)
unfolding reference_at encode
piece_byte b rest = each_byte (λ b. piece_at (written_byte b ++ rest) ≡ Some (b ∷ [], rest)) refl refl refl refl (λ b own. rw (own_byte b own, differs b 38 own.1) refl) b

pieces_text : (text : List ℕ) → many piece_at (written text) ≡ (map (λ b. b ∷ []) text, [])
pieces_text [] = many-none piece_at [] refl
pieces_text (b ∷ text) = many-some piece_at (written_byte b ++ written text) (b ∷ [], written text) piece_shrinks (piece_byte b (written text)) ∙ rw (pieces_text text) refl

concat_bytes : (text : List ℕ) → concat (map (λ b. b ∷ []) text) ≡ text
concat_bytes [] = refl
concat_bytes (b ∷ text) = ap {A = List ℕ} {B = List ℕ} (λ t. b ∷ t) (concat_bytes text)

pub resolved_text : (text : List ℕ) → resolved (written text) ≡ Some text
unfolding resolved
resolved_text text = rw (pieces_text text, concat_bytes text) refl

-- ---- names

-- the bytes are a name
abbrev pub is_name : List ℕ → Bool
is_name [] = false
is_name (b ∷ bytes) = begins_name b && list_all is_in_name bytes

name_len : (bytes rest : List ℕ) (c : ℕ) → list_all is_in_name bytes ≡ true → is_in_name c ≡ false → prefix_len is_in_name (bytes ++ c ∷ rest) ≡ length bytes
name_len [] rest c all end = rw end refl
name_len (b ∷ bytes) rest c all end =
    let (first, others) = and_parts (is_in_name b) (list_all is_in_name bytes) all in
    rw (first, name_len bytes rest c others end) (omega arith)

pub name_along : (name rest : List ℕ) (c : ℕ) → is_name name ≡ true → is_in_name c ≡ false → name_at (name ++ c ∷ rest) ≡ Some (name, c ∷ rest)
name_along [] rest c is end = absurd (true≢false (sym is))
name_along (b ∷ name) rest c is end =
    let (first, others) = and_parts (begins_name b) (list_all is_in_name name) is in
    let one : 1 + length name ≡ suc (length name) = omega arith in
    rw (first, name_len name rest c others end, one, take-append_seam name (c ∷ rest), drop-append_seam name (c ∷ rest)) refl

white_begins : (b : ℕ) → begins_name b ≡ true → is_white b ≡ false
white_begins b begins = elim (cases_Bool (is_white b)) [
  | inr not ↦ not
  | inl white ↦ absurd (true≢false (sym begins ∙ apart (or_cases _ _ white)))
]
  where
    three : ((b == 32 || b == 9) ≡ true) ⊎ ((b == 13) ≡ true) → begins_name b ≡ false
    three (inl h) = elim (or_cases (b == 32) (b == 9) h) [ inl e ↦ rw (eqb-true b 32 e) refl | inr e ↦ rw (eqb-true b 9 e) refl ]
    three (inr e) = rw (eqb-true b 13 e) refl

    apart : ((b == 32 || b == 9 || b == 13) ≡ true) ⊎ ((b == 10) ≡ true) → begins_name b ≡ false
    apart (inl h) = three (or_cases (b == 32 || b == 9) (b == 13) h)
    apart (inr e) = rw (eqb-true b 10 e) refl

name_no_white : (name rest : List ℕ) → is_name name ≡ true → without_white (name ++ rest) ≡ name ++ rest
name_no_white [] rest is = absurd (true≢false (sym is))
name_no_white (b ∷ name) rest is = let (first, others) = and_parts (begins_name b) (list_all is_in_name name) is in rw (white_begins b first) refl

-- ---- attributes

cut_text : (quote : ℕ) → IsLeftOut quote → (text rest : List ℕ) → cut_at quote (written text ++ quote ∷ rest) ≡ Some (written text, rest)
cut_text quote out text rest = cut_found quote (written text ++ quote ∷ rest) (written text) rest (record { whole = refl; first = lacks_any quote (written text) (text_lacks quote out text) })

value_along : (quote : ℕ) → IsLeftOut quote → (text rest : List ℕ) → value_at quote (written text ++ quote ∷ rest) ≡ Some (written text, rest)
value_along quote out text rest = rw (cut_text quote out text rest, text_lacks 60 (inl refl) text) refl

quoted_along : (text value rest : List ℕ) → IsQuoted text value → (without_white (value ++ rest) ≡ value ++ rest) × (quoted_at (value ++ rest) ≡ Some (written text, rest))
quoted_along text value rest (inl is) = rw (is, append_assoc (written text) (34 ∷ []) rest) (refl, value_along 34 (inr (inl refl)) text rest)
quoted_along text value rest (inr is) = rw (is, append_assoc (written text) (39 ∷ []) rest) (refl, value_along 39 (inr (inr refl)) text rest)

attribute_along : (name text value rest : List ℕ) → is_name name ≡ true → IsQuoted text value → attribute_at (32 ∷ (name ++ 61 ∷ (value ++ rest))) ≡ Some (record { name = name; value = text }, rest)
unfolding attribute_at
attribute_along name text value rest is quoted =
    let (kept, found) = quoted_along text value rest quoted in
    rw (name_no_white name (61 ∷ (value ++ rest)) is, name_along name (value ++ rest) 61 is refl, kept, found, resolved_text text) refl

pub many_along : (attributes : List Attribute) (inner rest : List ℕ) → list_all (λ (a : Attribute). is_name a.name) attributes ≡ true → AreAttributes attributes inner → attribute_at rest ≡ None → many attribute_at (inner ++ rest) ≡ (attributes, rest)
many_along [] inner rest names is end = rw is (many-none attribute_at rest end)
many_along (a ∷ attributes) inner rest names (value, others, quoted, are, is) end =
    let (first, more) = and_parts (is_name a.name) (list_all (λ (a : Attribute). is_name a.name) attributes) names in
    let whole : inner ++ rest ≡ 32 ∷ (a.name ++ 61 ∷ (value ++ (others ++ rest))) = rw is (simp append_assoc refl) in
    rw whole (many-some attribute_at (32 ∷ (a.name ++ 61 ∷ (value ++ (others ++ rest)))) (a, others ++ rest) attribute_shrinks (attribute_along a.name a.value value (others ++ rest) first quoted)
    ∙ rw (many_along attributes others rest more are end) refl)

-- ---- tags

-- names are names, and none stands twice
abbrev pub is_tag : List ℕ → List Attribute → Bool
is_tag name attributes = is_name name && (list_all (λ (a : Attribute). is_name a.name) attributes && are_once [] attributes)

-- what ends a tag isn't a part of a name, nor an attribute
abbrev EndsTag : Bool → ℕ → List ℕ → List ℕ → Type 0
EndsTag whole c more rest = (is_in_name c ≡ false) × (is_white c ≡ false) × (attribute_at (c ∷ more) ≡ None) × (tag_end_at (c ∷ more) ≡ Some (whole, rest))

inner_front : (attributes : List Attribute) (inner : List ℕ) (c : ℕ) (more : List ℕ) → AreAttributes attributes inner → is_in_name c ≡ false → (d : ℕ) × (others : List ℕ) × (inner ++ c ∷ more ≡ d ∷ others) × (is_in_name d ≡ false)
inner_front [] inner c more are end = (c, more, rw are refl, end)
inner_front (a ∷ attributes) inner c more (value, others, quoted, are, is) end = (32, ((a.name ++ 61 ∷ value) ++ others) ++ c ∷ more, rw is refl, refl)

start_along : (name : List ℕ) (attributes : List Attribute) (inner : List ℕ) (whole : Bool) (c : ℕ) (more rest : List ℕ) → is_tag name attributes ≡ true → AreAttributes attributes inner → EndsTag whole c more rest → start_tag_at (name ++ (inner ++ c ∷ more)) ≡ Some (record { name = name; attributes = attributes; whole = whole }, rest)
unfolding start_tag_at
start_along name attributes inner whole c more rest is are (in_name, white, no_attribute, ends) =
    let (named, others) = and_parts (is_name name) (list_all (λ (a : Attribute). is_name a.name) attributes && are_once [] attributes) is in
    let (names, once) = and_parts (list_all (λ (a : Attribute). is_name a.name) attributes) (are_once [] attributes) others in
    let (d, tail, front, stops) = inner_front attributes inner c more are in_name in
    let found : name_at (name ++ (inner ++ c ∷ more)) ≡ Some (name, inner ++ c ∷ more) = rw front (name_along name tail d named stops) in
    rw (found, many_along attributes inner (c ∷ more) names are no_attribute, once, white, ends) refl

close_whole : (rest : List ℕ) → EndsTag true 47 (62 ∷ rest) rest
unfolding attribute_at
close_whole rest = (refl, refl, refl, refl)

close_open : (rest : List ℕ) → EndsTag false 62 rest rest
unfolding attribute_at
close_open rest = (refl, refl, refl, refl)

name_marks : (name rest : List ℕ) (c : ℕ) → is_name name ≡ true → begins_name c ≡ false → (b : ℕ) × (others : List ℕ) × (name ++ rest ≡ b ∷ others) × ((b == c) ≡ false)
name_marks [] rest c is other = absurd (true≢false (sym is))
name_marks (b ∷ name) rest c is other =
    let (first, more) = and_parts (begins_name b) (list_all is_in_name name) is in
    (b, name ++ rest, refl, differs b c (λ e. true≢false (sym first ∙ ap begins_name e ∙ other)))

-- the markup of a start tag
started_along : (name rest after : List ℕ) (tag : Tag) → is_name name ≡ true → start_tag_at (name ++ rest) ≡ Some (tag, after) → token_at (60 ∷ (name ++ rest)) ≡ Some (Start tag, after)
unfolding markup_at
started_along [] rest after tag is found = absurd (true≢false (sym is))
started_along (b ∷ name) rest after tag is found =
    let (first, more) = and_parts (begins_name b) (list_all is_in_name name) is in
    let not : (c : ℕ) → begins_name c ≡ false → (b == c) ≡ false = λ c other. differs b c (λ e. true≢false (sym first ∙ ap begins_name e ∙ other)) in
    rw (not 47 refl, not 63 refl, not 33 refl, found) refl

pub token_opens : (name : List ℕ) (attributes : List Attribute) (bytes rest : List ℕ) → is_tag name attributes ≡ true → IsPiece (Opens name attributes) bytes → token_at (bytes ++ rest) ≡ Some (Start (record { name = name; attributes = attributes; whole = false }), rest)
token_opens name attributes bytes rest is (inner, are, text) =
    let whole : bytes ++ rest ≡ 60 ∷ (name ++ (inner ++ 62 ∷ rest)) = rw text (simp append_assoc refl) in
    rw whole (started_along name (inner ++ 62 ∷ rest) rest _ (and_parts _ _ is).0 (start_along name attributes inner false 62 rest rest is are (close_open rest)))

pub token_whole : (name : List ℕ) (attributes : List Attribute) (bytes rest : List ℕ) → is_tag name attributes ≡ true → IsPiece (Whole name attributes) bytes → token_at (bytes ++ rest) ≡ Some (Start (record { name = name; attributes = attributes; whole = true }), rest)
token_whole name attributes bytes rest is (inner, are, text) =
    let whole : bytes ++ rest ≡ 60 ∷ (name ++ (inner ++ 47 ∷ 62 ∷ rest)) = rw text (simp append_assoc refl) in
    rw whole (started_along name (inner ++ 47 ∷ 62 ∷ rest) rest _ (and_parts _ _ is).0 (start_along name attributes inner true 47 (62 ∷ rest) rest is are (close_whole rest)))

pub token_closes : (name bytes rest : List ℕ) → is_name name ≡ true → IsPiece (Closes name) bytes → token_at (bytes ++ rest) ≡ Some (End name, rest)
unfolding markup_at end_tag_at
token_closes name bytes rest is text =
    let whole : bytes ++ rest ≡ 60 ∷ 47 ∷ (name ++ 62 ∷ rest) = rw text (simp append_assoc refl) in
    rw (whole, name_along name rest 62 is refl) refl

-- ---- text

pub token_own : (b : ℕ) (rest : List ℕ) → IsOwn b → token_at (b ∷ rest) ≡ Some (Byte b, rest)
token_own b rest own = rw (differs b 60 own.0, differs b 38 own.1) refl

-- the byte is told by itself, or by a reference
pub token_byte : (b : ℕ) (rest : List ℕ) → (token_at (written_byte b ++ rest) ≡ Some (Byte b, rest)) ⊎ (token_at (written_byte b ++ rest) ≡ Some (Text (b ∷ []), rest))
unfolding reference_at encode
token_byte b rest = each_byte (λ b. (token_at (written_byte b ++ rest) ≡ Some (Byte b, rest)) ⊎ (token_at (written_byte b ++ rest) ≡ Some (Text (b ∷ []), rest))) (inr refl) (inr refl) (inr refl) (inr refl) (λ b own. rw (own_byte b own) (inl (token_own b rest own))) b
