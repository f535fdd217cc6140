-- Every piece that is read has a byte at least, and leaves no more than there was.
use Rattle.std.proofs.Common.{◌≡◌, ℕ, zero, suc, ◌-◌, ◌≤◌, Bool, true, false, cond, ◌==◌, List, [], ◌∷◌, length, take, drop, Option, Some, None, refl, arith, codes}
use Rattle.std.proofs.lemmas.List.{length-drop}
use Rattle.std.specs.Prelude.{option_map}
use Rattle.std.specs.List.{prefix_len}
use Rattle.std.specs.Str.{bytes_eq}
use Rattle.graphml_scan.specs.Many.{Cut, ◌>>=◌, many_within, many}
use Rattle.graphml_scan.specs.Piece.{is_white, without_white, begins_name, is_in_name, name_at, after_byte, after_text, cut_at, cut_text}
use Rattle.graphml_scan.specs.Reference.{referred, reference_at, piece_at, resolved}
use Rattle.graphml_scan.specs.Tag.{white_at, has_lt, value_at, quoted_at, attribute_at, are_once, attributes_at, tag_end_at, start_tag_at, end_tag_at}
use Rattle.graphml_scan.specs.Token.{Token, passed_at, section_at, marked_at, markup_at, token_at, placed_at}
use Rattle.graphml_scan.proofs.ManyLaws.{Shrinks}

-- ---- steps that may fail

-- what holds of the rest after each step
abbrev pub Leaves : {A : Type 0} → ℕ → Option (Cut A) → Type 0
Leaves n None = Unit {0}
Leaves n (Some cut) = length cut.1 ≤ n

abbrev pub LeavesBytes : ℕ → Option (List ℕ) → Type 0
LeavesBytes n None = Unit {0}
LeavesBytes n (Some rest) = length rest ≤ n

pub then_leaves : {A B : Type 0} (n : ℕ) (o : Option (Cut A)) (f : Cut A → Option (Cut B)) → Leaves n o → ((cut : Cut A) → length cut.1 ≤ n → Leaves n (f cut)) → Leaves n (o >>= f)
then_leaves n None f none others = tt
then_leaves n (Some cut) f le others = others cut le

pub bytes_then : {B : Type 0} (n : ℕ) (o : Option (List ℕ)) (f : List ℕ → Option (Cut B)) → LeavesBytes n o → ((rest : List ℕ) → length rest ≤ n → Leaves n (f rest)) → Leaves n (o >>= f)
bytes_then n None f none others = tt
bytes_then n (Some rest) f le others = others rest le

pub any_then : {A B : Type 0} (n : ℕ) (o : Option A) (f : A → Option (Cut B)) → ((x : A) → Leaves n (f x)) → Leaves n (o >>= f)
any_then n None f others = tt
any_then n (Some x) f others = others x

pub if_leaves : {A : Type 0} (n : ℕ) (b : Bool) (x y : Option (Cut A)) → Leaves n x → Leaves n y → Leaves n (cond b x y)
if_leaves n true x y one other = one
if_leaves n false x y one other = other

pub if_bytes : (n : ℕ) (b : Bool) (x y : Option (List ℕ)) → LeavesBytes n x → LeavesBytes n y → LeavesBytes n (cond b x y)
if_bytes n true x y one other = one
if_bytes n false x y one other = other

pub map_leaves : {A B : Type 0} (n : ℕ) (o : Option (Cut A)) (f : A → B) → Leaves n o → Leaves n (option_map (λ cut. (f cut.0, cut.1)) o)
map_leaves n None f le = tt
map_leaves n (Some cut) f le = le

pub more_leaves : {A : Type 0} (n m : ℕ) (o : Option (Cut A)) → n ≤ m → Leaves n o → Leaves m o
more_leaves n m None le h = tt
more_leaves n m (Some cut) le h = omega arith

more_bytes : (n m : ℕ) (o : Option (List ℕ)) → n ≤ m → LeavesBytes n o → LeavesBytes m o
more_bytes n m None le h = tt
more_bytes n m (Some rest) le h = omega arith

pub shrinks : {A : Type 0} (n : ℕ) (o : Option (Cut A)) (x : Cut A) → Leaves n o → o ≡ Some x → length x.1 ≤ n
shrinks n None x le e = absurd cc
shrinks n (Some cut) x le e = let same : cut ≡ x = cc in rw same at le

-- ---- pieces

pub white_le : (bytes : List ℕ) → length (without_white bytes) ≤ length bytes
white_le [] = omega arith
white_le (b ∷ bytes) = go (is_white b) refl (white_le bytes)
  where
    go : (w : Bool) → is_white b ≡ w → length (without_white bytes) ≤ length bytes → length (without_white (b ∷ bytes)) ≤ length (b ∷ bytes)
    go true e le = rw e (omega (arith, le))
    go false e le = rw e (omega arith)

drop_le : (n : ℕ) (bytes : List ℕ) → length (drop n bytes) ≤ length bytes
drop_le n bytes = omega (arith, length-drop n bytes)

pub name_leaves : (bytes : List ℕ) → Leaves (length bytes) (name_at bytes)
name_leaves [] = tt
name_leaves (b ∷ bytes) = if_leaves _ (begins_name b) _ None (drop_le (prefix_len is_in_name (b ∷ bytes)) (b ∷ bytes)) tt

pub byte_leaves : (mark : ℕ) (bytes : List ℕ) → LeavesBytes (length bytes) (after_byte mark bytes)
byte_leaves mark [] = tt
byte_leaves mark (b ∷ bytes) = if_bytes _ (b == mark) (Some bytes) None (omega arith) tt

pub text_leaves : (front bytes : List ℕ) → LeavesBytes (length bytes) (after_text front bytes)
text_leaves front bytes = if_bytes _ (bytes_eq (take (length front) bytes) front) (Some (drop (length front) bytes)) None (drop_le (length front) bytes) tt

keep_leaves : (n b : ℕ) (o : Option (Cut (List ℕ))) → Leaves n o → Leaves (suc n) (option_map (λ cut. (b ∷ cut.0, cut.1)) o)
keep_leaves n b None le = tt
keep_leaves n b (Some cut) le = omega arith

pub cut_leaves : (mark : ℕ) (bytes : List ℕ) → Leaves (length bytes) (cut_at mark bytes)
cut_leaves mark [] = tt
cut_leaves mark (b ∷ bytes) = if_leaves _ (b == mark) (Some ([], bytes)) _ (omega arith) (keep_leaves (length bytes) b (cut_at mark bytes) (cut_leaves mark bytes))

pub cut_text_leaves : (mark bytes : List ℕ) → Leaves (length bytes) (cut_text mark bytes)
cut_text_leaves mark [] = tt
cut_text_leaves mark (b ∷ bytes) =
    if_leaves _ (bytes_eq (take (length mark) (b ∷ bytes)) mark) (Some ([], drop (length mark) (b ∷ bytes))) _ (drop_le (length mark) (b ∷ bytes)) (keep_leaves (length bytes) b (cut_text mark bytes) (cut_text_leaves mark bytes))

-- ---- references

pub reference_leaves : (bytes : List ℕ) → Leaves (length bytes) (reference_at bytes)
unfolding reference_at
reference_leaves bytes = then_leaves _ (cut_at 59 bytes) _ (cut_leaves 59 bytes) (λ cut le. any_then _ (referred cut.0) _ (λ character. le))

pub piece_shrinks : Shrinks piece_at
piece_shrinks [] x e = absurd cc
piece_shrinks (b ∷ bytes) x e = let le = shrinks (length bytes) (piece_at (b ∷ bytes)) x (if_leaves _ (b == 38) (reference_at bytes) (Some (b ∷ [], bytes)) (reference_leaves bytes) (omega arith)) e in omega (arith, le)

-- ---- tags

white_leaves : (b : ℕ) (bytes : List ℕ) → LeavesBytes (length bytes) (white_at (b ∷ bytes))
white_leaves b bytes = if_bytes _ (is_white b) (Some (without_white bytes)) None (white_le bytes) tt

value_leaves : (quote : ℕ) (bytes : List ℕ) → Leaves (length bytes) (value_at quote bytes)
value_leaves quote bytes = then_leaves _ (cut_at quote bytes) _ (cut_leaves quote bytes) (λ cut le. if_leaves _ (has_lt cut.0) None (Some cut) tt le)

quoted_leaves : (bytes : List ℕ) → Leaves (length bytes) (quoted_at bytes)
quoted_leaves [] = tt
quoted_leaves (b ∷ bytes) = if_leaves _ (b == 34) (value_at 34 bytes) _ (more_leaves _ _ (value_at 34 bytes) (omega arith) (value_leaves 34 bytes))
    (if_leaves _ (b == 39) (value_at 39 bytes) None (more_leaves _ _ (value_at 39 bytes) (omega arith) (value_leaves 39 bytes)) tt)

attribute_leaves : (b : ℕ) (bytes : List ℕ) → Leaves (length bytes) (attribute_at (b ∷ bytes))
unfolding attribute_at
attribute_leaves b bytes =
    bytes_then _ (white_at (b ∷ bytes)) _ (white_leaves b bytes) (λ start le.
    then_leaves _ (name_at start) _ (more_leaves _ _ (name_at start) le (name_leaves start)) (λ name le.
    bytes_then _ (after_byte 61 (without_white name.1)) _ (more_bytes _ _ (after_byte 61 (without_white name.1)) (omega (arith, le, white_le name.1)) (byte_leaves 61 (without_white name.1))) (λ equal le.
    then_leaves _ (quoted_at (without_white equal)) _ (more_leaves _ _ (quoted_at (without_white equal)) (omega (arith, le, white_le equal)) (quoted_leaves (without_white equal))) (λ value le.
    any_then _ (resolved value.0) _ (λ text. le)))))

pub attribute_shrinks : Shrinks attribute_at
unfolding attribute_at
attribute_shrinks [] x e = absurd cc
attribute_shrinks (b ∷ bytes) x e = let le = shrinks (length bytes) (attribute_at (b ∷ bytes)) x (attribute_leaves b bytes) e in omega (arith, le)

-- ---- many items leave no more than there was

within_le : {A : Type 0} (item : List ℕ → Option (Cut A)) → Shrinks item → (n : ℕ) (bytes : List ℕ) → length (many_within n item bytes).1 ≤ length bytes
unfolding many_within
within_le item small zero bytes = omega arith
within_le {A} item small (suc n) bytes = go (item bytes) refl (λ (x : Cut A). within_le item small n x.1)
  where
    go : (o : Option (Cut A)) → item bytes ≡ o → ((x : Cut A) → length (many_within n item x.1).1 ≤ length x.1) → length (many_within (suc n) item bytes).1 ≤ length bytes
    go None e others = rw e (omega arith)
    go (Some x) e others = rw e (omega (arith, others x, small bytes x e))

pub many_le : {A : Type 0} (item : List ℕ → Option (Cut A)) → Shrinks item → (bytes : List ℕ) → length (many item bytes).1 ≤ length bytes
unfolding many
many_le item small bytes = within_le item small (length bytes) bytes

attributes_leaves : (bytes : List ℕ) → Leaves (length bytes) (attributes_at bytes)
attributes_leaves bytes = if_leaves _ (are_once [] (many attribute_at bytes).0) (Some (many attribute_at bytes)) None (many_le attribute_at attribute_shrinks bytes) tt

tag_end_leaves : (bytes : List ℕ) → Leaves (length bytes) (tag_end_at bytes)
tag_end_leaves [] = tt
tag_end_leaves (b ∷ bytes) = if_leaves _ (b == 62) (Some (false, bytes)) _ (omega arith)
    (if_leaves _ (b == 47) (option_map (λ rest. (true, rest)) (after_byte 62 bytes)) None (ended (after_byte 62 bytes) (byte_leaves 62 bytes)) tt)
  where
    ended : (o : Option (List ℕ)) → LeavesBytes (length bytes) o → Leaves (length (b ∷ bytes)) (option_map (λ rest. (true, rest)) o)
    ended None le = tt
    ended (Some rest) le = omega (arith, le)

pub start_leaves : (bytes : List ℕ) → Leaves (length bytes) (start_tag_at bytes)
unfolding start_tag_at
start_leaves bytes =
    then_leaves _ (name_at bytes) _ (name_leaves bytes) (λ name le.
    then_leaves _ (attributes_at name.1) _ (more_leaves _ _ (attributes_at name.1) le (attributes_leaves name.1)) (λ attributes le.
    then_leaves _ (tag_end_at (without_white attributes.1)) _ (more_leaves _ _ (tag_end_at (without_white attributes.1)) (omega (arith, le, white_le attributes.1)) (tag_end_leaves (without_white attributes.1))) (λ end le. le)))

pub end_leaves : (bytes : List ℕ) → Leaves (length bytes) (end_tag_at bytes)
unfolding end_tag_at
end_leaves bytes =
    then_leaves _ (name_at bytes) _ (name_leaves bytes) (λ name le.
    bytes_then _ (after_byte 62 (without_white name.1)) _ (more_bytes _ _ (after_byte 62 (without_white name.1)) (omega (arith, le, white_le name.1)) (byte_leaves 62 (without_white name.1))) (λ rest le. le))

-- ---- tokens

passed_leaves : (mark bytes : List ℕ) → Leaves (length bytes) (passed_at mark bytes)
passed_leaves mark bytes = map_leaves _ (cut_text mark bytes) (λ _. Token.Passed) (cut_text_leaves mark bytes)

section_leaves : (bytes : List ℕ) → Leaves (length bytes) (section_at bytes)
section_leaves bytes = map_leaves _ (cut_text (codes "]]>") bytes) Token.Text (cut_text_leaves (codes "]]>") bytes)

marked_leaves : (bytes : List ℕ) → Leaves (length bytes) (marked_at bytes)
unfolding marked_at
marked_leaves bytes = go (after_text (codes "--") bytes) (text_leaves (codes "--") bytes)
  where
    go : (o : Option (List ℕ)) → LeavesBytes (length bytes) o → Leaves (length bytes) (elim o [ Some comment ↦ passed_at (codes "-->") comment | None ↦ after_text (codes "[CDATA[") bytes >>= section_at ])
    go None le = bytes_then _ (after_text (codes "[CDATA[") bytes) section_at (text_leaves (codes "[CDATA[") bytes) (λ section le. more_leaves _ _ (section_at section) le (section_leaves section))
    go (Some comment) le = more_leaves _ _ (passed_at (codes "-->") comment) le (passed_leaves (codes "-->") comment)

pub markup_leaves : (bytes : List ℕ) → Leaves (length bytes) (markup_at bytes)
unfolding markup_at
markup_leaves [] = tt
markup_leaves (b ∷ bytes) =
    if_leaves _ (b == 47) _ _ (map_leaves _ (end_tag_at bytes) Token.End (more_leaves _ _ (end_tag_at bytes) (omega arith) (end_leaves bytes)))
    (if_leaves _ (b == 63) (passed_at (codes "?>") bytes) _ (more_leaves _ _ (passed_at (codes "?>") bytes) (omega arith) (passed_leaves (codes "?>") bytes))
    (if_leaves _ (b == 33) (marked_at bytes) _ (more_leaves _ _ (marked_at bytes) (omega arith) (marked_leaves bytes))
    (map_leaves _ (start_tag_at (b ∷ bytes)) Token.Start (start_leaves (b ∷ bytes)))))

token_leaves : (b : ℕ) (bytes : List ℕ) → Leaves (length bytes) (token_at (b ∷ bytes))
token_leaves b bytes =
    if_leaves _ (b == 60) (markup_at bytes) _ (markup_leaves bytes)
    (if_leaves _ (b == 38) _ (Some (Token.Byte b, bytes)) (map_leaves _ (reference_at bytes) Token.Text (reference_leaves bytes)) (omega arith))

pub placed_shrinks : (size : ℕ) → Shrinks (placed_at size)
placed_shrinks size [] x e = absurd cc
placed_shrinks size (b ∷ bytes) x e =
    let le = shrinks (length bytes) (placed_at size (b ∷ bytes)) x (map_leaves (length bytes) (token_at (b ∷ bytes)) (λ token. record { at = size - length (b ∷ bytes); token = token }) (token_leaves b bytes)) e in omega (arith, le)
