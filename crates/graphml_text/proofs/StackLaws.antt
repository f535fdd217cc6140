-- Laws on the stack of open elements, whose last is the innermost.
use Rattle.std.proofs.Common.{◌≡◌, ◌∙◌, ℕ, zero, suc, Bool, true, false, cond, ◌==◌, get_or, append_assoc, ap₂, set, ◌+◌, ◌-◌, ◌<◌, List, [], ◌∷◌, ◌++◌, length, take, drop, map, Some, None, Result, Ok, Err, refl, sym, ap, subst, arith}
use Rattle.std.specs.Prelude.{slice_get}
use Rattle.std.proofs.lemmas.List.{length_push, map_push, same_from_push, length-map, append-nil, drop_more, nil_from_length}
use Rattle.std.specs.Str.{bytes_eq}
use Rattle.graphml_text.specs.declared.error.GraphError.{GraphError}
use Rattle.graphml_text.specs.declared.machine.Open.{Open as LentOpen}
use Rattle.graphml_text.specs.Reading.{Open, Reading}
use Rattle.graphml_text.specs.declared.error.GraphError.TheVariants.{Malformed, Memory}
use Rattle.graphml_text.specs.declared.machine.Machine.{Machine}
use Rattle.graphml_text.specs.declared.role.Role.{Role}
use Rattle.graphml_scan.specs.Tag.{Tag}
use Rattle.std.proofs.lemmas.Bool.{eqb-true}
use Rattle.std.proofs.lemmas.Option.{slice_get-get_or}
use Rattle.graphml_scan.specs.Piece.{is_white}
use Rattle.graphml_text.specs.Document.{run_read, on_ok}
use Rattle.graphml_scan.specs.Token.{Byte, Text, Start, End, Passed}
use Rattle.graphml_text.specs.Element.{with_text, texted, collects, left, innermost, step, start_fault, role_of, opened}
use Rattle.graphml_text.specs.MachineValues.{open_of, reading_of, Refuses, Steps, Closes, Adds}

-- the last of a list with one more
pub last_push : {X : Type 0} (front : List X) (x : X) → slice_get (front ++ x ∷ []) (length (front ++ x ∷ []) - 1) ≡ Some x
last_push [] x = refl
last_push (y ∷ front) x =
    let one : length (front ++ x ∷ []) ≡ length front + 1 = length_push front x in
    let count : length (y ∷ (front ++ x ∷ [])) - 1 ≡ suc (length (front ++ x ∷ []) - 1) = omega (arith, one) in
    rw count (last_push front x)

pub front_push : {X : Type 0} (front : List X) (x : X) → take (length (front ++ x ∷ []) - 1) (front ++ x ∷ []) ≡ front
front_push [] x = refl
front_push {X} (y ∷ front) x =
    let one : length (front ++ x ∷ []) ≡ length front + 1 = length_push front x in
    let count : length (y ∷ (front ++ x ∷ [])) - 1 ≡ suc (length (front ++ x ∷ []) - 1) = omega (arith, one) in
    rw count (ap {A = List X} {B = List X} (λ xs. y ∷ xs) (front_push front x))

-- a list with a last element is its front and that
pub last_split : {X : Type 0} (xs : List X) (x : X) → slice_get xs (length xs - 1) ≡ Some x → xs ≡ take (length xs - 1) xs ++ x ∷ []
last_split [] x e = absurd cc
last_split (y ∷ []) x e = let same : y ≡ x = cc in ap (λ z. z ∷ []) same
last_split {X} (y ∷ z ∷ xs) x e =
    let count : length (y ∷ z ∷ xs) - 1 ≡ suc (length (z ∷ xs) - 1) = omega arith in
    rw count (ap {A = List X} {B = List X} (λ ys. y ∷ ys) (last_split (z ∷ xs) x (rw count at e)))

-- ---- the stack of the reader

pub texted_last : (old rest new : List LentOpen) (p q : LentOpen) (text : List ℕ) (front : List Open) (o : Open) → old ≡ rest ++ p ∷ [] → new ≡ rest ++ q ∷ [] → open_of q ≡ with_text text (open_of p) → map open_of old ≡ front ++ o ∷ [] → map open_of new ≡ front ++ with_text text o ∷ []
texted_last old rest new p q text front o is_old is_new more split =
    let seen : map open_of rest ++ open_of p ∷ [] ≡ front ++ o ∷ [] = sym (map_push open_of rest p) ∙ ap (λ (xs : List LentOpen). map open_of xs) (sym is_old) ∙ split in
    let (fronts, lasts) = same_from_push (map open_of rest) front (open_of p) o seen in
    rw is_new (rw (map_push open_of rest q, fronts) (ap {A = Open} {B = List Open} (λ z. front ++ z ∷ []) (more ∙ ap {A = Open} {B = Open} (λ z. with_text text z) lasts)))

slice_get-map : {X Y : Type 0} (f : X → Y) (xs : List X) (i : ℕ) (x : X) → slice_get xs i ≡ Some x → slice_get (map f xs) i ≡ Some (f x)
slice_get-map f [] i x e = absurd cc
slice_get-map f (y ∷ xs) zero x e = let same : y ≡ x = cc in rw same refl
slice_get-map f (y ∷ xs) (suc i) x e = slice_get-map f xs i x e

-- the innermost element
pub innermost_is : (m : Machine) (x : LentOpen) → slice_get m.stack.items (length m.stack.items - 1) ≡ Some x → innermost (reading_of m) ≡ Some (open_of x)
innermost_is m x e = rw length-map (slice_get-map open_of m.stack.items (length m.stack.items - 1) x e)

pub ended_is : {A : Type 0} (at : ℕ) (m : Machine) (name : List ℕ) (x : LentOpen) (new : Reading) (r : Result A GraphError) → slice_get m.stack.items (length m.stack.items - 1) ≡ Some x → bytes_eq x.name.now name ≡ true → Closes m new r → Steps new r (step at (reading_of m) (End name))
unfolding step
ended_is at m name x new r is same closes =
    let inner : innermost (reading_of m) ≡ Some (open_of x) = innermost_is m x is in
    rw (inner, same) (closes (take (length (map open_of m.stack.items) - 1) (map open_of m.stack.items)) (open_of x) (last_split (map open_of m.stack.items) (open_of x) inner))

pub ended_other : (at : ℕ) (m : Machine) (name : List ℕ) (x : LentOpen) → slice_get m.stack.items (length m.stack.items - 1) ≡ Some x → bytes_eq x.name.now name ≡ false → step at (reading_of m) (End name) ≡ Err (Malformed at)
unfolding step
ended_other at m name x is other = rw (innermost_is m x is, other) refl

pub started_fault : (at : ℕ) (m : Reading) (tag : Tag) (e : GraphError) → start_fault at m tag (role_of m tag) ≡ Some e → step at m (Start tag) ≡ Err e
unfolding step
started_fault at m tag e is = rw is refl

pub started_open : (at : ℕ) (m n : Reading) (tag : Tag) → start_fault at m tag (role_of m tag) ≡ None → tag.whole ≡ false → n ≡ opened at m tag (role_of m tag) → step at m (Start tag) ≡ Ok n
unfolding step
started_open at m n tag fine part is = rw (fine, part) (ap {A = Reading} {B = Result Reading GraphError} (λ k. Ok k) (sym is))

abbrev pub open_by : ℕ → Tag → Role → Open
open_by at tag role = record { name = tag.name; at = at; role = role; text = [] }

pub started_whole : {A : Type 0} (at : ℕ) (m : Reading) (mid : Machine) (tag : Tag) (new : Reading) (r : Result A GraphError) → start_fault at m tag (role_of m tag) ≡ None → tag.whole ≡ true → reading_of mid ≡ opened at m tag (role_of m tag) → Closes mid new r → Steps new r (step at m (Start tag))
unfolding step
started_whole at m mid tag new r fine whole is closes =
    let role : Role = role_of m tag in
    let stacked : map open_of mid.stack.items ≡ m.stack ++ open_by at tag role ∷ [] = ap {A = Reading} {B = List Open} (λ n. n.stack) is in
    let ends = closes m.stack (open_by at tag role) stacked in
    let kept : take (length (m.stack ++ open_by at tag role ∷ []) - 1) (m.stack ++ open_by at tag role ∷ []) ≡ m.stack = front_push m.stack (open_by at tag role) in
    rw (fine, whole, kept) (subst (λ (n : Reading). Steps new r (left (record n { stack = m.stack }) (open_by at tag role) role)) is ends)

-- a refusal for the fault that is met
pub refused : {A : Type 0} (e : GraphError) (read : Result A GraphError) → read ≡ Err e → Refuses e read
refused Memory read is = tt
refused e read is = is

pub ended_none : (at : ℕ) (m : Machine) (name : List ℕ) → None ≡ slice_get m.stack.items (length m.stack.items - 1) → step at (reading_of m) (End name) ≡ Err (Malformed at)
unfolding step
ended_none at m name e =
    let none : innermost (reading_of m) ≡ None = rw length-map (get_none m.stack.items (length m.stack.items - 1) (sym e)) in
    rw none refl
  where
    get_none : (xs : List LentOpen) (i : ℕ) → slice_get xs i ≡ None → slice_get (map open_of xs) i ≡ None
    get_none [] i h = refl
    get_none (x ∷ xs) zero h = cc
    get_none (x ∷ xs) (suc i) h = get_none xs i h

-- ---- text

pub none_inside : (m : Machine) → true ≡ (length m.stack.items == 0) → innermost (reading_of m) ≡ None
none_inside m empty = go m.stack.items empty
  where
    go : (xs : List LentOpen) → true ≡ (length xs == 0) → slice_get (map open_of xs) (length (map open_of xs) - 1) ≡ None
    go [] e = refl
    go (x ∷ xs) e = absurd (omega (arith, eqb-true (length (x ∷ xs)) 0 (sym e)))

pub some_inside : (m : Machine) → false ≡ (length m.stack.items == 0) → (o : Open) × (innermost (reading_of m) ≡ Some o)
some_inside m some = go m.stack.items some
  where
    go : (xs : List LentOpen) → false ≡ (length xs == 0) → (o : Open) × (slice_get (map open_of xs) (length (map open_of xs) - 1) ≡ Some o)
    go [] e = absurd cc
    go (x ∷ xs) e = (get_or (map open_of (x ∷ xs)) (length (map open_of (x ∷ xs)) - 1) (open_of x), slice_get-get_or (map open_of (x ∷ xs)) (length (map open_of (x ∷ xs)) - 1) (open_of x) (omega arith))

pub text_outside : (at : ℕ) (m : Reading) (text : List ℕ) → innermost m ≡ None → step at m (Text text) ≡ Err (Malformed at)
unfolding step
text_outside at m text none = rw none refl

added_is : (m : Machine) (new : List LentOpen) (text : List ℕ) (o : Open) → innermost (reading_of m) ≡ Some o → Adds m.stack.items new text → texted (reading_of m) text o ≡ record (reading_of m) { stack = map open_of new }
added_is m new text o inner adds =
    let stack : List Open = map open_of m.stack.items in
    ap {A = List Open} {B = Reading} (λ s. record (reading_of m) { stack = s }) (sym (adds (take (length stack - 1) stack) o (last_split stack o inner)))

pub text_inside : (at : ℕ) (m : Machine) (new : List LentOpen) (text : List ℕ) → false ≡ (length m.stack.items == 0) → Adds m.stack.items new text → step at (reading_of m) (Text text) ≡ Ok (record (reading_of m) { stack = map open_of new })
unfolding step
text_inside at m new text some adds =
    let (o, inner) = some_inside m some in
    rw inner (ap {A = Reading} {B = Result Reading GraphError} (λ n. Ok n) (added_is m new text o inner adds))

-- ---- text byte by byte

byte_inside : (at : ℕ) (m : Reading) (b : ℕ) (o : Open) → innermost m ≡ Some o → step at m (Byte b) ≡ Ok (texted m (b ∷ []) o)
unfolding step
byte_inside at m b o inner = rw inner refl

pub byte_outside : (at : ℕ) (m : Reading) (b : ℕ) → innermost m ≡ None → is_white b ≡ true → step at m (Byte b) ≡ Ok m
unfolding step
byte_outside at m b none white = rw (none, white) refl

pub byte_fault : (at : ℕ) (m : Reading) (b : ℕ) → innermost m ≡ None → is_white b ≡ false → step at m (Byte b) ≡ Err (Malformed at)
unfolding step
byte_fault at m b none other = rw (none, other) refl

with_none : (o : Open) → with_text [] o ≡ o
with_none o = go (collects o.role)
  where
    go : (c : Bool) → cond c (record o { text = o.text ++ [] }) o ≡ o
    go true = ap {A = List ℕ} {B = Open} (λ t. record o { text = t }) (append-nil o.text)
    go false = refl

with_both : (a b : List ℕ) (o : Open) → with_text b (with_text a o) ≡ with_text (a ++ b) o
with_both a b o = go (collects o.role) refl
  where
    go : (c : Bool) → collects o.role ≡ c → with_text b (with_text a o) ≡ with_text (a ++ b) o
    go true e = rw (e, e) (ap {A = List ℕ} {B = Open} (λ t. record o { text = t }) (append_assoc o.text a b))
    go false e = rw (e, e) refl

pub run_inside : (at : ℕ) (m : Reading) (run : List ℕ) (o : Open) → innermost m ≡ Some o → run_read at m run ≡ Ok (texted m run o)
run_inside at m [] o inner = ap {A = List Open} {B = Result Reading GraphError} (λ s. Ok (record m { stack = s })) (last_split m.stack o inner ∙ ap {A = Open} {B = List Open} (λ x. take (length m.stack - 1) m.stack ++ x ∷ []) (sym (with_none o)))
run_inside at m (b ∷ run) o inner =
    let front : List Open = take (length m.stack - 1) m.stack in
    let next : Open = with_text (b ∷ []) o in
    let others : run_read (at + 1) (texted m (b ∷ []) o) run ≡ Ok (texted (texted m (b ∷ []) o) run next) = run_inside (at + 1) (texted m (b ∷ []) o) run next (last_push front next) in
    rw (byte_inside at m b o inner) (others ∙ ap {A = List Open} {B = Result Reading GraphError} (λ s. Ok (record m { stack = s })) (ap₂ {A = List Open} {B = Open} {C = List Open} (λ xs x. xs ++ x ∷ []) (front_push front next) (with_both (b ∷ []) run o)))

pub run_added : (at : ℕ) (m : Machine) (new : List LentOpen) (run : List ℕ) → false ≡ (length m.stack.items == 0) → Adds m.stack.items new run → run_read at (reading_of m) run ≡ Ok (record (reading_of m) { stack = map open_of new })
run_added at m new run some adds =
    let (o, inner) = some_inside m some in
    run_inside at (reading_of m) run o inner ∙ ap {A = Reading} {B = Result Reading GraphError} (λ n. Ok n) (added_is m new run o inner adds)

pub passed_step : (at : ℕ) (m : Reading) → step at m Passed ≡ Ok m
unfolding step
passed_step at m = refl

-- ---- text outside the root

outside_read : (place : ℕ) (m : Reading) (run : List ℕ) (i : ℕ) → i < length run → run_read place m (drop i run) ≡ on_ok (step place m (Byte (get_or run i 0))) (λ n. run_read (place + 1) n (drop (i + 1) run))
outside_read place m run i below = rw (drop_more run i 0 below) refl

pub outside_more : (place : ℕ) (run : List ℕ) (i : ℕ) (m : Reading) (total : Result Reading GraphError) → i < length run → is_white (get_or run i 0) ≡ true → innermost m ≡ None → run_read place m (drop i run) ≡ total → run_read (place + 1) m (drop (i + 1) run) ≡ total
outside_more place run i m total below white none so_far =
    let one : run_read place m (drop i run) ≡ run_read (place + 1) m (drop (i + 1) run) = outside_read place m run i below ∙ rw (byte_outside place m (get_or run i 0) none white) refl in
    sym one ∙ so_far

pub outside_stop : (place : ℕ) (run : List ℕ) (i : ℕ) (m : Reading) (total : Result Reading GraphError) → i < length run → is_white (get_or run i 0) ≡ false → innermost m ≡ None → run_read place m (drop i run) ≡ total → total ≡ Err (Malformed place)
outside_stop place run i m total below other none so_far =
    let one : run_read place m (drop i run) ≡ Err (Malformed place) = outside_read place m run i below ∙ rw (byte_fault place m (get_or run i 0) none other) refl in
    sym so_far ∙ one

pub pop_split : (old rest : List LentOpen) (x : LentOpen) (front : List Open) (o : Open) → old ≡ rest ++ x ∷ [] → map open_of old ≡ front ++ o ∷ [] → (map open_of rest ≡ front) × (open_of x ≡ o)
pop_split old rest x front o is split = same_from_push (map open_of rest) front (open_of x) o (sym (map_push open_of rest x) ∙ ap (λ (xs : List LentOpen). map open_of xs) (sym is) ∙ split)

-- ---- text that doesn't count

-- the text adds nothing to an innermost element that doesn't collect it
pub adds_nothing : (stack : List LentOpen) (x : LentOpen) (text : List ℕ) → slice_get stack (length stack - 1) ≡ Some x → collects x.role ≡ false → Adds stack stack text
adds_nothing stack x text is other front o split =
    let kept : open_of x ≡ with_text text (open_of x) = rw other refl in
    let whole = last_split stack x is in
    texted_last stack (take (length stack - 1) stack) stack x x text front o whole whole kept split

-- ---- the first text of an element

set_last : {X : Type 0} (xs : List X) (x y : X) → slice_get xs (length xs - 1) ≡ Some x → set xs (length xs - 1) y ≡ take (length xs - 1) xs ++ y ∷ []
set_last [] x y e = absurd cc
set_last (z ∷ []) x y e = refl
set_last {X} (z ∷ w ∷ xs) x y e =
    let count : length (z ∷ w ∷ xs) - 1 ≡ suc (length (w ∷ xs) - 1) = omega arith in
    rw count (ap {A = List X} {B = List X} (λ ys. z ∷ ys) (set_last (w ∷ xs) x y (rw count at e)))

-- an innermost element without a text gets one
pub put_last : (stack : List LentOpen) (place : ℕ) (x y : LentOpen) (text : List ℕ) → place ≡ length stack - 1 → 0 < length stack → get_or stack place x ≡ x → open_of y ≡ with_text text (open_of x) → Adds stack (set stack place y) text
put_last stack place x y text last some is more front o split =
    let there : slice_get stack (length stack - 1) ≡ Some x = slice_get-get_or stack (length stack - 1) x (omega (arith, some)) ∙ ap {A = LentOpen} {B = _} (λ z. Some z) (rw last at is) in
    rw last (texted_last stack (take (length stack - 1) stack) (set stack (length stack - 1) y) x y text front o (last_split stack x there) (set_last stack x y there) more split)

pub first_text : (o : Open) (found text : List ℕ) → collects o.role ≡ true → found ≡ o.text → length found ≡ 0 → record { name = o.name; at = o.at; role = o.role; text = text } ≡ with_text text o
first_text o found text counts same none =
    let empty : o.text ≡ [] = sym same ∙ nil_from_length found none in
    rw (counts, empty) refl
