-- A link reads as far as it has to, and one thing is met.
use Rattle.std.proofs.Common.{arith, ◌≡◌, ◌∙◌, ℕ, suc, ◌<◌, Bool, true, false, List, [], ◌∷◌, ◌++◌, length, take, Contains, get_or, ap, refl, sym}
use Rattle.std.proofs.lemmas.List.{get_or-take, length-take}
use Rattle.std.proofs.Math.Seq.{get_or-append_seam}
use Rattle.std.proofs.lemmas.List.Elements.{Contains-append_right}
use Rattle.edge_io.specs.declared.act.Heard.{Heard}
use Rattle.edge_io.specs.declared.act.Heard.TheVariants.{Line, Idle, IdleMid, TooLong, End}
use Rattle.edge_io.specs.declared.content.Given.{Given}
use Rattle.edge_io.specs.declared.content.Given.TheVariants.{Bytes as GivenBytes, Idle as GivenIdle, End as GivenEnd}
use Rattle.line_link.specs.Hearing.{Has, Hears, IsFirstLine, IsTooLong, IsUnfinished, Meeting, Meets, Waits, without_cr}

-- bytes with a line end contain it
has_lf : (line rest : List ℕ) → Contains (line ++ 10 ∷ rest) 10
has_lf line rest = Contains-append_right line (10 ∷ rest) 10 (0, omega arith, refl)

contains_later : (z : ℕ) (zs : List ℕ) → Contains zs 10 → Contains (z ∷ zs) 10
contains_later z zs (k, below, is) = (suc k, omega (arith, below), is)

-- bytes have one first line
line_once : (a b x y : List ℕ) → (Contains a 10 → ⊥) → (Contains x 10 → ⊥) → a ++ 10 ∷ b ≡ x ++ 10 ∷ y → (a ≡ x) × (b ≡ y)
line_once [] b [] y none_a none_x e = (refl, cc)
line_once [] b (z ∷ x) y none_a none_x e = let same : z ≡ 10 = cc in absurd (none_x (0, omega arith, same))
line_once (z ∷ a) b [] y none_a none_x e = let same : z ≡ 10 = cc in absurd (none_a (0, omega arith, same))
line_once (z ∷ a) b (w ∷ x) y none_a none_x e =
    let first : z ≡ w = cc in
    let rest : a ++ 10 ∷ b ≡ x ++ 10 ∷ y = cc in
    let (same, back) = line_once a b x y (λ h. none_a (contains_later z a h)) (λ h. none_x (contains_later w x h)) rest in
    (cc, back)

first_once : (bytes t u r s : List ℕ) → IsFirstLine bytes t r → IsFirstLine bytes u s → (t ≡ u) × (r ≡ s)
first_once bytes t u r s (a, begin_a, text_a) (x, begin_x, text_x) =
    let (same, back) = line_once a r x s begin_a.within.0 begin_x.within.0 (sym begin_a.whole ∙ begin_x.whole) in
    (text_a ∙ ap without_cr same ∙ sym text_x, back)

-- a line isn't too long
line_or_long : (bytes t u r : List ℕ) → IsFirstLine bytes t r → IsTooLong bytes u → ⊥
line_or_long bytes t u r (line, begins, text) (within, long, front) =
    let short : length line < 1025 = omega (arith, begins.within.1) in
    let size : length (take 1025 bytes) ≡ 1025 = sym (ap length front) ∙ long in
    let here : get_or (take 1025 bytes) (length line) 10 ≡ 10 = get_or-take 1025 bytes (length line) 10 short ∙ ap (λ (z : List ℕ). get_or z (length line) 10) begins.whole ∙ get_or-append_seam line 10 r 10 in
    let has : Contains (take 1025 bytes) 10 = (length line, omega (arith, size, short), here) in
    within.0 (rw (← front) at has)

-- a line isn't unfinished
line_or_part : (bytes t r : List ℕ) → IsFirstLine bytes t r → IsUnfinished bytes → ⊥
line_or_part bytes t r (line, begins, text) part = let has : Contains bytes 10 = rw begins.whole (has_lf line r) in part.0 has

-- too long a line isn't unfinished
long_or_part : (bytes u : List ℕ) → IsTooLong bytes u → IsUnfinished bytes → ⊥
long_or_part bytes u (within, long, front) part =
    let size : length (take 1025 bytes) ≡ 1025 = sym (ap length front) ∙ long in
    let least = length-take 1025 bytes in
    absurd (omega (arith, size, least, part.1))

-- what the bytes at hand give is one thing
has_once : (heard other : Heard) (bytes t u r s : List ℕ) (is_over : Bool) → Has bytes is_over heard t r → Has bytes is_over other u s → (heard ≡ other) × (t ≡ u) × (r ≡ s)
has_once Line Line bytes t u r s is_over h k = let (same, back) = first_once bytes t u r s h k in (refl, same, back)
has_once Line TooLong bytes t u r s is_over h k = absurd (line_or_long bytes t u r h k.0)
has_once Line End bytes t u r s is_over h k = absurd (line_or_part bytes t r h k.1.0)
has_once TooLong Line bytes t u r s is_over h k = absurd (line_or_long bytes u t s k h.0)
has_once TooLong TooLong bytes t u r s is_over h k = (refl, h.0.2 ∙ sym k.0.2, h.1 ∙ sym k.1)
has_once TooLong End bytes t u r s is_over h k = absurd (long_or_part bytes t h.0 k.1.0)
has_once End Line bytes t u r s is_over h k = absurd (line_or_part bytes u s k h.1.0)
has_once End TooLong bytes t u r s is_over h k = absurd (long_or_part bytes u k.0 h.1.0)
has_once End End bytes t u r s is_over h k = (refl, h.1.1 ∙ sym k.1.1, h.2 ∙ sym k.2)
has_once Idle other bytes t u r s is_over h k = absurd h
has_once IdleMid other bytes t u r s is_over h k = absurd h
has_once heard Idle bytes t u r s is_over h k = absurd k
has_once heard IdleMid bytes t u r s is_over h k = absurd k

-- what the bytes at hand give comes without a read
no_read : (heard : Heard) (bytes t r : List ℕ) (is_over : Bool) → Has bytes is_over heard t r → IsUnfinished bytes → is_over ≡ false → ⊥
no_read Line bytes t r is_over h part going = line_or_part bytes t r h part
no_read TooLong bytes t r is_over h part going = long_or_part bytes t h.0 part
no_read End bytes t r is_over h part going = let over : true ≡ false = sym h.0 ∙ going in cc
no_read Idle bytes t r is_over h part going = h
no_read IdleMid bytes t r is_over h part going = h

-- what an idle read meets is one thing
waits_once : (heard other : Heard) (bytes t u : List ℕ) → Waits bytes heard t → Waits bytes other u → (heard ≡ other) × (t ≡ u)
waits_once Idle Idle bytes t u h k = (refl, h.1 ∙ sym k.1)
waits_once Idle IdleMid bytes t u h k = absurd (k.0 h.0)
waits_once IdleMid Idle bytes t u h k = absurd (h.0 k.0)
waits_once IdleMid IdleMid bytes t u h k = (refl, h.1 ∙ sym k.1)
waits_once Line other bytes t u h k = absurd h
waits_once TooLong other bytes t u h k = absurd h
waits_once End other bytes t u h k = absurd h
waits_once heard Line bytes t u h k = absurd k
waits_once heard TooLong bytes t u h k = absurd k
waits_once heard End bytes t u h k = absurd k

-- of these answers and more no more are read, and the same is met
pub hears_once : (bytes : List ℕ) (is_over : Bool) (answers more : List Given) (heard other : Heard) (t u r s : List ℕ) (ended finished : Bool) → Hears bytes is_over answers heard t r ended → Hears bytes is_over (answers ++ more) other u s finished → (more ≡ []) × (heard ≡ other) × (t ≡ u) × (r ≡ s) × (ended ≡ finished)
hears_once bytes is_over [] [] heard other t u r s ended finished h k =
    let one = has_once heard other bytes t u r s is_over h.0 k.0 in
    (refl, one.0, one.1, one.2, h.1 ∙ sym k.1)
hears_once bytes is_over [] (GivenBytes piece ∷ more) heard other t u r s ended finished h k = absurd (no_read heard bytes t r is_over h.0 k.0 k.1)
hears_once bytes is_over [] (GivenIdle ∷ more) heard other t u r s ended finished h k = absurd (no_read heard bytes t r is_over h.0 k.0 k.1)
hears_once bytes is_over [] (GivenEnd ∷ more) heard other t u r s ended finished h k = absurd (no_read heard bytes t r is_over h.0 k.0 k.1)
hears_once bytes is_over (GivenBytes piece ∷ answers) more heard other t u r s ended finished h k = hears_once (bytes ++ piece) false answers more heard other t u r s ended finished h.2 k.2
hears_once bytes is_over (GivenIdle ∷ answers) more heard other t u r s ended finished h k =
    let one = waits_once heard other bytes t u h.3 k.3 in
    let none : more ≡ [] = rw (h.2) at k.2 in
    (none, one.0, one.1, h.4 ∙ sym k.4, h.5 ∙ sym k.5)
hears_once bytes is_over (GivenEnd ∷ answers) more heard other t u r s ended finished h k =
    let none : more ≡ [] = rw (h.2) at k.2 in
    (none, h.3 ∙ sym k.3, h.4 ∙ sym k.4, h.5 ∙ sym k.5, h.6 ∙ sym k.6)

-- meetings whose parts are the same are the same
pub met_once : (bytes : List ℕ) (is_over : Bool) (answers more : List Given) (first second : Meeting) → Meets bytes is_over answers first → Meets bytes is_over (answers ++ more) second → (more ≡ []) × (first ≡ second)
met_once bytes is_over answers more first second h k =
    let one = hears_once bytes is_over answers more first.heard second.heard first.text second.text first.rest second.rest first.ended second.ended h k in
    (one.0, alike first second one.1 one.2 one.3 one.4)
  where
    alike : (a b : Meeting) → a.heard ≡ b.heard → a.text ≡ b.text → a.rest ≡ b.rest → a.ended ≡ b.ended → a ≡ b
    alike a b e f g i = rw (e, f, g, i) refl
