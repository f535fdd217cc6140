-- Laws on texts that are packed into one list of bytes.
use Rattle.std.proofs.Common.{◌≡◌, ◌∙◌, ℕ, zero, suc, ◌+◌, ◌-◌, ◌<◌, ◌≤◌, List, [], ◌∷◌, ◌++◌, length, get_or, take, drop, refl, sym, ap, arith}
use Rattle.std.proofs.lemmas.List.{take-append-le, drop-append-le, length-drop, take_all, get_or_default}
use Rattle.std.proofs.Math.Seq.{drop-append_seam}
use Rattle.lts_base.specs.Alphabet.{text_at}
use Rattle.lts_base.specs.Packed.{pieces, AreEnds}

-- there are as many pieces as ends
pub length-pieces : (bytes : List ℕ) (start : ℕ) (ends : List ℕ) → length (pieces bytes start ends) ≡ length ends
length-pieces bytes start [] = refl
length-pieces bytes start (end ∷ ends) = ap suc (length-pieces bytes end ends)

-- a place among the pieces is one among the ends
pub place_inside : (bytes ends : List ℕ) (texts : List (List ℕ)) (k : ℕ) → pieces bytes 0 ends ≡ texts → k < length texts → k < length ends
place_inside bytes ends texts k is below = rw (sym (length-pieces bytes 0 ends) ∙ ap length is) below

-- the start is within the size
pub start_inside : (start size : ℕ) (ends : List ℕ) → AreEnds start size ends → start ≤ size
start_inside start size [] are = omega (arith, are)
start_inside start size (end ∷ ends) are = omega (arith, are.0, start_inside end size ends are.1)

-- where a piece starts: at the start, or where the one before it ends
abbrev pub starts_at : ℕ → List ℕ → ℕ → ℕ
starts_at start ends k = get_or (start ∷ ends) k 0

-- a piece lies within the size
pub piece_inside : (start size : ℕ) (ends : List ℕ) (k : ℕ) → AreEnds start size ends → k < length ends → (starts_at start ends k ≤ get_or ends k 0) × (get_or ends k 0 ≤ size)
piece_inside start size [] k are below = absurd (omega (arith, below))
piece_inside start size (end ∷ ends) zero are below = (are.0, start_inside end size ends are.1)
piece_inside start size (end ∷ ends) (suc k) are below = piece_inside end size ends k are.1 (omega (arith, below))

-- a piece has the bytes from its start to its end
pub piece_at : (bytes : List ℕ) (start : ℕ) (ends : List ℕ) (k : ℕ) → k < length ends →
    text_at (pieces bytes start ends) k ≡ take (get_or ends k 0 - starts_at start ends k) (drop (starts_at start ends k) bytes)
piece_at bytes start [] k below = absurd (omega (arith, below))
piece_at bytes start (end ∷ ends) zero below = refl
piece_at bytes start (end ∷ ends) (suc k) below = piece_at bytes end ends k (omega (arith, below))

-- every piece but the first starts where the one before it ends
pub starts_later : (start : ℕ) (ends : List ℕ) (k : ℕ) → 0 < k → starts_at start ends k ≡ get_or ends (k - 1) 0
starts_later start ends zero some = absurd (omega (arith, some))
starts_later start ends (suc k) some = let e : k ≡ suc k - 1 = omega arith in ap (λ n. get_or ends n 0) e

-- one end more
pub AreEnds-push : (start size end : ℕ) (ends : List ℕ) → AreEnds start size ends → size ≤ end → AreEnds start end (ends ++ end ∷ [])
AreEnds-push start size end [] are more = (omega (arith, are, more), refl)
AreEnds-push start size end (e ∷ ends) are more = (are.0, AreEnds-push e size end ends are.1 more)

-- one text more
pub pieces-push : (bytes text : List ℕ) (start end : ℕ) (ends : List ℕ) → AreEnds start (length bytes) ends → end ≡ length bytes + length text →
    pieces (bytes ++ text) start (ends ++ end ∷ []) ≡ pieces bytes start ends ++ text ∷ []
pieces-push bytes text start end [] are is =
    let rest : drop start (bytes ++ text) ≡ text = rw are (drop-append_seam bytes text) in
    let long : length text ≤ end - start = omega (arith, are, is) in
    ap (λ t. t ∷ []) (ap (take (end - start)) rest ∙ take_all (end - start) text long)
pieces-push bytes text start end (e ∷ ends) are is =
    let inside : e ≤ length bytes = start_inside e (length bytes) ends are.1 in
    let low : start ≤ length bytes = omega (arith, are.0, inside) in
    let whole : e - start ≤ length (drop start bytes) = omega (arith, inside, length-drop start bytes) in
    let first : take (e - start) (drop start (bytes ++ text)) ≡ take (e - start) (drop start bytes) = ap (take (e - start)) (drop-append-le start bytes text low) ∙ take-append-le (e - start) (drop start bytes) text whole in
    ap (λ t. t ∷ pieces (bytes ++ text) e (ends ++ end ∷ [])) first ∙ ap (λ ts. take (e - start) (drop start bytes) ∷ ts) (pieces-push bytes text e end ends are.1 is)

-- the part of the bytes from a piece's start to its end is within them, and is the piece
pub part_at : (bytes ends : List ℕ) (k from to : ℕ) → AreEnds 0 (length bytes) ends → k < length ends → from ≡ starts_at 0 ends k → to ≡ get_or ends k to →
    (from ≤ to) × (to ≤ length bytes) × (take (to - from) (drop from bytes) ≡ text_at (pieces bytes 0 ends) k)
part_at bytes ends k from to are below starts is =
    let end : to ≡ get_or ends k 0 = is ∙ get_or_default ends k to 0 below in
    let (low, high) = piece_inside 0 (length bytes) ends k are below in
    (omega (arith, starts, end, low), omega (arith, end, high), rw (starts, end) (sym (piece_at bytes 0 ends k below)))

-- a piece that isn't the first
pub part_after : (bytes ends : List ℕ) (k from to : ℕ) → AreEnds 0 (length bytes) ends → k < length ends → (k ≡ 0 → ⊥) → from ≡ get_or ends (k - 1) from → to ≡ get_or ends k to →
    (from ≤ to) × (to ≤ length bytes) × (take (to - from) (drop from bytes) ≡ text_at (pieces bytes 0 ends) k)
part_after bytes ends k from to are below later starts is =
    let some : 0 < k = omega (arith, later) in
    let start : from ≡ starts_at 0 ends k = starts ∙ get_or_default ends (k - 1) from 0 (omega (arith, below)) ∙ sym (starts_later 0 ends k some) in
    part_at bytes ends k from to are below start is
