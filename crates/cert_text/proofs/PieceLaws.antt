-- Laws on words and on texts after spaces.
use Rattle.std.proofs.Common.{◌≡◌, ◌∙◌, ℕ, zero, suc, ◌^◌, ◌<◌, ◌==◌, true, List, [], ◌∷◌, ◌++◌, length, All, refl, sym, ap, subst, arith, decimal}
use Rattle.std.proofs.lemmas.List.{append-nil}
use Rattle.std.proofs.lemmas.Bool.Decides.{Decides-eqb}
use Rattle.text_scan.specs.Cut.{Lacks}
use Rattle.text_scan.proofs.CutLaws.{cut_once, holds_mark}
use Rattle.cert_text.specs.Printed.{spaced}
use Rattle.cert_text.specs.Numbers.{IsNumber, IsEdge, IsPiece}
use Rattle.cert_text.proofs.NumberLaws.{Lacks-digits, IsNumber-decimal}

-- the rest of a list of texts is empty or goes on with a space
pub spaced_edge : (texts : List (List ℕ)) → IsEdge (spaced texts)
spaced_edge [] = tt
spaced_edge (t ∷ texts) = refl

-- a number has no space
pub number_free : (n : List ℕ) → IsNumber n → Lacks 32 n
number_free n is = Lacks-digits 32 n (omega arith) is.digits

-- two pieces of one text are the same
edges_once : (p q r s : List ℕ) → Lacks 32 p → Lacks 32 q → IsEdge r → IsEdge s → p ++ r ≡ q ++ s → (p ≡ q) × (r ≡ s)
edges_once p q [] [] free_p free_q edge_r edge_s e = (sym (append-nil p) ∙ e ∙ append-nil q, refl)
edges_once p q [] (c ∷ s) free_p free_q edge_r edge_s e =
    let whole : p ≡ q ++ 32 ∷ s = sym (append-nil p) ∙ e ∙ ap {A = ℕ} {B = List ℕ} (λ b. q ++ b ∷ s) edge_s in
    absurd (holds_mark 32 q s (subst (Lacks 32) whole free_p))
edges_once p q (b ∷ r) [] free_p free_q edge_r edge_s e =
    let whole : q ≡ p ++ 32 ∷ r = sym (append-nil q) ∙ sym e ∙ ap {A = ℕ} {B = List ℕ} (λ b. p ++ b ∷ r) edge_r in
    absurd (holds_mark 32 p r (subst (Lacks 32) whole free_q))
edges_once p q (b ∷ r) (c ∷ s) free_p free_q edge_r edge_s e =
    let whole : p ++ 32 ∷ r ≡ q ++ 32 ∷ s = ap {A = ℕ} {B = List ℕ} (λ b. p ++ b ∷ r) (sym edge_r) ∙ e ∙ ap {A = ℕ} {B = List ℕ} (λ b. q ++ b ∷ s) edge_s in
    let (front, back) = cut_once 32 p r q s free_p free_q whole in
    (front, cc)

-- a text of a first text and others begins with the first one as its piece
pub piece_of : (text piece rest n : List ℕ) (ns : List (List ℕ)) → IsPiece text piece rest → Lacks 32 n → text ≡ spaced (n ∷ ns) → (piece ≡ n) × (rest ≡ spaced ns)
piece_of text piece rest n ns is free e =
    let whole : 32 ∷ (piece ++ rest) ≡ 32 ∷ (n ++ spaced ns) = sym is.whole ∙ e in
    edges_once piece n rest (spaced ns) is.free free is.edge (spaced_edge ns) cc

-- texts without spaces are told by what is made of them
pub spaced_once : (xs ys : List (List ℕ)) → All (Lacks 32) xs → All (Lacks 32) ys → spaced xs ≡ spaced ys → xs ≡ ys
spaced_once [] [] free_x free_y e = refl
spaced_once [] (y ∷ ys) free_x free_y e = cc
spaced_once (x ∷ xs) [] free_x free_y e = cc
spaced_once (x ∷ xs) (y ∷ ys) free_x free_y e =
    let (first, rest) = edges_once x y (spaced xs) (spaced ys) (free_x zero [] (omega arith)) (free_y zero [] (omega arith)) (spaced_edge xs) (spaced_edge ys) cc in
    let others : xs ≡ ys = spaced_once xs ys (λ k d below. free_x (suc k) d (omega (arith, below))) (λ k d below. free_y (suc k) d (omega (arith, below))) rest in
    cc

-- the one number after a space
pub one_piece : (text piece rest : List ℕ) (n : ℕ) → n < 2 ^ 64 → IsPiece text piece rest → text ≡ spaced (decimal n ∷ []) → (piece ≡ decimal n) × (rest ≡ [])
one_piece text piece rest n low is e = piece_of text piece rest (decimal n) [] is (number_free (decimal n) (IsNumber-decimal n low)) e

-- a space and one piece
pub one_spelled : (text piece rest number : List ℕ) → IsPiece text piece rest → rest ≡ [] → piece ≡ number → text ≡ spaced (number ∷ [])
one_spelled text piece rest number is none written = is.whole ∙ rw (none, written) refl

-- the two numbers after spaces
pub two_pieces : (text first others second rest : List ℕ) (m n : ℕ) → m < 2 ^ 64 → n < 2 ^ 64 → IsPiece text first others → IsPiece others second rest → text ≡ spaced (decimal m ∷ decimal n ∷ []) → (first ≡ decimal m) × (second ≡ decimal n) × (rest ≡ [])
two_pieces text first others second rest m n low_m low_n one two e =
    let (is_first, back) = piece_of text first others (decimal m) (decimal n ∷ []) one (number_free (decimal m) (IsNumber-decimal m low_m)) e in
    let (is_second, none) = one_piece others second rest n low_n two back in
    (is_first, is_second, none)

-- a text of two numbers has a second piece
pub no_second : (text first others : List ℕ) (m n : ℕ) → m < 2 ^ 64 → IsPiece text first others → ((t : List ℕ) → others ≡ 32 ∷ t → ⊥) → text ≡ spaced (decimal m ∷ decimal n ∷ []) → ⊥
no_second text first others m n low is none e =
    let (is_first, back) = piece_of text first others (decimal m) (decimal n ∷ []) is (number_free (decimal m) (IsNumber-decimal m low)) e in
    none (decimal n ++ spaced []) back

-- what has no length is empty
pub is_empty : (bytes : List ℕ) → true ≡ (length bytes == 0) → bytes ≡ []
is_empty [] none = refl
is_empty (b ∷ bytes) none = let e : length (b ∷ bytes) ≡ 0 = (Decides-eqb (length (b ∷ bytes)) 0).0 (sym none) in absurd (omega (arith, e))

-- texts that begin with two bytes aren't one
pub apart : (a b : ℕ) (xs ys : List ℕ) → (a ≡ b → ⊥) → a ∷ xs ≡ b ∷ ys → ⊥
apart a b xs ys other e = let same : a ≡ b = cc in other same
