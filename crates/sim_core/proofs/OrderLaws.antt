-- Laws on the order of lists of states: by length, and then state by state.
use Rattle.std.proofs.Common.{◌≡◌, ℕ, ◌<◌, List, [], ◌∷◌, ◌++◌, length, inl, inr, refl, ◌∙◌, arith}
use Rattle.std.proofs.lemmas.List.{length_push}
use Rattle.sim_core.specs.Simulated.{IsLexAtMost, IsLessOrSame}
use Rattle.sim_core.specs.Search.{IsLexLess, IsLess}

lex_push : (xs ys : List ℕ) (a b : ℕ) → IsLexLess xs ys → IsLexLess (xs ++ a ∷ []) (ys ++ b ∷ [])
lex_push [] ys a b less = absurd less
lex_push (x ∷ xs) [] a b less = absurd less
lex_push (x ∷ xs) (y ∷ ys) a b (inl here) = inl here
lex_push (x ∷ xs) (y ∷ ys) a b (inr (same, less)) = inr (same, lex_push xs ys a b less)

lex_last : (xs : List ℕ) (a b : ℕ) → a < b → IsLexLess (xs ++ a ∷ []) (xs ++ b ∷ [])
lex_last [] a b less = inl less
lex_last (x ∷ xs) a b less = inr (refl, lex_last xs a b less)

lex_at_most : (xs ys : List ℕ) → IsLexLess xs ys → IsLexAtMost xs ys
lex_at_most [] ys less = tt
lex_at_most (x ∷ xs) [] less = absurd less
lex_at_most (x ∷ xs) (y ∷ ys) (inl here) = inl here
lex_at_most (x ∷ xs) (y ∷ ys) (inr (same, less)) = inr (same, lex_at_most xs ys less)

lex_same : (xs : List ℕ) → IsLexAtMost xs xs
lex_same [] = tt
lex_same (x ∷ xs) = inr (refl, lex_same xs)

lex_at_most_push : (xs ys : List ℕ) (b : ℕ) → length xs ≡ length ys → IsLexAtMost xs ys → IsLexAtMost (xs ++ b ∷ []) (ys ++ b ∷ [])
lex_at_most_push [] [] b long most = inr (refl, tt)
lex_at_most_push [] (y ∷ ys) b long most = absurd (omega (arith, long))
lex_at_most_push (x ∷ xs) [] b long most = absurd most
lex_at_most_push (x ∷ xs) (y ∷ ys) b long (inl here) = inl here
lex_at_most_push (x ∷ xs) (y ∷ ys) b long (inr (same, most)) = inr (same, lex_at_most_push xs ys b (omega (arith, long)) most)

lex_trans : (xs ys zs : List ℕ) → IsLexAtMost xs ys → IsLexAtMost ys zs → IsLexAtMost xs zs
lex_trans [] ys zs one two = tt
lex_trans (x ∷ xs) [] zs one two = absurd one
lex_trans (x ∷ xs) (y ∷ ys) [] one two = absurd two
lex_trans (x ∷ xs) (y ∷ ys) (z ∷ zs) (inl one) (inl two) = inl (omega (arith, one, two))
lex_trans (x ∷ xs) (y ∷ ys) (z ∷ zs) (inl one) (inr (two, rest)) = inl (omega (arith, one, two))
lex_trans (x ∷ xs) (y ∷ ys) (z ∷ zs) (inr (one, rest)) (inl two) = inl (omega (arith, one, two))
lex_trans (x ∷ xs) (y ∷ ys) (z ∷ zs) (inr (one, rest)) (inr (two, more)) = inr (one ∙ two, lex_trans xs ys zs rest more)

pub less_push : (xs ys : List ℕ) (a b : ℕ) → IsLess xs ys → IsLess (xs ++ a ∷ []) (ys ++ b ∷ [])
less_push xs ys a b (inl shorter) = inl (omega (arith, shorter, length_push xs a, length_push ys b))
less_push xs ys a b (inr (long, less)) = inr (omega (arith, long, length_push xs a, length_push ys b), lex_push xs ys a b less)

pub less_last : (xs : List ℕ) (a b : ℕ) → a < b → IsLess (xs ++ a ∷ []) (xs ++ b ∷ [])
less_last xs a b less = inr (omega (arith, length_push xs a, length_push xs b), lex_last xs a b less)

pub less_none : (ys : List ℕ) (b : ℕ) → IsLess [] (ys ++ b ∷ [])
less_none ys b = inl (omega (arith, length_push ys b))

pub at_most : (xs ys : List ℕ) → IsLess xs ys → IsLessOrSame xs ys
at_most xs ys (inl shorter) = inl shorter
at_most xs ys (inr (long, less)) = inr (long, lex_at_most xs ys less)

pub at_most_same : (xs : List ℕ) → IsLessOrSame xs xs
at_most_same xs = inr (refl, lex_same xs)

pub at_most_longer : (xs ys : List ℕ) (b : ℕ) → IsLessOrSame xs ys → IsLessOrSame xs (ys ++ b ∷ [])
at_most_longer xs ys b (inl shorter) = inl (omega (arith, shorter, length_push ys b))
at_most_longer xs ys b (inr (long, most)) = inl (omega (arith, long, length_push ys b))

pub at_most_push : (xs ys : List ℕ) (b : ℕ) → IsLessOrSame xs ys → IsLessOrSame (xs ++ b ∷ []) (ys ++ b ∷ [])
at_most_push xs ys b (inl shorter) = inl (omega (arith, shorter, length_push xs b, length_push ys b))
at_most_push xs ys b (inr (long, most)) = inr (omega (arith, long, length_push xs b, length_push ys b), lex_at_most_push xs ys b long most)

pub at_most_trans : (xs ys zs : List ℕ) → IsLessOrSame xs ys → IsLessOrSame ys zs → IsLessOrSame xs zs
at_most_trans xs ys zs (inl one) (inl two) = inl (omega (arith, one, two))
at_most_trans xs ys zs (inl one) (inr (long, two)) = inl (omega (arith, one, long))
at_most_trans xs ys zs (inr (long, one)) (inl two) = inl (omega (arith, long, two))
at_most_trans xs ys zs (inr (long, one)) (inr (as_long, two)) = inr (long ∙ as_long, lex_trans xs ys zs one two)
