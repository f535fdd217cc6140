-- Laws of the order of traces; n is the number of labels.
use Rattle.std.proofs.Common.{ℕ, ◌+◌, ◌<◌, List, [], ◌∷◌, ◌++◌, refl, ap, ◌∙◌, inl, inr, arith}
use Rattle.std.proofs.lemmas.List.{length_push}
use Rattle.lts_base.specs.declared.item.Item.{Item}
use Rattle.lts_base.specs.Order.{place, IsLexBelow, IsBefore, IsAtMost}

lex_push : (n : ℕ) (σ τ : List Item) (x y : Item) → IsLexBelow n σ τ → IsLexBelow n (σ ++ x ∷ []) (τ ++ y ∷ [])
lex_push n [] τ x y h = absurd h
lex_push n (a ∷ σ) [] x y h = absurd h
lex_push n (a ∷ σ) (b ∷ τ) x y (inl h) = inl h
lex_push n (a ∷ σ) (b ∷ τ) x y (inr (e, h)) = inr (e, lex_push n σ τ x y h)

lex_last : (n : ℕ) (σ : List Item) (x y : Item) → place n x < place n y → IsLexBelow n (σ ++ x ∷ []) (σ ++ y ∷ [])
lex_last n [] x y h = inl h
lex_last n (a ∷ σ) x y h = inr (refl, lex_last n σ x y h)

lex_trans : (n : ℕ) (σ τ ρ : List Item) → IsLexBelow n σ τ → IsLexBelow n τ ρ → IsLexBelow n σ ρ
lex_trans n [] τ ρ f g = absurd f
lex_trans n (a ∷ σ) [] ρ f g = absurd f
lex_trans n (a ∷ σ) (b ∷ τ) [] f g = absurd g
lex_trans n (a ∷ σ) (b ∷ τ) (c ∷ ρ) (inl f) (inl g) = inl (omega (arith, f, g))
lex_trans n (a ∷ σ) (b ∷ τ) (c ∷ ρ) (inl f) (inr (e, g)) = inl (rw (← e) f)
lex_trans n (a ∷ σ) (b ∷ τ) (c ∷ ρ) (inr (e, f)) (inl g) = inl (rw e g)
lex_trans n (a ∷ σ) (b ∷ τ) (c ∷ ρ) (inr (e, f)) (inr (d, g)) = inr (e ∙ d, lex_trans n σ τ ρ f g)

lex_irreflexive : (n : ℕ) (σ : List Item) → IsLexBelow n σ σ → ⊥
lex_irreflexive n [] h = h
lex_irreflexive n (a ∷ σ) (inl h) = omega (arith, h)
lex_irreflexive n (a ∷ σ) (inr (e, h)) = lex_irreflexive n σ h

pub IsBefore-push : (n : ℕ) (σ τ : List Item) (x y : Item) → IsBefore n σ τ → IsBefore n (σ ++ x ∷ []) (τ ++ y ∷ [])
IsBefore-push n σ τ x y (inl h) = inl (rw (length_push σ x, length_push τ y) (omega (arith, h)))
IsBefore-push n σ τ x y (inr (e, h)) = inr (rw (length_push σ x, length_push τ y) (ap (λ k. k + 1) e), lex_push n σ τ x y h)

pub IsBefore-last : (n : ℕ) (σ : List Item) (x y : Item) → place n x < place n y → IsBefore n (σ ++ x ∷ []) (σ ++ y ∷ [])
IsBefore-last n σ x y h = inr (rw (length_push σ x, length_push σ y) refl, lex_last n σ x y h)

pub IsBefore-longer : (n : ℕ) (σ : List Item) (x : Item) → IsBefore n σ (σ ++ x ∷ [])
IsBefore-longer n σ x = inl (rw (length_push σ x) (omega arith))

pub IsBefore-trans : (n : ℕ) (σ τ ρ : List Item) → IsBefore n σ τ → IsBefore n τ ρ → IsBefore n σ ρ
IsBefore-trans n σ τ ρ (inl f) (inl g) = inl (omega (arith, f, g))
IsBefore-trans n σ τ ρ (inl f) (inr (e, g)) = inl (omega (arith, f, e))
IsBefore-trans n σ τ ρ (inr (e, f)) (inl g) = inl (omega (arith, g, e))
IsBefore-trans n σ τ ρ (inr (e, f)) (inr (d, g)) = inr (e ∙ d, lex_trans n σ τ ρ f g)

pub IsBefore-irreflexive : (n : ℕ) (σ : List Item) → IsBefore n σ σ → ⊥
IsBefore-irreflexive n σ (inl h) = omega (arith, h)
IsBefore-irreflexive n σ (inr (e, h)) = lex_irreflexive n σ h

-- before, and then at most
pub IsBefore-at_most : (n : ℕ) (σ τ ρ : List Item) → IsBefore n σ τ → IsAtMost n τ ρ → IsBefore n σ ρ
IsBefore-at_most n σ τ ρ f (inl e) = rw (← e) f
IsBefore-at_most n σ τ ρ f (inr g) = IsBefore-trans n σ τ ρ f g

-- at most, and then before
pub IsAtMost-before : (n : ℕ) (σ τ ρ : List Item) → IsAtMost n σ τ → IsBefore n τ ρ → IsBefore n σ ρ
IsAtMost-before n σ τ ρ (inl e) g = rw e g
IsAtMost-before n σ τ ρ (inr f) g = IsBefore-trans n σ τ ρ f g

pub IsAtMost-trans : (n : ℕ) (σ τ ρ : List Item) → IsAtMost n σ τ → IsAtMost n τ ρ → IsAtMost n σ ρ
IsAtMost-trans n σ τ ρ (inl e) g = rw e g
IsAtMost-trans n σ τ ρ (inr f) g = inr (IsBefore-at_most n σ τ ρ f g)

pub IsAtMost-push : (n : ℕ) (σ τ : List Item) (x : Item) → IsAtMost n σ τ → IsAtMost n (σ ++ x ∷ []) (τ ++ x ∷ [])
IsAtMost-push n σ τ x (inl e) = inl (ap (λ ρ. ρ ++ x ∷ []) e)
IsAtMost-push n σ τ x (inr f) = inr (IsBefore-push n σ τ x x f)
