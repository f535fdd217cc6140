-- Lines that are printed one after the other.
use Rattle.std.proofs.Common.{◌≡◌, ℕ, List, [], ◌∷◌, ◌++◌, map, codes, refl, ap}
use Rattle.std.proofs.lemmas.List.{append-nil, append_assoc}
use Rattle.std.proofs.lemmas.Grind.{flat_map-append}
use Rattle.cert_text.specs.Printed.{with_ends, after_line}
use Rattle.lts_base.specs.declared.item.Item.{Item}
use Rattle.trace_text.specs.Lines.{items_text}

-- the lines of a relation
pub relation_text : (old word end : List ℕ) (ls rs ps : List (List ℕ)) → ((((old ++ (word ++ 10 ∷ [])) ++ with_ends ls) ++ with_ends rs) ++ with_ends ps) ++ (end ++ 10 ∷ []) ≡ old ++ with_ends (word ∷ ((ls ++ (rs ++ ps)) ++ end ∷ []))
relation_text old word end ls rs ps = simp (flat_map-append, append_assoc, append-nil)

-- the lines of a trace
pub trace_text : (old word shows end : List ℕ) (items : List (List ℕ)) → (((old ++ (word ++ 10 ∷ [])) ++ with_ends items) ++ (shows ++ 10 ∷ [])) ++ (end ++ 10 ∷ []) ≡ old ++ with_ends (word ∷ (items ++ shows ∷ end ∷ []))
trace_text old word shows end items = simp (flat_map-append, append_assoc, append-nil)

-- the lines of a trace's items
pub items_lines : (texts : List (List ℕ)) (σ : List Item) → items_text (codes "after ") texts σ ≡ with_ends (map (after_line texts) σ)
items_lines texts [] = refl
items_lines texts (x ∷ σ) = ap {A = List ℕ} {B = List ℕ} (λ t. (after_line texts x ++ 10 ∷ []) ++ t) (items_lines texts σ)

-- what is printed of a relation, piece by piece
pub relation_put : (old a b c d new word end : List ℕ) (ls rs ps : List (List ℕ)) → a ≡ old ++ (word ++ 10 ∷ []) → b ≡ a ++ with_ends ls → c ≡ b ++ with_ends rs → d ≡ c ++ with_ends ps → new ≡ d ++ (end ++ 10 ∷ []) →
    new ≡ old ++ with_ends (word ∷ ((ls ++ (rs ++ ps)) ++ end ∷ []))
relation_put old a b c d new word end ls rs ps e1 e2 e3 e4 e5 = rw (e5, e4, e3, e2, e1) (relation_text old word end ls rs ps)

-- what is printed of a trace, piece by piece
pub trace_put : (old a b c new word shows end : List ℕ) (items : List (List ℕ)) → a ≡ old ++ (word ++ 10 ∷ []) → b ≡ a ++ with_ends items → c ≡ b ++ (shows ++ 10 ∷ []) → new ≡ c ++ (end ++ 10 ∷ []) →
    new ≡ old ++ with_ends (word ∷ (items ++ shows ∷ end ∷ []))
trace_put old a b c new word shows end items e1 e2 e3 e4 = rw (e4, e3, e2, e1) (trace_text old word shows end items)
