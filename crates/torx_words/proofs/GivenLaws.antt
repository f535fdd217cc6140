-- What an accepted reading has.
use Rattle.std.proofs.Common.{◌≡◌, ◌∙◌, ◌≤◌, ℕ, Bool, cond, true, false, refl, sym, ap, subst, List, map, length, Some, None}
use Rattle.std.specs.Borrow.{Bor}
use Rattle.std.proofs.lemmas.Bool.{leb-true}
use Rattle.std.proofs.lemmas.List.{length-map}
use Rattle.clap.proofs.WalkLemmas.{both}
use Rattle.torx_words.specs.Accepted.{Shape, fits, has_clash, has_values, pairs_of, refusal_of}
use Rattle.torx_words.specs.Form.{Reading}
use Rattle.torx_words.specs.Named.{GivenWords}
use Rattle.torx_words.specs.declared.kind.UsageKind.TheVariants.{Words, Value, Clash}

-- what isn't refused is in the form
fits_where : (shape : Shape) (r : Reading) → refusal_of shape r ≡ None → fits shape r ≡ true
fits_where shape r e = go (fits shape r) (has_values shape r) (has_clash (pairs_of shape) r) e
  where
    go : (a b c : Bool) → cond a (cond b (cond c (Some Clash) None) (Some Value)) (Some Words) ≡ None → a ≡ true
    go true b c e = refl
    go false b c e = cc

-- what isn't refused has as many files as the form
pub counts_given : (shape : Shape) (r : Reading) (g : GivenWords) (files : List (Bor (List ℕ))) → refusal_of shape r ≡ None → record { shape = shape; reading = r } ≡ g
    → map (λ (w : Bor (List ℕ)). w.now) files ≡ r.files → (g.shape.least ≤ length files) × (length files ≤ g.shape.most)
counts_given shape r g files good e same =
    let fit = both _ _ (fits_where shape r good) in
    let counts = both _ _ fit.1 in
    let long : length r.files ≡ length files = ap length (sym same) ∙ length-map files (λ (w : Bor (List ℕ)). w.now) in
    let low : shape.least ≤ length files = rw (← long) (leb-true shape.least (length r.files) counts.0) in
    let high : length files ≤ shape.most = rw (← long) (leb-true (length r.files) shape.most counts.1) in
    subst (λ (x : GivenWords). (x.shape.least ≤ length files) × (length files ≤ x.shape.most)) e (low, high)
