-- What four words ask for is what the words ask for.
use Rattle.std.proofs.Common.{arith, ◌≡◌, ℕ, ◌<◌, ◌≤◌, List, [], ◌∷◌, length, map, Option, MatchOption, get_or, refl}
use Rattle.sim_serve.specs.declared.words.Request.{Request}
use Rattle.sim_serve.specs.Asked.{Asked, AsksFor, IsNoRequest, IsRequest, request_from}

-- a list of four, item by item
pub four_items : {X : Type 0} (f : X → List ℕ) (xs : List X) (a b c d : X) → 4 ≤ length xs → length xs < 5 → a ≡ get_or xs 0 a → b ≡ get_or xs 1 b → c ≡ get_or xs 2 c → d ≡ get_or xs 3 d →
    map f xs ≡ f a ∷ f b ∷ f c ∷ f d ∷ []
four_items f [] a b c d least most one two three four = absurd (omega (arith, least))
four_items f (x ∷ []) a b c d least most one two three four = absurd (omega (arith, least))
four_items f (x ∷ y ∷ []) a b c d least most one two three four = absurd (omega (arith, least))
four_items f (x ∷ y ∷ z ∷ []) a b c d least most one two three four = absurd (omega (arith, least))
four_items f (x ∷ y ∷ z ∷ w ∷ []) a b c d least most one two three four = rw (one, two, three, four) refl
four_items f (x ∷ y ∷ z ∷ w ∷ v ∷ xs) a b c d least most one two three four = absurd (omega (arith, most))

-- what is read of four words is what the words ask for
pub asks_four : (words : List (List ℕ)) (a b c d : List ℕ) (result : Option Request) → words ≡ a ∷ b ∷ c ∷ d ∷ [] →
    MatchOption result ((asked : Asked) → ¬ IsRequest a b c d asked) (λ q. IsRequest a b c d (request_from q)) → MatchOption result (IsNoRequest words) (λ q. AsksFor words (request_from q))
asks_four words a b c d result is read = rw is read
