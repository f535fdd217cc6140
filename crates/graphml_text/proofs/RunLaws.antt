-- Laws on a document that is read token by token.
use Rattle.std.proofs.Common.{◌≡◌, ◌∙◌, ℕ, ◌+◌, ◌-◌, ◌≤◌, List, [], ◌∷◌, ◌++◌, length, Some, None, Result, Ok, Err, refl, arith}
use Rattle.text_scan.proofs.CutLaws.{differs}
use Rattle.graphml_text.specs.declared.error.GraphError.{GraphError}
use Rattle.graphml_scan.specs.Many.{with_first}
use Rattle.graphml_scan.specs.Token.{Token, Byte, token_at, placed_at, tokens_of, IsRun}
use Rattle.graphml_text.specs.Reading.{Reading}
use Rattle.graphml_text.specs.Element.{step}
use Rattle.graphml_text.specs.Document.{Said, on_ok, read, stopped, finished, read_on, run_read}
use Rattle.graphml_scan.proofs.ManyLaws.{many-none, many-some}
use Rattle.graphml_scan.proofs.LengthLaws.{placed_shrinks}

tokens-some : (size : ℕ) (bytes : List ℕ) (t : Token) (after : List ℕ) → token_at bytes ≡ Some (t, after) → tokens_of size bytes ≡ with_first (record { at = size - length bytes; token = t }) (tokens_of size after)
tokens-some size bytes t after e =
    let one : placed_at size bytes ≡ Some (record { at = size - length bytes; token = t }, after) = rw e refl in
    many-some (placed_at size) bytes (record { at = size - length bytes; token = t }, after) (placed_shrinks size) one

tokens-none : (size : ℕ) (bytes : List ℕ) → token_at bytes ≡ None → tokens_of size bytes ≡ ([], bytes)
tokens-none size bytes e =
    let none : placed_at size bytes ≡ None = rw e refl in
    many-none (placed_at size) bytes none

-- a token, and what follows it
pub read_on-token : (size : ℕ) (m : Reading) (bytes : List ℕ) (t : Token) (after : List ℕ) → token_at bytes ≡ Some (t, after) → read_on size m bytes ≡ on_ok (step (size - length bytes) m t) (λ n. read_on size n after)
read_on-token size m bytes t after e = rw (tokens-some size bytes t after e) (go (step (size - length bytes) m t))
  where
    go : (r : Result Reading GraphError) → on_ok (on_ok r (λ n. read n (tokens_of size after).0)) (stopped size (tokens_of size after).1) ≡ on_ok r (λ n. read_on size n after)
    go (Ok n) = refl
    go (Err f) = refl

pub read_on-step : (size : ℕ) (m n : Reading) (bytes : List ℕ) (t : Token) (after : List ℕ) → token_at bytes ≡ Some (t, after) → step (size - length bytes) m t ≡ Ok n → read_on size m bytes ≡ read_on size n after
read_on-step size m n bytes t after e ok = read_on-token size m bytes t after e ∙ rw ok refl

pub read_on-fault : (size : ℕ) (m : Reading) (bytes : List ℕ) (t : Token) (after : List ℕ) (f : GraphError) → token_at bytes ≡ Some (t, after) → step (size - length bytes) m t ≡ Err f → read_on size m bytes ≡ Err f
read_on-fault size m bytes t after f e err = read_on-token size m bytes t after e ∙ rw err refl

-- what begins no token
pub read_on-none : (size : ℕ) (m : Reading) (bytes : List ℕ) → token_at bytes ≡ None → read_on size m bytes ≡ stopped size bytes m
read_on-none size m bytes e = rw (tokens-none size bytes e) refl

pub read_on-end : (size : ℕ) (m : Reading) → read_on size m [] ≡ finished size m
read_on-end size m = read_on-none size m [] refl

-- ---- text that stands for itself

byte_token : (b : ℕ) (bytes : List ℕ) → (b ≡ 60 → ⊥) × (b ≡ 38 → ⊥) → token_at (b ∷ bytes) ≡ Some (Byte b, bytes)
byte_token b bytes plain = rw (differs b 60 plain.0, differs b 38 plain.1) refl

on_ok_assoc : (r : Result Reading GraphError) (f : Reading → Result Reading GraphError) (g : Reading → Result Said GraphError) → on_ok r (λ n. on_ok (f n) g) ≡ on_ok (on_ok r f) g
on_ok_assoc (Ok n) f g = refl
on_ok_assoc (Err e) f g = refl

same_after : (r : Result Reading GraphError) (f g : Reading → Result Said GraphError) → ((n : Reading) → f n ≡ g n) → on_ok r f ≡ on_ok r g
same_after (Ok n) f g same = same n
same_after (Err e) f g same = refl

pub read_on-run : (size : ℕ) (m : Reading) (run after : List ℕ) → length (run ++ after) ≤ size → IsRun run → read_on size m (run ++ after) ≡ on_ok (run_read (size - length (run ++ after)) m run) (λ n. read_on size n after)
read_on-run size m [] after fits plain = refl
read_on-run size m (b ∷ run) after fits plain =
    let at : ℕ = size - length (b ∷ (run ++ after)) in
    let next : size - length (run ++ after) ≡ at + 1 = omega (arith, fits) in
    let rest : (n : Reading) → read_on size n (run ++ after) ≡ on_ok (run_read (at + 1) n run) (λ k. read_on size k after) = λ n. rw (← next) (read_on-run size n run after (omega (arith, fits)) plain.1) in
    read_on-token size m (b ∷ (run ++ after)) (Byte b) (run ++ after) (byte_token b (run ++ after) plain.0)
    ∙ same_after (step at m (Byte b)) _ _ rest
    ∙ on_ok_assoc (step at m (Byte b)) (λ n. run_read (at + 1) n run) (λ k. read_on size k after)
