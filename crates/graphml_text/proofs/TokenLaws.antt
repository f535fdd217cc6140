-- What is read at the front of the bytes, and what follows from it.
use Rattle.std.proofs.Common.{◌≡◌, ◌∙◌, ℕ, zero, suc, ◌-◌, ◌<◌, ◌≤◌, true, false, ◌==◌, ◌||◌, List, [], ◌∷◌, ◌++◌, length, take, drop, get_or, Option, Some, None, Result, Ok, Err, refl, sym, arith}
use Rattle.std.specs.Prelude.{option_map}
use Rattle.std.proofs.lemmas.List.{length-append, take_rest}
use Rattle.std.proofs.lemmas.Bool.{eq-eqb, eqb-true, false≢true}
use Rattle.text_scan.proofs.CutLaws.{differs}
use Rattle.graphml_text.specs.declared.error.GraphError.{GraphError}
use Rattle.graphml_text.specs.declared.error.GraphError.TheVariants.{Memory}
use Rattle.graphml_scan.specs.Many.{Cut}
use Rattle.graphml_scan.specs.Reference.{reference_at}
use Rattle.graphml_scan.specs.Tag.{Tag, start_tag_at, end_tag_at}
use Rattle.graphml_scan.specs.Token.{Token, Text, Start, End, markup_at, token_at, placed_at, IsRun}
use Rattle.graphml_text.specs.Reading.{Reading}
use Rattle.graphml_text.specs.Element.{step}
use Rattle.graphml_text.specs.Document.{stopped, finished, read_on, run_read}
use Rattle.graphml_text.specs.MachineValues.{Refuses}
use Rattle.graphml_text.specs.Going.{GoesOn, IsStart}
use Rattle.graphml_text.proofs.KeptLaws.{kept_step, kept_run}
use Rattle.graphml_scan.proofs.LengthLaws.{placed_shrinks}
use Rattle.graphml_text.proofs.RunLaws.{read_on-step, read_on-fault, read_on-none, read_on-end, read_on-run}

-- what refuses the one refuses the other
pub refuses_too : {A B : Type 0} (e : GraphError) (r : Result A GraphError) (s : Result B GraphError) → (r ≡ Err e → s ≡ Err e) → Refuses e r → Refuses e s
refuses_too Memory r s f h = tt
refuses_too e r s f h = f h

pub refuses_same : {A : Type 0} (e : GraphError) (r s : Result A GraphError) → r ≡ s → Refuses e s → Refuses e r
refuses_same e r s same h = rw same h

token_shorter : (size : ℕ) (bytes : List ℕ) (t : Token) (after : List ℕ) → token_at bytes ≡ Some (t, after) → length after < length bytes
token_shorter size bytes t after e =
    let one : placed_at size bytes ≡ Some (record { at = size - length bytes; token = t }, after) = rw e refl in
    placed_shrinks size bytes (record { at = size - length bytes; token = t }, after) one

pub goes_on : (size : ℕ) (m n : Reading) (bytes : List ℕ) (t : Token) (after : List ℕ) → token_at bytes ≡ Some (t, after) → step (size - length bytes) m t ≡ Ok n → GoesOn size m bytes n after
goes_on size m n bytes t after e ok = (read_on-step size m n bytes t after e ok, token_shorter size bytes t after e, kept_step (size - length bytes) m n t ok)

pub stops : (size : ℕ) (m : Reading) (bytes : List ℕ) (t : Token) (after : List ℕ) (e : GraphError) → token_at bytes ≡ Some (t, after) → Refuses e (step (size - length bytes) m t) → Refuses e (read_on size m bytes)
stops size m bytes t after e is h = refuses_too e (step (size - length bytes) m t) (read_on size m bytes) (λ err. read_on-fault size m bytes t after e is err) h

pub begins_none : (size : ℕ) (m : Reading) (bytes : List ℕ) (e : GraphError) → token_at bytes ≡ None → stopped size bytes m ≡ Err e → Refuses e (read_on size m bytes)
begins_none size m bytes Memory none why = tt
begins_none size m bytes e none why = read_on-none size m bytes none ∙ why

-- ---- what the front is

pub markup_front : (bytes : List ℕ) (o : Option (Cut Token)) → 0 < length bytes → get_or bytes 0 0 ≡ 60 → o ≡ markup_at (take (length bytes - 1) (drop 1 bytes)) → token_at bytes ≡ o
markup_front [] o some front is = absurd (omega (arith, some))
markup_front (b ∷ bytes) o some front is =
    let rest : take (length (b ∷ bytes) - 1) (drop 1 (b ∷ bytes)) ≡ drop 1 (b ∷ bytes) = take_rest (b ∷ bytes) 1 in
    rw (eq-eqb b 60 front) (sym (rw rest at is))

pub end_front : (bytes : List ℕ) (o : Option (Cut (List ℕ))) → 1 < length bytes → get_or bytes 0 0 ≡ 60 → get_or bytes 1 0 ≡ 47 → o ≡ end_tag_at (take (length bytes - 2) (drop 2 bytes)) → token_at bytes ≡ option_map (λ cut. (End cut.0, cut.1)) o
unfolding markup_at
end_front [] o some front slash is = absurd (omega (arith, some))
end_front (b ∷ []) o some front slash is = absurd (omega (arith, some))
end_front (b ∷ d ∷ bytes) o some front slash is =
    let rest : take (length (b ∷ d ∷ bytes) - 2) (drop 2 (b ∷ d ∷ bytes)) ≡ drop 2 (b ∷ d ∷ bytes) = take_rest (b ∷ d ∷ bytes) 2 in
    rw (eq-eqb b 60 front, eq-eqb d 47 slash, rw rest at is) refl

pub start_front : (bytes : List ℕ) (o : Option (Cut Tag)) → 1 < length bytes → get_or bytes 0 0 ≡ 60 → IsStart (get_or bytes 1 0) → o ≡ start_tag_at (take (length bytes - 1) (drop 1 bytes)) → token_at bytes ≡ option_map (λ cut. (Start cut.0, cut.1)) o
unfolding markup_at
start_front [] o some front start is = absurd (omega (arith, some))
start_front (b ∷ []) o some front start is = absurd (omega (arith, some))
start_front (b ∷ d ∷ bytes) o some front start is =
    let rest : take (length (b ∷ d ∷ bytes) - 1) (drop 1 (b ∷ d ∷ bytes)) ≡ drop 1 (b ∷ d ∷ bytes) = take_rest (b ∷ d ∷ bytes) 1 in
    rw (eq-eqb b 60 front, differs d 47 start.0, differs d 63 start.2, differs d 33 start.1, rw rest at is) refl

pub reference_front : (bytes : List ℕ) (o : Option (Cut (List ℕ))) → 0 < length bytes → get_or bytes 0 0 ≡ 38 → o ≡ reference_at (take (length bytes - 1) (drop 1 bytes)) → token_at bytes ≡ option_map (λ cut. (Text cut.0, cut.1)) o
reference_front [] o some front is = absurd (omega (arith, some))
reference_front (b ∷ bytes) o some front is =
    let rest : take (length (b ∷ bytes) - 1) (drop 1 (b ∷ bytes)) ≡ drop 1 (b ∷ bytes) = take_rest (b ∷ bytes) 1 in
    let other : (b == 60) ≡ false = differs b 60 (λ e. omega (arith, front, e)) in
    rw (other, eq-eqb b 38 front, rw rest at is) refl

-- ---- text that stands for itself

pub run_goes : (size : ℕ) (m n : Reading) (bytes run after : List ℕ) → length bytes ≤ size → bytes ≡ run ++ after → IsRun run → 0 < length run → run_read (size - length bytes) m run ≡ Ok n → GoesOn size m bytes n after
run_goes size m n bytes run after fits whole plain some ok =
    let count : length (run ++ after) ≤ size = rw whole at fits in
    let ran : run_read (size - length (run ++ after)) m run ≡ Ok n = rw whole at ok in
    rw whole (read_on-run size m run after count plain ∙ rw ran refl, omega (arith, length-append run after, some), kept_run (size - length (run ++ after)) m n run ran)

pub run_stops : (size : ℕ) (m : Reading) (bytes run after : List ℕ) (e : GraphError) → length bytes ≤ size → bytes ≡ run ++ after → IsRun run → Refuses e (run_read (size - length bytes) m run) → Refuses e (read_on size m bytes)
run_stops size m bytes run after e fits whole plain h =
    refuses_too e (run_read (size - length bytes) m run) (read_on size m bytes) (λ err.
    let count : length (run ++ after) ≤ size = rw whole at fits in
    let ran : run_read (size - length (run ++ after)) m run ≡ Err e = rw whole at err in
    rw whole (read_on-run size m run after count plain ∙ rw ran refl)) h

pub ended_all : (size : ℕ) (m : Reading) (bytes : List ℕ) → true ≡ (length bytes == 0) → read_on size m bytes ≡ finished size m
ended_all size m [] e = read_on-end size m
ended_all size m (b ∷ bytes) e = absurd (omega (arith, eqb-true (length (b ∷ bytes)) 0 (sym e)))

-- the first place of a byte that ends a run isn't that of one that doesn't
pub place_some : (bytes : List ℕ) (place : ℕ) → ((get_or bytes place 0 == 60) || (get_or bytes place 0 == 38)) ≡ true → (get_or bytes 0 0 ≡ 60 → ⊥) → (get_or bytes 0 0 ≡ 38 → ⊥) → 0 < place
place_some bytes zero at no_markup no_reference = absurd (false≢true (sym (rw (differs (get_or bytes 0 0) 60 no_markup, differs (get_or bytes 0 0) 38 no_reference) refl) ∙ at))
place_some bytes (suc place) at no_markup no_reference = omega arith
