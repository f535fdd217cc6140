-- What words ask for, from what their reading says: for the commands of the crates above.
use Rattle.std.proofs.Common.{◌≡◌, ◌∙◌, ℕ, List, sym, ap}
use Rattle.std.specs.Prelude.{Result, Ok, Err, IsErrAnd}
use Rattle.torx_words.specs.Accepted.{IsAsked, IsRefusal, Shape, accepted, asked, asked_by}
use Rattle.torx_words.specs.Form.{Reading}
use Rattle.torx_words.specs.declared.kind.WordsError.{WordsError}
use Rattle.torx_words.specs.declared.kind.WordsError.TheVariants.{Usage, Memory}

-- a reading that is accepted by a form of this shape asks for what it does
pub asked_ok : {A : Type 0} (shape form : Shape) (ask : Reading → A) (words : List (List ℕ)) (r : Reading) (x : A) → form ≡ shape → accepted form words ≡ Ok r → x ≡ ask r → asked shape ask words ≡ Ok x
asked_ok shape form ask words r x shaped e is = ap (asked_by ask) (rw shaped at e) ∙ ap Ok (sym is)

-- a refusal of the words is one of what they ask for
refused : {A : Type 0} (shape : Shape) (ask : Reading → A) (words : List (List ℕ)) (e : WordsError) → IsRefusal (accepted shape words) e → IsRefusal (asked shape ask words) e
refused shape ask words (Usage kind) h = ap (asked_by ask) h
refused shape ask words Memory h = tt

-- the same for a form of this shape, where the error is passed on
pub asked_err : {A X : Type 0} (shape form : Shape) (ask : Reading → A) (seen : X → A) (words : List (List ℕ)) (e : WordsError) (result : Result X WordsError) →
    form ≡ shape → IsErrAnd result (λ passed. passed ≡ e) → IsRefusal (accepted form words) e → IsAsked (asked shape ask words) seen result
asked_err shape form ask seen words e (Ok x) shaped is h = absurd is
asked_err shape form ask seen words e (Err passed) shaped is h = rw is (refused shape ask words e (rw shaped at h))
