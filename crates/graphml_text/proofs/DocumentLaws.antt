-- What the front of a content and its tokens say of the whole.
use Rattle.std.proofs.Common.{◌≡◌, ℕ, ◌≤◌, Bool, true, false, List, [], ◌∷◌, length, take, drop, Some, None, Ok, Err, refl, sym, arith, codes, cond}
use Rattle.std.specs.Option.{unwrap_or}
use Rattle.std.specs.Str.{bytes_eq, is_utf8}
use Rattle.std.specs.Str.Lossy.{utf8_valid_len}
use Rattle.std.proofs.lemmas.List.{length-drop}
use Rattle.graphml_text.specs.declared.error.GraphError.{GraphError}
use Rattle.graphml_text.specs.declared.error.GraphError.TheVariants.{NotUtf8, Memory}
use Rattle.graphml_scan.specs.Piece.{name_at, after_text, cut_text}
use Rattle.graphml_text.specs.Reading.{nothing_read}
use Rattle.graphml_text.specs.MachineValues.{Refuses}
use Rattle.graphml_text.specs.Document.{read_on, unmarked, declaration_at, body_of, document, RefusesGraphml}
use Rattle.graphml_scan.proofs.LengthLaws.{Leaves, then_leaves, bytes_then, any_then, if_leaves, more_leaves, shrinks, text_leaves, cut_text_leaves}

pub refuses_graphml : (content : List ℕ) (e : GraphError) → Refuses e (document content) → RefusesGraphml content e
refuses_graphml content Memory h = tt
refuses_graphml content e h = h

pub document_cut : (content : List ℕ) (end : ℕ) → is_utf8 content ≡ false → end ≡ utf8_valid_len content → document content ≡ Err (NotUtf8 end)
unfolding document
document_cut content end bad is = rw (bad, is) refl

-- a text is what its front and its tokens say
pub document_front : (content : List ℕ) (e : GraphError) → is_utf8 content ≡ true → Refuses e (body_of (length content) (unmarked content)) → RefusesGraphml content e
unfolding document
document_front content Memory good h = tt
document_front content e good h = rw (good, h) refl

pub document_body : (content body : List ℕ) → is_utf8 content ≡ true → body_of (length content) (unmarked content) ≡ Ok body → document content ≡ read_on (length content) nothing_read body
unfolding document
document_body content body good is = rw (good, is) refl

declaration_leaves : (bytes : List ℕ) → Leaves (length bytes) (declaration_at bytes)
unfolding declaration_at
declaration_leaves bytes =
    bytes_then _ (after_text (codes "<?") bytes) _ (text_leaves (codes "<?") bytes) (λ start le.
    then_leaves _ (cut_text (codes "?>") start) _ (more_leaves _ _ (cut_text (codes "?>") start) le (cut_text_leaves (codes "?>") start)) (λ cut le.
    any_then _ (name_at cut.0) _ (λ name. if_leaves _ (bytes_eq name.0 (codes "xml")) (Some (name.1, cut.1)) None le tt)))

pub declaration_shorter : (bytes inner rest : List ℕ) → Some (inner, rest) ≡ declaration_at bytes → length rest ≤ length bytes
declaration_shorter bytes inner rest is = shrinks (length bytes) (declaration_at bytes) (inner, rest) (declaration_leaves bytes) (sym is)

pub unmarked_shorter : (content : List ℕ) → length (unmarked content) ≤ length content
unmarked_shorter content = go (bytes_eq (take 3 content) (239 ∷ 187 ∷ 191 ∷ []))
  where
    go : (b : Bool) → length (unwrap_or (cond b (Some (drop 3 content)) None) content) ≤ length content
    go true = omega (arith, length-drop 3 content)
    go false = omega arith
