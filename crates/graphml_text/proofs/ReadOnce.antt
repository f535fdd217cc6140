-- A content says one thing: it is a document of one system, or it has one fault.
use Rattle.std.proofs.Common.{◌≡◌, ◌∙◌, ◌⊎◌, List, ℕ, Result, Ok, Err, MatchResult, IfOk, inl, inr, refl, sym, ap}
use Rattle.lts_base.specs.Raw.{RawSystem, IsRaw}
use Rattle.aut_text.specs.Grammar.{SaysSame}
use Rattle.aut_text.proofs.RawOnce.{raw_same}
use Rattle.graphml_text.specs.declared.error.GraphError.{GraphError}
use Rattle.graphml_text.specs.declared.error.GraphError.TheVariants.{Memory}
use Rattle.graphml_text.specs.Document.{Said, document, said_of, IsGraphml, IsGraphmlFile, IsOrMemory, RefusesGraphml}

-- the errors are the same, but for want of memory
abbrev pub AreSame : GraphError → GraphError → Type 0
AreSame e f = (e ≡ f) ⊎ ((e ≡ Memory) ⊎ (f ≡ Memory))

abbrev answered : Said → Result Said GraphError
answered x = Ok x

abbrev refused : GraphError → Result Said GraphError
refused e = Err e

ok_is : (o : Result Said GraphError) (x y : Said) → o ≡ Ok x → o ≡ Ok y → x ≡ y
ok_is o x y one other = let e : answered x ≡ answered y = sym one ∙ other in cc

err_is : (o : Result Said GraphError) (x y : GraphError) → o ≡ Err x → o ≡ Err y → x ≡ y
err_is o x y one other = let e : refused x ≡ refused y = sym one ∙ other in cc

never_both : (o : Result Said GraphError) (x : Said) (e : GraphError) → o ≡ Ok x → o ≡ Err e → ⊥
never_both o x e one other = let h : answered x ≡ refused e = sym one ∙ other in cc

-- a refusal is for want of memory, or it is the content's own
why_of : (content : List ℕ) (e : GraphError) → RefusesGraphml content e → (e ≡ Memory) ⊎ (document content ≡ Err e)
why_of content Memory why = inl refl
why_of content e why = inr why

-- a document is refused for want of memory alone
pub graphml_excludes : (content : List ℕ) (r : RawSystem) (e : GraphError) → IsGraphml content r → RefusesGraphml content e → e ≡ Memory
graphml_excludes content r e file why = elim (why_of content e why) [
  | inl memory ↦ memory
  | inr own ↦ absurd (never_both (document content) (said_of r) e file own)
]

-- a content has one fault
pub refuses_once : (content : List ℕ) (e f : GraphError) → RefusesGraphml content e → RefusesGraphml content f → AreSame e f
refuses_once content e f one two = elim (why_of content e one) [
  | inl memory ↦ inr (inl memory)
  | inr own ↦ elim (why_of content f two) [
    | inl memory ↦ inr (inr memory)
    | inr other ↦ inl (err_is (document content) e f own other)
  ]
]

says_same : (r q : RawSystem) → said_of r ≡ said_of q → SaysSame r q
says_same r q e = record {
  states = sym (ap (λ (s : Said). s.states) e);
  start = sym (ap (λ (s : Said). s.start) e);
  moves = sym (ap (λ (s : Said). s.moves) e);
}

-- a content is the document of one raw system
pub raw_once : (content : List ℕ) (r q : RawSystem) → IsGraphmlFile content r → IsGraphmlFile content q → r ≡ q
raw_once content r q one two = raw_same r q one.sound two.sound (says_same r q (ok_is (document content) (said_of r) (said_of q) one.file two.file))

-- what is read of a content is sound
pub file_of : (content : List ℕ) (r : Result RawSystem GraphError) → MatchResult r (IsGraphml content) (RefusesGraphml content) → IfOk r IsRaw → MatchResult r (IsGraphmlFile content) (RefusesGraphml content)
file_of content (Ok raw) read sound = record { file = read; sound = sound }
file_of content (Err e) read sound = read

-- what is read of a content is its one system
pub file_only : (content : List ℕ) (q : RawSystem) (r : Result RawSystem GraphError) → MatchResult r (IsGraphmlFile content) (RefusesGraphml content) → IsGraphmlFile content q → MatchResult r (λ raw. raw ≡ q) (λ e. e ≡ Memory)
file_only content q (Ok raw) read file = raw_once content raw q read file
file_only content q (Err e) read file = graphml_excludes content q e file.file read

-- what is told of a content is its one fault
pub refuses_only : (content : List ℕ) (e : GraphError) (r : Result RawSystem GraphError) → MatchResult r (IsGraphmlFile content) (RefusesGraphml content) → RefusesGraphml content e → (e ≡ Memory → ⊥) → MatchResult r (λ _. ⊥) (IsOrMemory e)
refuses_only content e (Ok raw) read why other = other (graphml_excludes content raw e read.file why)
refuses_only content e (Err f) read why other = elim (refuses_once content e f why read) [
  | inl same ↦ inl (sym same)
  | inr (inl memory) ↦ absurd (other memory)
  | inr (inr memory) ↦ inr memory
]

-- what is read of a content that says this system
pub says_only : (content : List ℕ) (s : Said) (r : Result RawSystem GraphError) → document content ≡ Ok s → MatchResult r (IsGraphmlFile content) (RefusesGraphml content) → MatchResult r (λ raw. said_of raw ≡ s) (λ e. e ≡ Memory)
says_only content s (Ok raw) said read = ok_is (document content) (said_of raw) s read.file said
says_only content s (Err e) said read = elim (why_of content e read) [
  | inl memory ↦ memory
  | inr own ↦ absurd (never_both (document content) s e said own)
]
