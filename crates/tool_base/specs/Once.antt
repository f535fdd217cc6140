-- Promise: that a command answers one thing for files whose contents are told.
use Rattle.std.specs.Prelude.{◌≡◌, ℕ, ◌≤◌, List, [], length}
use Rattle.tool_base.specs.declared.refusal.Refusal.{Refusal}
use Rattle.tool_base.specs.declared.refusal.Refusal.TheVariants.{TooLong, BadFile, BadLabels, Divergent, FileFault}
use Rattle.tool_base.specs.declared.refusal.FileError.{FileError}
use Rattle.tool_base.specs.Kinds.{Kind}
use Rattle.tool_base.specs.Pages.{Page}

-- the refusal without the cycle that it tells: a system may have several
abbrev pub without_cycle : Refusal → Refusal
without_cycle (TooLong name) = TooLong name
without_cycle (BadFile name error) = BadFile name error
without_cycle (BadLabels error) = BadLabels error
without_cycle (Divergent name cycle) = Divergent name []
without_cycle (FileFault name) = FileFault name

-- the same refusal, but for the cycle
abbrev pub IsLike : Refusal → Refusal → Type 0
IsLike r q = without_cycle r ≡ without_cycle q

-- the page has one refusal, or else it answers
pub record IsRefusedOnce {O : Type 0} (page : Page O) : Type 0 where
  pub refused : (r q : Refusal) → page.refuses r → page.refuses q → IsLike r q
  pub apart : (r : Refusal) (o : O) (t : List ℕ) → page.refuses r → ¬ page.answers o t

-- the page has one refusal, or else one answer
pub record IsOnce {O : Type 0} (page : Page O) : Type 0 where
  pub refused : (r q : Refusal) → page.refuses r → page.refuses q → IsLike r q
  pub apart : (r : Refusal) (o : O) (t : List ℕ) → page.refuses r → ¬ page.answers o t
  pub answered : (o p : O) (t u : List ℕ) → page.answers o t → page.answers p u → o ≡ p

-- a content of the kind is read as one value, or is too long, or has one first fault
pub record IsKind {X : Type 0} (kind : Kind X) : Type 0 where
  pub once : (c : List ℕ) (x y : X) → length c ≤ kind.most → kind.reads c x → kind.reads c y → x ≡ y
  pub fault : (c : List ℕ) (e f : FileError) → kind.faulty c e → kind.faulty c f → e ≡ f
  pub apart : (c : List ℕ) (x : X) (e : FileError) → length c ≤ kind.most → kind.reads c x → ¬ kind.faulty c e
  pub short : (c : List ℕ) → length c ≤ kind.most → ¬ kind.long c
  pub fine : (c : List ℕ) (e : FileError) → kind.long c → ¬ kind.faulty c e

-- a content that isn't too long is read as one value, or else it has one first fault
pub record IsReading {X : Type 0} (most : ℕ) (reads : List ℕ → X → Type 0) (faulty : List ℕ → FileError → Type 0) : Type 0 where
  pub once : (c : List ℕ) (x y : X) → length c ≤ most → reads c x → reads c y → x ≡ y
  pub fault : (c : List ℕ) (e f : FileError) → length c ≤ most → faulty c e → faulty c f → e ≡ f
  pub apart : (c : List ℕ) (x : X) (e : FileError) → length c ≤ most → reads c x → ¬ faulty c e
