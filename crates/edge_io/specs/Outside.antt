-- Promise: what the outside tells, and what a call may change of it.
use Rattle.std.specs.Prelude.{◌≡◌, ℕ, ◌+◌, ◌-◌, ◌^◌, ◌<◌, ◌≤◌, ◌⊎◌, min, List, [], ◌∷◌, ◌++◌, length, take, drop, Option, None, Some, IfSome}
use Rattle.std.specs.Option.{option_map}

-- what files tell: what each name holds, where that is told, and how many faults of each name there were
pub record ToldFiles : Type 0 where
  pub content : List ℕ → Option (List ℕ)
  pub faults : List ℕ → ℕ

-- what a sink tells: all that it took, where that is told, and how many faults there were
pub record ToldSink : Type 0 where
  pub written : Option (List ℕ)
  pub faults : ℕ

-- a count that goes up by one, and stays at its last value
abbrev pub counted : ℕ → ℕ
counted count = min (count + 1) (2 ^ 64 - 1)

-- the count went up, or it stands at its last value
abbrev pub Rose : ℕ → ℕ → Type 0
Rose before now = counted before ≤ now

-- a list that is told is told afterwards too, with these items at its end; one that isn't told isn't told afterwards
abbrev pub Gains : {X : Type 0} → Option (List X) → Option (List X) → List X → Type 0
Gains old new items = new ≡ option_map (λ list. list ++ items) old

-- the list gained this item, or there was no room for it and the list isn't told any more
abbrev pub Grew : {X : Type 0} → Option (List X) → Option (List X) → X → Type 0
Grew old new item = Gains old new (item ∷ []) ⊎ (new ≡ None)

-- the contents stay, and no count of faults falls
pub record KeepsFiles (old new : ToldFiles) : Type 0 where
  pub contents : (name : List ℕ) → new.content name ≡ old.content name
  pub faults : (name : List ℕ) → old.faults name ≤ new.faults name

-- the count of the faults of this name rose
pub record FailsAt (old new : ToldFiles) (name : List ℕ) : Type 0 where
  pub rose : Rose (old.faults name) (new.faults name)

-- the count of faults doesn't fall
pub record KeepsSink (old new : ToldSink) : Type 0 where
  pub faults : old.faults ≤ new.faults

-- the count of the sink's faults rose
pub record SinkFails (old new : ToldSink) : Type 0 where
  pub rose : Rose old.faults new.faults

-- where it is told what was written, it is told afterwards too, with these bytes at its end
pub record AppendsTo (old new : ToldSink) (bytes : List ℕ) : Type 0 where
  pub written : IfSome old.written (λ written. new.written ≡ Some (written ++ bytes))

-- the first of these bytes were written, up to some number of them
abbrev pub AppendsFrontTo : ToldSink → ToldSink → List ℕ → Type 0
AppendsFrontTo old new bytes = (n : ℕ) × AppendsTo old new (take n bytes)

-- the buffer begins with the n bytes that stand at this place of the content, and before its end n isn't 0
pub record GivesAt (content : List ℕ) (at n : ℕ) (buf : List ℕ) : Type 0 where
  pub bytes : take n buf ≡ take n (drop at content)
  pub within : at + n ≤ length content
  pub some : at < length content → 0 < n
