-- Private: how the bytes at hand are looked through, and how a link gets on from read to read.
use Rattle.std.specs.Prelude.{◌≡◌, ℕ, ◌<◌, Bool, false, List, [], ◌∷◌, ◌++◌, length, Option, None, Some}
use Rattle.edge_io.specs.declared.act.Heard.{Heard}
use Rattle.edge_io.specs.declared.content.Given.{Given}
use Rattle.edge_io.specs.declared.content.Given.TheVariants.{Bytes as GivenBytes}
use Rattle.edge_io.specs.Outside.{Gains}
use Rattle.line_link.specs.declared.line_buffer.Found.{Found}
use Rattle.line_link.specs.declared.line_buffer.Found.TheVariants.{Line as FoundLine, Long, Part}
use Rattle.line_link.specs.Hearing.{Hears, IsFirstLine, IsHeard, IsRest, IsTooLong, Pending}

-- the bytes at hand, and the text that was last taken from them
pub record AtHand : Type 0 where
  pub bytes : List ℕ
  pub said : List ℕ

-- what the bytes begin with, its text, and the bytes that are left
abbrev pub IsFound : List ℕ → Found → List ℕ → List ℕ → Type 0
IsFound bytes FoundLine text rest = IsFirstLine bytes text rest
IsFound bytes Long text rest = IsTooLong bytes text × (rest ≡ bytes)
IsFound bytes Part text rest = IsRest bytes text × (rest ≡ bytes)

-- after one read: bytes came, or this is met
abbrev pub IsMore : Pending → Pending → List ℕ → Option Heard → Type 0
IsMore s t said None =
    (more : List ℕ) × (0 < length more) × (t.bytes ≡ s.bytes ++ more) × (t.is_over ≡ false) × Gains s.answers t.answers (GivenBytes more ∷ []) × (t.written ≡ s.written)
IsMore s t said (Some heard) = IsHeard s heard said t

-- what is met from the later state on is met from the first one on, after the answers between
pub record IsAhead (first later : Pending) : Type 0 where
  pub answers : List Given
  pub gains : Gains first.answers later.answers answers
  pub hears : (more : List Given) (heard : Heard) (text rest : List ℕ) (ended : Bool) → Hears later.bytes later.is_over more heard text rest ended → Hears first.bytes first.is_over (answers ++ more) heard text rest ended
  pub written : later.written ≡ first.written
