-- Promise: what `demo` answers, and when.
use Rattle.std.specs.Prelude.{◌≡◌, ℕ, List, [], ◌++◌, codes, decimal, Option, Some, None}
use Rattle.lts_base.specs.System.{System}
use Rattle.lts_base.specs.Alphabet.{Alphabet}
use Rattle.trace_text.specs.Lines.{line}
use Rattle.torx_words.specs.declared.kind.UsageKind.TheVariants.{Value}
use Rattle.tool_base.specs.declared.refusal.Refusal.{Refusal}
use Rattle.tool_base.specs.Contents.{Contents}
use Rattle.tool_base.specs.Pages.{Page, Command}
use Rattle.tool_base.specs.Texts.{usage_text}
use Rattle.cmd_check.specs.declared.outcome.CheckOutcome.{CheckOutcome}
use Rattle.cmd_check.specs.Check.{IsUsualVerdict}
use Rattle.cmd_demo.specs.declared.outcome.DemoOutcome.{DemoOutcome}
use Rattle.cmd_demo.specs.declared.outcome.DemoOutcome.TheVariants.{NoSize, Decided}
use Rattle.cmd_demo.specs.Size.{demo_shape, demo_of}
use Rattle.cmd_demo.specs.Systems.{AreDemo}

-- the line that tells the size
abbrev pub size_line : ℕ → List ℕ
size_line n = line (codes "demo n=") (decimal n)

-- the answer on the two systems of size n: what `check` answers on them without options, after a line with the size
pub record IsDemo (n : ℕ) (outcome : DemoOutcome) (text : List ℕ) : Type 0 where
  pub a : Alphabet
  pub s : System
  pub i : System
  pub systems : AreDemo n a s i
  pub decision : CheckOutcome
  pub told : List ℕ
  pub verdict : IsUsualVerdict a s i decision told
  pub outcome_is : outcome ≡ Decided decision
  pub text_is : text ≡ size_line n ++ told

-- the answer for the size that is asked for; where the word tells none, that its value can't stand
abbrev pub AnswersDemo : Option ℕ → DemoOutcome → List ℕ → Type 0
AnswersDemo None outcome text = (outcome ≡ NoSize) × (text ≡ usage_text Value)
AnswersDemo (Some n) outcome text = IsDemo n outcome text

-- no file is refused
abbrev pub RefusesNone : Refusal → Type 0
RefusesNone r = ⊥

abbrev pub demo_page : Contents → Option ℕ → Page DemoOutcome
demo_page contents size = record { names = []; refuses = RefusesNone; answers = AnswersDemo size }

abbrev pub demo_command : Command (Option ℕ) DemoOutcome
demo_command = record { shape = demo_shape; asked = demo_of; page = demo_page }
