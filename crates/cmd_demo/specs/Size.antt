-- Promise: what the words after `demo` ask for.
use Rattle.std.specs.Prelude.{ℕ, ◌≤◌, [], Option}
use Rattle.torx_words.specs.Accepted.{Shape}
use Rattle.torx_words.specs.Form.{Reading}
use Rattle.torx_words.specs.Meaning.{file_at}
use Rattle.torx_words.specs.Options.{plain_shape}
use Rattle.torx_words.specs.Values.{number_in}
use Rattle.cmd_demo.specs.declared.limits.TheConstants.{LEAST_DEMO, MOST_DEMO}

-- the form of the words: `demo N`
abbrev pub demo_shape : Shape
demo_shape = plain_shape [] 1 1

-- the number is one of the sizes that there are
pub record IsSize (n : ℕ) : Type 0 where
  pub least : LEAST_DEMO ≤ n
  pub most : n ≤ MOST_DEMO

-- the size that is asked for: the number of the word, where it is one of them
abbrev pub demo_of : Reading → Option ℕ
demo_of r = number_in LEAST_DEMO MOST_DEMO (file_at 0 r)
