-- How many events may follow.
use Rattle.std.specs.Prelude.{◌≡◌, ℕ, ◌+◌, ◌-◌, ◌*◌, ◌<◌, ◌≤◌, length}
use Rattle.session_core.specs.declared.verdict.Verdict.{Verdict}
use Rattle.session_core.specs.declared.phase.Phase.{Phase}
use Rattle.session_core.specs.declared.phase.Phase.TheVariants.{Ask, Look, Send, Hear, Done}
use Rattle.session_core.specs.Table.{Rules, Sitting}

-- the square that bounds a round
abbrev pub square : Rules → ℕ
square r = (r.patience + 1) * (r.patience + 1)

-- what is left of a round, by the phase
abbrev pub left_in : Phase → ℕ → ℕ → ℕ → ℕ
left_in Ask p idles mid = 0
left_in (Look a) p idles mid = p - mid + 1
left_in (Send a) p idles mid = 1
left_in Hear p idles mid = (p - (mid + 1)) * p + (p - idles)
left_in (Done v) p idles mid = 0

-- how many items are left whose round hasn't begun
abbrev pub items_in : Phase → ℕ → ℕ → ℕ
items_in Ask steps n = steps - n
items_in (Look a) steps n = steps - (n + 1)
items_in (Send a) steps n = steps - (n + 1)
items_in Hear steps n = steps - (n + 1)
items_in (Done v) steps n = 0

-- at most so many events follow
abbrev pub fuel : Rules → Sitting → ℕ
fuel r s = items_in s.phase r.steps (length s.items) * square r + left_in s.phase r.patience s.idles s.mid

-- a session that isn't done
pub record IsGoing (r : Rules) (s : Sitting) : Type 0 where
  pub items : length s.items < r.steps
  pub mid : s.mid < r.patience
  pub idles : s.phase ≡ Hear → s.idles < r.patience

abbrev pub IsGoingIn : Phase → Rules → Sitting → Type 0
IsGoingIn Ask r s = IsGoing r s
IsGoingIn (Look a) r s = IsGoing r s
IsGoingIn (Send a) r s = IsGoing r s
IsGoingIn Hear r s = IsGoing r s
IsGoingIn (Done v) r s = Unit {0}

abbrev pub IsGoingOn : Rules → Sitting → Type 0
IsGoingOn r s = IsGoingIn s.phase r s

-- a session that may go on: there is patience, and the counts of one that isn't done are below their limits
pub record IsSeated (r : Rules) (s : Sitting) : Type 0 where
  pub patience : 1 ≤ r.patience
  pub going : IsGoingOn r s
