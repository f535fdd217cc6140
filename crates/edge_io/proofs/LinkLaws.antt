-- Laws of what links and dialers tell over several calls, for the crates above.
use Rattle.std.proofs.Common.{arith, ◌≡◌, ℕ, ◌+◌, inl, inr, List, [], ◌∷◌, ◌++◌, length, Option, None, Some, IfSome, refl}
use Rattle.std.proofs.lemmas.List.{length_push}
use Rattle.std.specs.Option.{option_map}
use Rattle.edge_io.specs.Dials.{AreOpen, DialerFails, HadBefore, HungUp, KeepsDialer, ToldDialer}
use Rattle.edge_io.specs.Links.{KeepsLink, LinkFails, ToldLink}
use Rattle.edge_io.specs.Outside.{Grew}
use Rattle.edge_io.proofs.OutsideLaws.{Rose-after, Rose-before}

-- a link that isn't called is kept
pub KeepsLink-none : (told : ToldLink) → KeepsLink told told
KeepsLink-none told = record { faults = omega arith; idles = omega arith }

-- two calls in a row keep what both keep
pub KeepsLink-then : {old mid new : ToldLink} → KeepsLink old mid → KeepsLink mid new → KeepsLink old new
KeepsLink-then {old} {mid} {new} h k = record { faults = omega (arith, h.faults, k.faults); idles = omega (arith, h.idles, k.idles) }

-- a fault of a later call is one since before the earlier
pub LinkFails-before : {old mid new : ToldLink} → KeepsLink old mid → LinkFails mid new → LinkFails old new
LinkFails-before {old} {mid} {new} h fails = record { rose = Rose-before old.faults mid.faults new.faults h.faults fails.rose }

-- a fault of an earlier call is one up to after the later
pub LinkFails-after : {old mid new : ToldLink} → LinkFails old mid → KeepsLink mid new → LinkFails old new
LinkFails-after {old} {mid} {new} fails h = record { rose = Rose-after old.faults mid.faults new.faults fails.rose h.faults }

-- a dialer that isn't called is kept
pub KeepsDialer-none : (told : ToldDialer) → KeepsDialer told told
KeepsDialer-none told = record { faults = omega arith; idles = omega arith }

-- two calls in a row keep what both keep
pub KeepsDialer-then : {old mid new : ToldDialer} → KeepsDialer old mid → KeepsDialer mid new → KeepsDialer old new
KeepsDialer-then {old} {mid} {new} h k = record { faults = omega (arith, h.faults, k.faults); idles = omega (arith, h.idles, k.idles) }

-- a fault of a later call is one since before the earlier
pub DialerFails-before : {old mid new : ToldDialer} → KeepsDialer old mid → DialerFails mid new → DialerFails old new
DialerFails-before {old} {mid} {new} h fails = record { rose = Rose-before old.faults mid.faults new.faults h.faults fails.rose }

-- a fault of an earlier call is one up to after the later
pub DialerFails-after : {old mid new : ToldDialer} → DialerFails old mid → KeepsDialer mid new → DialerFails old new
DialerFails-after {old} {mid} {new} fails h = record { rose = Rose-after old.faults mid.faults new.faults fails.rose h.faults }

-- no link is open before the first dial
pub AreOpen-none : (told : ToldDialer) → AreOpen 0 told told
AreOpen-none told = record { as_many = go told.ended told.dialled refl refl }
  where
    go : (e : Option (List HungUp)) (d : Option ℕ) → told.ended ≡ e → told.dialled ≡ d → IfSome e (λ ended. IfSome d (λ dialled. HadBefore told (length ended + 0) dialled))
    go None d is_e is_d = tt
    go (Some ended) None is_e is_d = tt
    go (Some ended) (Some dialled) is_e is_d = (ended, dialled, is_e, is_d, omega arith)

-- a dial that gives a link opens one more
pub AreOpen-dial : {old mid new : ToldDialer} {count : ℕ} → AreOpen count old mid → new.dialled ≡ option_map (λ n. n + 1) mid.dialled → new.ended ≡ mid.ended → AreOpen (count + 1) old new
AreOpen-dial {old} {mid} {new} {count} h dialled ended = record { as_many = rw (dialled, ended) (go mid.ended mid.dialled h.as_many) }
  where
    go : (e : Option (List HungUp)) (d : Option ℕ) → IfSome e (λ ended. IfSome d (λ dialled. HadBefore old (length ended + count) dialled)) → IfSome e (λ ended. IfSome (option_map (λ n. n + 1) d) (λ dialled. HadBefore old (length ended + (count + 1)) dialled))
    go None d h = tt
    go (Some ended) None h = tt
    go (Some ended) (Some dialled) h = (h.0, h.1, h.2, h.3, omega (arith, h.4))

-- a dial that gives none leaves as many open
pub AreOpen-refused : {old mid new : ToldDialer} {count : ℕ} → AreOpen count old mid → new.dialled ≡ mid.dialled → new.ended ≡ mid.ended → AreOpen count old new
AreOpen-refused h dialled ended = record { as_many = rw (dialled, ended) h.as_many }

-- of the open links one less is open when one was hung up
pub AreOpen-hang_up : {old mid new : ToldDialer} {count : ℕ} (entry : HungUp) → AreOpen (count + 1) old mid → new.dialled ≡ mid.dialled → Grew mid.ended new.ended entry → AreOpen count old new
AreOpen-hang_up entry h dialled (inr lost) = record { as_many = rw (dialled, lost) tt }
AreOpen-hang_up {old} {mid} {new} {count} entry h dialled (inl gained) = record { as_many = rw (dialled, gained) (go mid.ended mid.dialled h.as_many) }
  where
    go : (e : Option (List HungUp)) (d : Option ℕ) → IfSome e (λ ended. IfSome d (λ dialled. HadBefore old (length ended + (count + 1)) dialled)) → IfSome (option_map (λ list. list ++ entry ∷ []) e) (λ ended. IfSome d (λ dialled. HadBefore old (length ended + count) dialled))
    go None d h = tt
    go (Some ended) None h = tt
    go (Some ended) (Some dialled) h = (h.0, h.1, h.2, h.3, rw (length_push ended entry) (omega (arith, h.4)))
