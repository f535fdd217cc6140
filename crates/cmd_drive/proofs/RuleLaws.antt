-- A session that is driven goes by the same rules all along.
use Rattle.std.proofs.Common.{◌≡◌, ◌∙◌, ℕ, List, [], ◌∷◌, Result, Ok, Err, inl, inr, refl, ap}
use Rattle.lts_base.specs.declared.item.Item.{Item}
use Rattle.edge_io.specs.declared.act.Act.{Act}
use Rattle.walk_core.specs.declared.choice.Choice.{Choice}
use Rattle.session_core.specs.declared.turn.DriveError.{DriveError}
use Rattle.session_core.specs.declared.turn.DriveError.TheVariants.{Broken, Full, Memory}
use Rattle.session_core.specs.declared.verdict.Verdict.{Verdict}
use Rattle.session_core.specs.Seat.{Seat}
use Rattle.session_core.specs.Table.{Rules}
use Rattle.session_core.specs.Driven.{Deed, Picked, Acted, Playing, Plays, Stopped, IsLoggedDrive}

module _ {C S : Type 0} (answer : C → List ℕ → List Item → Choice × C) (gives : S → Act → S → Type 0) where
  -- deeds leave the rules
  plays_rules : (p : Playing C S) (deeds : List Deed) (q : Playing C S) → Plays answer gives p deeds q → q.seat.rules ≡ p.seat.rules
  plays_rules p [] q is = ap {A = Playing C S} {B = Rules} (λ x. x.seat.rules) is
  plays_rules p (Picked c ∷ deeds) q (m, does, plays) = plays_rules m deeds q plays ∙ does.1.rules
  plays_rules p (Acted act ∷ deeds) q (m, does, plays) = plays_rules m deeds q plays ∙ does.1.rules

  -- so does a deed that is refused
  stopped_rules : (p : Playing C S) (e : DriveError) (q : Playing C S) → Stopped answer gives p e q → q.seat.rules ≡ p.seat.rules
  stopped_rules p Broken q broke = ap {A = Seat} {B = Rules} (λ x. x.rules) broke.0
  stopped_rules p (Full reached) q (inl (c, answers, refuses, same)) = ap {A = Seat} {B = Rules} (λ x. x.rules) same
  stopped_rules p (Full reached) q (inr (act, acts, refuses, same)) = ap {A = Seat} {B = Rules} (λ x. x.rules) same
  stopped_rules p Memory q (inl (c, answers, refuses, same)) = ap {A = Seat} {B = Rules} (λ x. x.rules) same
  stopped_rules p Memory q (inr (act, acts, refuses, same)) = ap {A = Seat} {B = Rules} (λ x. x.rules) same

  -- and a whole drive
  pub drive_rules : (p : Playing C S) (result : Result Verdict DriveError) (q : Playing C S) → IsLoggedDrive answer gives p result q → q.seat.rules ≡ p.seat.rules
  drive_rules p (Ok verdict) q (logged, done) = plays_rules p logged.deeds q logged.plays
  drive_rules p (Err e) q (m, logged, stopped) = stopped_rules m e q stopped ∙ plays_rules p logged.deeds m logged.plays
