-- Deeds go on, and are turns of the table.
use Rattle.std.proofs.Common.{◌≡◌, ℕ, ◌<◌, ◌≤◌, List, [], ◌∷◌, ◌++◌, map, Option, None, Some, Result, Ok, Err, refl, ap, sym, ◌∙◌, append_assoc}
use Rattle.std.specs.Option.{option_map}
use Rattle.std.proofs.lemmas.List.{append-nil}
use Rattle.lts_base.specs.declared.item.Item.{Item}
use Rattle.edge_io.specs.declared.act.Act.{Act}
use Rattle.edge_io.specs.Outside.{Gains}
use Rattle.edge_io.specs.Links.{Leads}
use Rattle.walk_core.specs.declared.choice.Choice.{Choice}
use Rattle.session_core.specs.declared.verdict.Verdict.{Verdict}
use Rattle.session_core.specs.declared.turn.DriveError.{DriveError}
use Rattle.session_core.specs.Told.{Told}
use Rattle.session_core.specs.Table.{Rules, Sitting, Turn, Run, opening}
use Rattle.session_core.specs.Fuel.{fuel, IsGoingOn, IsSeated}
use Rattle.session_core.specs.Reading.{IsReading}
use Rattle.session_core.specs.Seat.{Seat, Takes}
use Rattle.session_core.specs.Driven.{Deed, Picked, Acted, Playing, Does, Plays, HasDone, HasPlayed, event_of, acts_of, IsDriven, IsLogged, IsLoggedDrive}
use Rattle.session_core.proofs.BoundLaws.{turn_less}
use Rattle.session_core.proofs.TurnLaws.{run_reads}

-- nothing gained, and gains one after the other
gains_none : {X : Type 0} (old : Option (List X)) → Gains old old []
gains_none None = refl
gains_none (Some xs) = ap Some (sym (append-nil xs))

gains_join : {X : Type 0} (a b c : Option (List X)) (xs ys : List X) → Gains a b xs → Gains b c ys → Gains a c (xs ++ ys)
gains_join None b c xs ys first second = rw first at second
gains_join (Some zs) b c xs ys first second =
    let e : c ≡ Some ((zs ++ xs) ++ ys) = rw first at second in
    e ∙ ap Some (append_assoc zs xs ys)

module _ {C S : Type 0} (answer : C → List ℕ → List Item → Choice × C) (gives : S → Act → S → Type 0) where
  does_takes : (p q : Playing C S) (d : Deed) → Does answer gives p d q → Takes p.seat (event_of d) q.seat
  does_takes p q (Picked c) does = does.1
  does_takes p q (Acted act) does = does.1

  plays_push : (p m q : Playing C S) (deeds : List Deed) (d : Deed) → Plays answer gives p deeds m → Does answer gives m d q → Plays answer gives p (deeds ++ d ∷ []) q
  plays_push p m q [] d plays does = (q, rw plays at does, refl)
  plays_push p m q (first ∷ deeds) d (n, one, rest) does = (n, one, plays_push n m q deeds d rest does)

  plays_rules : (p q : Playing C S) (deeds : List Deed) → Plays answer gives p deeds q → q.seat.rules ≡ p.seat.rules
  plays_rules p q [] plays = rw plays refl
  plays_rules p q (d ∷ deeds) (m, one, rest) = plays_rules m q deeds rest ∙ (does_takes p m d one).rules

  plays_run : (r : Rules) (p q : Playing C S) (deeds : List Deed) → p.seat.rules ≡ r → Plays answer gives p deeds q → Run r p.seat.sitting (map event_of deeds) q.seat.sitting
  plays_run r p q [] same plays = rw plays refl
  plays_run r p q (d ∷ deeds) same (m, one, rest) =
      let takes = does_takes p m d one in
      (m.seat.sitting, rw same at takes.turn, plays_run r m q deeds (takes.rules ∙ same) rest)

  plays_leads : (p q : Playing C S) (deeds : List Deed) → Plays answer gives p deeds q → Leads gives p.link (acts_of deeds) q.link
  plays_leads p q [] plays = rw plays refl
  plays_leads p q (Picked c ∷ deeds) (m, (asked, turn), rest) = rw asked.3 at (plays_leads m q deeds rest)
  plays_leads p q (Acted act ∷ deeds) (m, (acted, turn), rest) = (m.link, acted.1, plays_leads m q deeds rest)

  plays_gains : (p q : Playing C S) (deeds : List Deed) → Plays answer gives p deeds q → Gains p.acts q.acts (acts_of deeds)
  plays_gains p q [] plays = rw plays (gains_none p.acts)
  plays_gains p q (Picked c ∷ deeds) (m, (asked, turn), rest) = rw asked.4 at (plays_gains m q deeds rest)
  plays_gains p q (Acted act ∷ deeds) (m, (acted, turn), rest) = gains_join p.acts m.acts q.acts (act ∷ []) (acts_of deeds) acted.2 (plays_gains m q deeds rest)

-- for every answerer and link, with the arguments that the records show
pub played_none : {C S : Type 0} (answer : C → List ℕ → List Item → Choice × C) (gives : S → Act → S → Type 0) (p : Playing C S) → HasPlayed answer gives p p
played_none answer gives p = record { deeds = []; plays = refl }

pub played_next : {C S : Type 0} (answer : C → List ℕ → List Item → Choice × C) (gives : S → Act → S → Type 0) (p m q : Playing C S) → HasPlayed answer gives p m → HasDone answer gives m q → HasPlayed answer gives p q
played_next answer gives p m q played done = record { deeds = played.deeds ++ done.deed ∷ []; plays = plays_push answer gives p m q played.deeds done.deed played.plays done.does }

-- after a deed there is less left
pub done_less : {C S : Type 0} (answer : C → List ℕ → List Item → Choice × C) (gives : S → Act → S → Type 0) (p q : Playing C S) → IsSeated p.seat.rules p.seat.sitting → HasDone answer gives p q → fuel q.seat.rules q.seat.sitting < fuel p.seat.rules p.seat.sitting
done_less answer gives p q seated done =
    let takes = does_takes answer gives p q done.deed done.does in
    rw takes.rules (turn_less p.seat.rules p.seat.sitting q.seat.sitting (event_of done.deed) seated.patience seated.going takes.turn).less

-- what a drive from the opening did is read so, and its acts lead the link from its state before to its state after
pub played_logged : {C S : Type 0} (answer : C → List ℕ → List Item → Choice × C) (gives : S → Act → S → Type 0) (p q : Playing C S) → 1 ≤ p.seat.rules.patience → p.seat.sitting ≡ opening → HasPlayed answer gives p q → IsLogged answer gives p q
played_logged answer gives p q some begins played = record {
  deeds = played.deeds;
  plays = played.plays;
  reading = run_reads p.seat.rules (map event_of played.deeds) q.seat.sitting some (rw begins at (plays_run answer gives p.seat.rules p q played.deeds refl played.plays));
  leads = plays_leads answer gives p q played.deeds played.plays;
  acts = plays_gains answer gives p q played.deeds played.plays;
}

pub driven_logged : {C S : Type 0} (answer : C → List ℕ → List Item → Choice × C) (gives : S → Act → S → Type 0) (p q : Playing C S) (result : Result Verdict DriveError) → 1 ≤ p.seat.rules.patience → p.seat.sitting ≡ opening → IsDriven answer gives p result q → IsLoggedDrive answer gives p result q
driven_logged answer gives p q (Ok v) some begins (played, ended) = (played_logged answer gives p q some begins played, ended)
driven_logged answer gives p q (Err e) some begins (m, played, stopped) = (m, played_logged answer gives p m some begins played, stopped)
