-- Laws on what a drive asks of its dialer.
use Rattle.std.proofs.Common.{◌≡◌, ◌∙◌, ℕ, ◌+◌, ◌<◌, ◌≤◌, ◌^◌, ◌-◌, List, length, Option, None, Some, Result, Ok, Err, inl, inr, ◌⊎◌, refl, sym, subst, ap, min, arith}
use Rattle.std.specs.Option.{option_map, option_map_or}
use Rattle.edge_io.specs.declared.act.Act.{Act}
use Rattle.edge_io.specs.declared.dialer.DialError.{DialError}
use Rattle.edge_io.specs.declared.dialer.DialError.TheVariants.{Failed as DialFailed}
use Rattle.edge_io.specs.Dials.{Dial, HungUp, ToldDialer, KeepsDialer, DialerFails, DialerIdles, AreOpen}
use Rattle.edge_io.specs.Links.{ToldLink, LinkFails, LinkIdles}
use Rattle.edge_io.specs.Outside.{Gains, Grew, Rose}
use Rattle.edge_io.proofs.OutsideLaws.{Rose-before}
use Rattle.edge_io.proofs.LinkLaws.{AreOpen-none, AreOpen-dial, AreOpen-refused, AreOpen-hang_up, KeepsDialer-none, KeepsDialer-then, DialerFails-before}
use Rattle.tool_base.specs.declared.refusal.Stop.{Stop}
use Rattle.tool_base.specs.declared.report.Report.{Report}
use Rattle.cmd_drive.specs.declared.outcome.DriveOutcome.{DriveOutcome}
use Rattle.cmd_drive.specs.declared.outcome.DriveOutcome.TheVariants.{Broken}
use Rattle.cmd_drive.specs.Asked.{AskedDrive, drive_shape, drive_of}
use Rattle.cmd_drive.specs.Dialled.{IsHungUp, IsOwn, AsksOnce, Dials, dial_of}
use Rattle.cmd_drive.specs.Given.{DialsFor, DialsNow}
use Rattle.torx_words.specs.Accepted.{asked}

-- nothing is asked of the dialer
pub DialsNow-none : (q : AskedDrive) (told : ToldDialer) → DialsNow q told told
DialsNow-none q told = record { hung_up = AreOpen-none told; keeps = KeepsDialer-none told; dials = inl refl }

pub DialsFor-none : (q : AskedDrive) (told : ToldDialer) (result : Result (Report DriveOutcome) Stop) → DialsFor q told told result
DialsFor-none q told result = record { hung_up = AreOpen-none told; keeps = KeepsDialer-none told; dials = inl refl }

pub Dials-none : (words : List (List ℕ)) (told : ToldDialer) (result : Result (Report DriveOutcome) Stop) → Dials words told told result
Dials-none words told result = record { hung_up = AreOpen-none told; keeps = KeepsDialer-none told; dials = inl refl }

-- a dial that gave no link
pub DialsNow-refused : (q : AskedDrive) (old new : ToldDialer) (error : DialError) → Grew old.asked new.asked (dial_of q (Some error)) → new.dialled ≡ old.dialled → new.ended ≡ old.ended → KeepsDialer old new → DialsNow q old new
DialsNow-refused q old new error dial dialled ended keeps = record { hung_up = AreOpen-refused (AreOpen-none old) dialled ended; keeps = keeps; dials = inr (Some error, dial) }

-- a dial that gave a link, which was hung up
pub DialsNow-linked : (q : AskedDrive) (old mid new : ToldDialer) → Grew old.asked mid.asked (dial_of q None) → mid.dialled ≡ option_map (λ n. n + 1) old.dialled → mid.ended ≡ old.ended → KeepsDialer old mid →
    new.asked ≡ mid.asked → new.dialled ≡ mid.dialled → ((entry : HungUp) × Grew mid.ended new.ended entry) → KeepsDialer mid new → DialsNow q old new
DialsNow-linked q old mid new dial dialled ended keeps asked same (entry, grew) later = record {
  hung_up = AreOpen-hang_up {old = old} {mid = mid} {new = new} {count = 0} entry (AreOpen-dial {old = old} {mid = old} {new = mid} {count = 0} (AreOpen-none old) dialled ended) same grew;
  keeps = KeepsDialer-then keeps later;
  dials = inr (None, subst (λ a. Grew old.asked a (dial_of q None)) (sym asked) dial);
}

-- what is asked by a part of the work is asked by the whole
pub DialsFor-now : (q : AskedDrive) (old new : ToldDialer) (result : Result (Report DriveOutcome) Stop) → IsOwn result → DialsNow q old new → DialsFor q old new result
DialsFor-now q old new result own h = record { hung_up = h.hung_up; keeps = h.keeps; dials = elim h.dials [ inl same ↦ inl same | inr once ↦ inr (once, own) ] }

pub Dials-asked : (words : List (List ℕ)) (q : AskedDrive) (old new : ToldDialer) (result : Result (Report DriveOutcome) Stop) → asked drive_shape drive_of words ≡ Ok q → DialsFor q old new result → Dials words old new result
Dials-asked words q old new result asks h = record {
  hung_up = h.hung_up;
  keeps = h.keeps;
  dials = elim h.dials [
    | inl same ↦ inl same
    | inr ((refused, dial), own) ↦ inr (record { q = q; asks = asks; refused = refused; dial = dial; own = own })
  ];
}

-- a link that was hung up after the dial was hung up since before it
pub hung_up_before : (old mid new : ToldDialer) (acts : Option (List Act)) (outcome : DriveOutcome) → mid.ended ≡ old.ended → KeepsDialer old mid → IsHungUp mid new acts outcome → IsHungUp old new acts outcome
hung_up_before old mid new acts outcome same keeps h = record {
  faults = h.faults;
  idles = h.idles;
  entry = subst (λ (e : Option (List HungUp)). Grew e new.ended (record { acts = acts; faults = h.faults; idles = h.idles })) same h.entry;
  broke = h.broke;
  fails = elim h.fails [ inl none ↦ inl none | inr fails ↦ inr (DialerFails-before keeps fails) ];
  stalled = h.stalled;
  waits = elim h.waits [ inl none ↦ inl none | inr idles ↦ inr (idles_before idles) ];
}
  where
    idles_before : DialerIdles mid new → DialerIdles old new
    idles_before idles = record { rose = Rose-before old.idles mid.idles new.idles keeps.idles idles.rose }

-- a count that was 0 and rose is above 0
above_none : (before now : ℕ) → before ≡ 0 → Rose before now → 0 < now
above_none before now none rose =
    let one : min (0 + 1) (2 ^ 64 - 1) ≤ now = subst (λ (n : ℕ). min (n + 1) (2 ^ 64 - 1) ≤ now) none rose in
    omega (arith, one)

-- a new link that failed has a count of faults above 0
pub failed_faults : (old new : ToldLink) → old.faults ≡ 0 → LinkFails old new → 0 < new.faults
failed_faults old new none fails = above_none old.faults new.faults none fails.rose

-- a new link that was idle has a count of idle answers above 0
pub waited_idles : (old new : ToldLink) → old.idles ≡ 0 → LinkIdles old new → 0 < new.idles
waited_idles old new none idles = above_none old.idles new.idles none idles.rose
