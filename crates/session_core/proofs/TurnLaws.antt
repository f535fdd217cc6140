-- What the table makes of events is their reading.
use Rattle.std.proofs.Common.{◌≡◌, ℕ, ◌+◌, ◌<◌, ◌≤◌, List, [], ◌∷◌, ◌++◌, length, map, replicate, Option, None, Some, ◌⊎◌, inl, inr, refl, ap, sym, ◌∙◌, arith, append_assoc}
use Rattle.std.proofs.lemmas.List.{append-nil, map_push, map-append}
use Rattle.std.proofs.lemmas.Bool.{cases_lt}
use Rattle.std.specs.List.{flat_map}
use Rattle.lts_base.specs.declared.item.Item.{Item}
use Rattle.lts_base.specs.declared.item.Item.TheVariants.{Input, Output, Delta}
use Rattle.lts_base.proofs.ListLaws.{snoc_induction}
use Rattle.walk_core.specs.declared.choice.Choice.{Choice}
use Rattle.walk_core.specs.declared.choice.Choice.TheVariants.{Input as Ask_input, Observe}
use Rattle.session_core.specs.declared.verdict.Verdict.{Verdict}
use Rattle.session_core.specs.declared.verdict.Verdict.TheVariants.{Pass, Fail, Ended, Stalled, Long}
use Rattle.session_core.specs.declared.phase.Phase.{Phase}
use Rattle.session_core.specs.declared.phase.Phase.TheVariants.{Ask, Look, Send, Hear, Done}
use Rattle.session_core.specs.Told.{Told, Chosen, Line, Idle, IdleMid, TooLong, End, Sent}
use Rattle.session_core.specs.Table.{Rules, Sitting, opening, Offered, Shown, IsOver, Given, Gave, Heard, Quiet, IsLogged, IsFailed, Settles, Fails, Observed, Waits, TurnAsk, TurnLook, TurnSend, TurnHear, TurnIn, Turn, Run}
use Rattle.session_core.specs.Reading.{Wait, Still, Partly, told_of, Round, Went, Crossed, Came, Rested, events_of, given_by, HasNoRow, EndsInRow, IsOther, FitsAt, GoOn, IsCut, mid_after, mids_from, mids_since, HasFew, IsPart, IsHearing, EndsWith, IsWithin, IsReadIn, IsReading}
use Rattle.session_core.proofs.RowLaws.{row_from, row_join, row_push, row_short, no_row_none, no_row_push, row_ends, mids_push, few_none, few_whole, few_push}
use Rattle.session_core.proofs.CutLaws.{IsCut-none, IsCut-push, IsCut-close}

-- what a session keeps that isn't done
pub record IsKept (r : Rules) (es : List Told) (σ : List Item) (s : Sitting) : Type 0 where
  pub items : s.items ≡ σ
  pub strange : s.strange ≡ None
  pub left : s.left ≡ []
  pub mid : s.mid ≡ mids_since es
  pub few : HasFew r es

-- the unfinished round, with the count of idle reads
abbrev pub IsPartAt : Rules → List Item → Phase → ℕ → List Told → Type 0
IsPartAt r σ Ask idles part = part ≡ []
IsPartAt r σ (Look a) idles part = IsPart r σ (Look a) part
IsPartAt r σ (Send a) idles part = IsPart r σ (Send a) part
IsPartAt r σ Hear idles part = (c : Choice) × (waits : List Wait) × IsOther r σ c × HasNoRow r.patience waits × (part ≡ Chosen c ∷ map told_of waits) × (idles ≡ row_from 0 waits)
IsPartAt r σ (Done v) idles part = ⊥

-- the meaning of a state
pub record IsMeantOpen (r : Rules) (es : List Told) (s : Sitting) : Type 0 where
  pub σ : List Item
  pub tail : List Told
  pub cut : IsCut r es σ tail
  pub kept : IsKept r es σ s
  pub part : IsPartAt r σ s.phase s.idles tail

pub record IsMeantDone (r : Rules) (es : List Told) (s : Sitting) (v : Verdict) : Type 0 where
  pub σ : List Item
  pub tail : List Told
  pub cut : IsCut r es σ tail
  pub ends : EndsWith r es σ tail s v

abbrev pub IsMeantIn : Phase → Rules → List Told → Sitting → Type 0
IsMeantIn Ask r es s = IsMeantOpen r es s
IsMeantIn (Look a) r es s = IsMeantOpen r es s
IsMeantIn (Send a) r es s = IsMeantOpen r es s
IsMeantIn Hear r es s = IsMeantOpen r es s
IsMeantIn (Done v) r es s = IsMeantDone r es s v

abbrev pub IsMeant : Rules → List Told → Sitting → Type 0
IsMeant r es s = IsMeantIn s.phase r es s

pub along : (P : Sitting → Type 0) (s t : Sitting) → t ≡ s → P s → P t
along P s t e h = rw e h

-- an item is logged at the end of a round
pub settled : (r : Rules) (es : List Told) (σ : List Item) (tail : List Told) (s t : Sitting) (round : Round) (x : Item) → IsCut r es σ tail → tail ≡ events_of round → FitsAt r σ round → IsLogged r σ (given_by round) x → IsKept r es σ s → Settles r s x t → IsMeant r es t
settled r es σ tail s t round x cut whole fits logged kept (inl (over, e)) =
    along (IsMeant r es) _ t e (record { σ = σ; tail = tail; cut = cut; ends = (round, x, fits, logged, rw kept.items at over, whole, kept.few, rw kept.items refl, kept.strange, kept.left) })
settled r es σ tail s t round x cut whole fits logged kept (inr (more, e)) =
    let more' : IsOver r (σ ++ x ∷ []) → ⊥ = rw kept.items at more in
    along (IsMeant r es) _ t e (record {
      σ = σ ++ x ∷ [];
      tail = [];
      cut = IsCut-close r es σ tail round x cut whole fits logged more';
      kept = record { items = rw kept.items refl; strange = kept.strange; left = kept.left; mid = kept.mid; few = kept.few };
      part = refl;
    })

pub observed : (r : Rules) (es : List Told) (σ : List Item) (tail : List Told) (s t : Sitting) (round : Round) → IsCut r es σ tail → tail ≡ events_of round → FitsAt r σ round → IsKept r es σ s → Observed r s (given_by round) t → IsMeant r es t
observed r es σ tail s t round cut whole fits kept (inl (x, logged, settles)) =
    settled r es σ tail s t round x cut whole fits (rw kept.items at logged) kept settles
observed r es σ tail s t round cut whole fits kept (inr (τ, strange, failed, e)) =
    along (IsMeant r es) _ t e (record { σ = σ; tail = tail; cut = cut; ends = (round, fits, rw kept.items at failed, whole, kept.few, rw kept.items refl, kept.left) })

-- an event that changes no count
pub kept_push : (r : Rules) (es : List Told) (σ : List Item) (s : Sitting) (e : Told) (n : ℕ) → IsKept r es σ s → mid_after s.mid e ≡ n → n < r.patience → IsKept r (es ++ e ∷ []) σ (record s { mid = n })
kept_push r es σ s e n kept is short =
    let count : mids_since (es ++ e ∷ []) ≡ n = mids_push es e ∙ rw (← kept.mid) is in
    record { items = kept.items; strange = kept.strange; left = kept.left; mid = sym count; few = few_push r es e kept.few (rw count short) }

pub short_mid : (r : Rules) (es : List Told) (σ : List Item) (s : Sitting) → IsKept r es σ s → s.mid < r.patience
short_mid r es σ s kept = rw kept.mid (few_whole r es kept.few)

-- a read that met an unfinished line and is one too many
pub stalled : (r : Rules) (es : List Told) (σ : List Item) (tail : List Told) (s t : Sitting) (text : List ℕ) → IsCut r es σ tail → IsKept r es σ s → IsHearing r σ tail → r.patience ≤ s.mid + 1 → t ≡ record s { phase = Done Stalled; mid = s.mid + 1; left = text } → IsMeant r (es ++ IdleMid text ∷ []) t
stalled r es σ tail s t text cut kept hearing long e =
    let count : mids_since (es ++ IdleMid text ∷ []) ≡ s.mid + 1 = mids_push es (IdleMid text) ∙ rw kept.mid refl in
    let short : s.mid < r.patience = short_mid r es σ s kept in
    along (IsMeant r (es ++ IdleMid text ∷ [])) _ t e (record {
      σ = σ;
      tail = tail ++ IdleMid text ∷ [];
      cut = IsCut-push r es σ tail (IdleMid text) cut;
      ends = (es, tail, refl, refl, hearing, kept.few, count ∙ (omega (arith, short, long)), kept.items, kept.strange);
    })

pub long_line : (r : Rules) (es : List Told) (σ : List Item) (tail : List Told) (s t : Sitting) (text : List ℕ) → IsCut r es σ tail → IsKept r es σ s → IsHearing r σ tail → t ≡ record s { phase = Done Long; left = text } → IsMeant r (es ++ TooLong text ∷ []) t
long_line r es σ tail s t text cut kept hearing e =
    let next = kept_push r es σ s (TooLong text) s.mid kept refl (short_mid r es σ s kept) in
    along (IsMeant r (es ++ TooLong text ∷ [])) _ t e (record { σ = σ; tail = tail ++ TooLong text ∷ []; cut = IsCut-push r es σ tail (TooLong text) cut; ends = (tail, refl, hearing, next.few, kept.items, kept.strange) })

pub ended : (r : Rules) (es : List Told) (σ : List Item) (tail : List Told) (s t : Sitting) (text : List ℕ) → IsCut r es σ tail → IsKept r es σ s → IsHearing r σ tail → t ≡ record s { phase = Done Ended; left = text } → IsMeant r (es ++ End text ∷ []) t
ended r es σ tail s t text cut kept hearing e =
    let next = kept_push r es σ s (End text) s.mid kept refl (short_mid r es σ s kept) in
    along (IsMeant r (es ++ End text ∷ [])) _ t e (record { σ = σ; tail = tail ++ End text ∷ []; cut = IsCut-push r es σ tail (End text) cut; ends = (tail, refl, hearing, next.few, kept.items, kept.strange) })

-- the session hears
pub hears : (r : Rules) (es : List Told) (σ : List Item) (tail : List Told) (s t : Sitting) (c : Choice) → 1 ≤ r.patience → IsCut r es σ tail → IsKept r es σ s → tail ≡ [] → IsOther r σ c → t ≡ record s { phase = Hear; idles = 0 } → IsMeant r (es ++ Chosen c ∷ []) t
hears r es σ tail s t c some cut kept none other e =
    let next = kept_push r es σ s (Chosen c) s.mid kept refl (short_mid r es σ s kept) in
    along (IsMeant r (es ++ Chosen c ∷ [])) _ t e (record {
      σ = σ;
      tail = tail ++ Chosen c ∷ [];
      cut = IsCut-push r es σ tail (Chosen c) cut;
      kept = record { items = next.items; strange = next.strange; left = next.left; mid = next.mid; few = next.few };
      part = (c, [], other, no_row_none r.patience some, rw none refl, refl);
    })

turn_ask : (r : Rules) (es : List Told) (s t : Sitting) (σ : List Item) (tail : List Told) (e : Told) → 1 ≤ r.patience → IsCut r es σ tail → IsKept r es σ s → tail ≡ [] → TurnAsk r s e t → IsMeant r (es ++ e ∷ []) t
turn_ask r es s t σ tail (Chosen (Ask_input a)) some cut kept none (inl (offered, e)) =
    let next = kept_push r es σ s (Chosen (Ask_input a)) s.mid kept refl (short_mid r es σ s kept) in
    along (IsMeant r (es ++ Chosen (Ask_input a) ∷ [])) _ t e (record {
      σ = σ;
      tail = tail ++ Chosen (Ask_input a) ∷ [];
      cut = IsCut-push r es σ tail (Chosen (Ask_input a)) cut;
      kept = record { items = next.items; strange = next.strange; left = next.left; mid = next.mid; few = next.few };
      part = (rw kept.items at offered, [], rw none refl);
    })
turn_ask r es s t σ tail (Chosen (Ask_input a)) some cut kept none (inr (refused, e)) = hears r es σ tail s t (Ask_input a) some cut kept none (rw kept.items at refused) e
turn_ask r es s t σ tail (Chosen Observe) some cut kept none e = hears r es σ tail s t Observe some cut kept none tt e
turn_ask r es s t σ tail (Line text) some cut kept none turn = absurd turn
turn_ask r es s t σ tail Idle some cut kept none turn = absurd turn
turn_ask r es s t σ tail (IdleMid text) some cut kept none turn = absurd turn
turn_ask r es s t σ tail (TooLong text) some cut kept none turn = absurd turn
turn_ask r es s t σ tail (End text) some cut kept none turn = absurd turn
turn_ask r es s t σ tail Sent some cut kept none turn = absurd turn

-- a line leaves no unfinished one
pub kept_line : (r : Rules) (es : List Told) (σ : List Item) (s : Sitting) (text : List ℕ) → 1 ≤ r.patience → IsKept r es σ s → IsKept r (es ++ Line text ∷ []) σ (record s { mid = 0 })
kept_line r es σ s text some kept = kept_push r es σ s (Line text) 0 kept refl (omega (arith, some))

turn_look : (r : Rules) (es : List Told) (s t : Sitting) (σ : List Item) (tail : List Told) (a : ℕ) (e : Told) → 1 ≤ r.patience → s.phase ≡ Look a → IsCut r es σ tail → IsKept r es σ s → IsPart r σ (Look a) tail → TurnLook r a s e t → IsMeant r (es ++ e ∷ []) t
turn_look r es s t σ tail a (Chosen c) some at cut kept part turn = absurd turn
turn_look r es s t σ tail a (Line text) some at cut kept (offered, mids, is) turn =
    observed r (es ++ Line text ∷ []) σ (tail ++ Line text ∷ []) (record s { mid = 0 }) t (Crossed a mids text) (IsCut-push r es σ tail (Line text) cut) (rw is refl) offered (kept_line r es σ s text some kept) turn
turn_look r es s t σ tail a Idle some at cut kept (offered, mids, is) e =
    let next = kept_push r es σ s Idle s.mid kept refl (short_mid r es σ s kept) in
    along (IsMeant r (es ++ Idle ∷ [])) _ t e (record {
      σ = σ;
      tail = tail ++ Idle ∷ [];
      cut = IsCut-push r es σ tail Idle cut;
      kept = record { items = next.items; strange = next.strange; left = next.left; mid = next.mid; few = next.few };
      part = (offered, mids, rw is refl);
    })
turn_look r es s t σ tail a (IdleMid text) some at cut kept (offered, mids, is) (inl (short, e)) =
    let next = kept_push r es σ s (IdleMid text) (s.mid + 1) kept refl short in
    along (IsMeant r (es ++ IdleMid text ∷ [])) _ t e (rw at (record {
      σ = σ;
      tail = tail ++ IdleMid text ∷ [];
      cut = IsCut-push r es σ tail (IdleMid text) cut;
      kept = record { items = next.items; strange = next.strange; left = next.left; mid = next.mid; few = next.few };
      part = (offered, mids ++ text ∷ [], rw (is, map_push IdleMid mids text) refl);
    }))
turn_look r es s t σ tail a (IdleMid text) some at cut kept part (inr (long, e)) = stalled r es σ tail s t text cut kept (inl (a, part)) long e
turn_look r es s t σ tail a (TooLong text) some at cut kept part e = long_line r es σ tail s t text cut kept (inl (a, part)) e
turn_look r es s t σ tail a (End text) some at cut kept part e = ended r es σ tail s t text cut kept (inl (a, part)) e
turn_look r es s t σ tail a Sent some at cut kept part turn = absurd turn

turn_send : (r : Rules) (es : List Told) (s t : Sitting) (σ : List Item) (tail : List Told) (a : ℕ) (e : Told) → IsCut r es σ tail → IsKept r es σ s → IsPart r σ (Send a) tail → TurnSend r a s e t → IsMeant r (es ++ e ∷ []) t
turn_send r es s t σ tail a (Chosen c) cut kept part turn = absurd turn
turn_send r es s t σ tail a (Line text) cut kept part turn = absurd turn
turn_send r es s t σ tail a Idle cut kept part turn = absurd turn
turn_send r es s t σ tail a (IdleMid text) cut kept part turn = absurd turn
turn_send r es s t σ tail a (TooLong text) cut kept part turn = absurd turn
turn_send r es s t σ tail a (End text) cut kept part turn = absurd turn
turn_send r es s t σ tail a Sent cut kept (offered, mids, is) turn =
    let next = kept_push r es σ s Sent s.mid kept refl (short_mid r es σ s kept) in
    settled r (es ++ Sent ∷ []) σ (tail ++ Sent ∷ []) s t (Went a mids) (Input a) (IsCut-push r es σ tail Sent cut) (rw (is, append_assoc) refl) offered refl (record { items = next.items; strange = next.strange; left = next.left; mid = next.mid; few = next.few }) turn

turn_hear : (r : Rules) (es : List Told) (s t : Sitting) (σ : List Item) (tail : List Told) (e : Told) → 1 ≤ r.patience → s.phase ≡ Hear → IsCut r es σ tail → IsKept r es σ s → IsPartAt r σ Hear s.idles tail → TurnHear r s e t → IsMeant r (es ++ e ∷ []) t
turn_hear r es s t σ tail (Chosen c) some at cut kept part turn = absurd turn
turn_hear r es s t σ tail (Line text) some at cut kept (c, waits, other, none, is, count) turn =
    observed r (es ++ Line text ∷ []) σ (tail ++ Line text ∷ []) (record s { mid = 0 }) t (Came c waits text) (IsCut-push r es σ tail (Line text) cut) (rw is refl) (other, none) (kept_line r es σ s text some kept) turn
turn_hear r es s t σ tail Idle some at cut kept (c, waits, other, none, is, count) (inl (short, e)) =
    let next = kept_push r es σ s Idle s.mid kept refl (short_mid r es σ s kept) in
    let row : row_from 0 (waits ++ Still ∷ []) ≡ s.idles + 1 = row_join 0 waits (Still ∷ []) ∙ rw count refl in
    along (IsMeant r (es ++ Idle ∷ [])) _ t e (rw at (record {
      σ = σ;
      tail = tail ++ Idle ∷ [];
      cut = IsCut-push r es σ tail Idle cut;
      kept = record { items = next.items; strange = next.strange; left = next.left; mid = next.mid; few = next.few };
      part = (c, waits ++ Still ∷ [], other, no_row_push r.patience waits Still none (rw row short), rw (is, map_push told_of waits Still) refl, sym row);
    }))
turn_hear r es s t σ tail Idle some at cut kept (c, waits, other, none, is, count) (inr (long, turn)) =
    let next = kept_push r es σ s Idle s.mid kept refl (short_mid r es σ s kept) in
    let full : row_from 0 waits + 1 ≡ r.patience = omega (arith, long, count, row_short r.patience waits none) in
    observed r (es ++ Idle ∷ []) σ (tail ++ Idle ∷ []) s t (Rested c (waits ++ Still ∷ [])) (IsCut-push r es σ tail Idle cut) (rw (is, map_push told_of waits Still) refl) (other, row_ends r.patience waits none full) (record { items = next.items; strange = next.strange; left = next.left; mid = next.mid; few = next.few }) turn
turn_hear r es s t σ tail (IdleMid text) some at cut kept (c, waits, other, none, is, count) (inl (short, e)) =
    let next = kept_push r es σ s (IdleMid text) (s.mid + 1) kept refl short in
    let row : row_from 0 (waits ++ Partly text ∷ []) ≡ 0 = row_join 0 waits (Partly text ∷ []) in
    along (IsMeant r (es ++ IdleMid text ∷ [])) _ t e (rw at (record {
      σ = σ;
      tail = tail ++ IdleMid text ∷ [];
      cut = IsCut-push r es σ tail (IdleMid text) cut;
      kept = record { items = next.items; strange = next.strange; left = next.left; mid = next.mid; few = next.few };
      part = (c, waits ++ Partly text ∷ [], other, no_row_push r.patience waits (Partly text) none (rw row (omega (arith, some))), rw (is, map_push told_of waits (Partly text)) refl, sym row);
    }))
turn_hear r es s t σ tail (IdleMid text) some at cut kept (c, waits, other, none, is, count) (inr (long, e)) =
    stalled r es σ tail (record s { idles = 0 }) t text cut (record { items = kept.items; strange = kept.strange; left = kept.left; mid = kept.mid; few = kept.few }) (inr (c, waits, other, none, is)) long e
turn_hear r es s t σ tail (TooLong text) some at cut kept (c, waits, other, none, is, count) e = long_line r es σ tail s t text cut kept (inr (c, waits, other, none, is)) e
turn_hear r es s t σ tail (End text) some at cut kept (c, waits, other, none, is, count) e = ended r es σ tail s t text cut kept (inr (c, waits, other, none, is)) e
turn_hear r es s t σ tail Sent some at cut kept part turn = absurd turn

turn_in : (p : Phase) (r : Rules) (es : List Told) (s t : Sitting) (e : Told) → s.phase ≡ p → 1 ≤ r.patience → IsMeantIn p r es s → TurnIn p r s e t → IsMeant r (es ++ e ∷ []) t
turn_in Ask r es s t e at some meant turn = turn_ask r es s t meant.σ meant.tail e some meant.cut meant.kept (rw at at meant.part) turn
turn_in (Look a) r es s t e at some meant turn = turn_look r es s t meant.σ meant.tail a e some at meant.cut meant.kept (rw at at meant.part) turn
turn_in (Send a) r es s t e at some meant turn = turn_send r es s t meant.σ meant.tail a e meant.cut meant.kept (rw at at meant.part) turn
turn_in Hear r es s t e at some meant turn = turn_hear r es s t meant.σ meant.tail e some at meant.cut meant.kept (rw at at meant.part) turn
turn_in (Done v) r es s t e at some meant turn = absurd turn

pub run_meant : (r : Rules) (es more : List Told) (s t : Sitting) → 1 ≤ r.patience → IsMeant r es s → Run r s more t → IsMeant r (es ++ more) t
run_meant r es [] s t some meant e = rw (e, append-nil) meant
run_meant r es (e ∷ more) s t some meant (m, turn, run) =
    rw append_assoc at (run_meant r (es ++ e ∷ []) more m t some (turn_in s.phase r es s m e refl some meant turn) run)

pub opening_meant : (r : Rules) → 1 ≤ r.patience → IsMeant r [] opening
opening_meant r some = record {
  σ = [];
  tail = [];
  cut = IsCut-none r;
  kept = record { items = refl; strange = refl; left = refl; mid = refl; few = few_none r some };
  part = refl;
}

-- the meaning of a state says how its events are read
reads_in : (p : Phase) (r : Rules) (es : List Told) (s : Sitting) → s.phase ≡ p → IsMeantIn p r es s → IsReading r es s
reads_in Ask r es s at meant = record { items = meant.σ; tail = meant.tail; cut = meant.cut; read = rw at (rw at at meant.part, meant.kept.few, meant.kept.items, meant.kept.strange, meant.kept.left) }
reads_in (Look a) r es s at meant = record { items = meant.σ; tail = meant.tail; cut = meant.cut; read = rw at (rw at at meant.part, meant.kept.few, meant.kept.items, meant.kept.strange, meant.kept.left) }
reads_in (Send a) r es s at meant = record { items = meant.σ; tail = meant.tail; cut = meant.cut; read = rw at (rw at at meant.part, meant.kept.few, meant.kept.items, meant.kept.strange, meant.kept.left) }
reads_in Hear r es s at meant = record { items = meant.σ; tail = meant.tail; cut = meant.cut; read = rw at (heard (rw at at meant.part), meant.kept.few, meant.kept.items, meant.kept.strange, meant.kept.left) }
  where
    heard : IsPartAt r meant.σ Hear s.idles meant.tail → IsPart r meant.σ Hear meant.tail
    heard (c, waits, other, none, is, count) = (c, waits, other, none, is)
reads_in (Done v) r es s at meant = record { items = meant.σ; tail = meant.tail; cut = meant.cut; read = rw at meant.ends }

pub run_reads : (r : Rules) (es : List Told) (s : Sitting) → 1 ≤ r.patience → Run r opening es s → IsReading r es s
run_reads r es s some run = reads_in s.phase r es s refl (run_meant r [] es opening s some (opening_meant r some) run)
