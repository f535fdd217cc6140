-- What is read so, the table makes.
use Rattle.std.proofs.Common.{◌≡◌, ℕ, zero, suc, ◌+◌, ◌<◌, ◌≤◌, List, [], ◌∷◌, ◌++◌, length, map, replicate, Option, None, Some, ◌⊎◌, inl, inr, refl, ap, sym, ◌∙◌, arith, append_assoc, subst}
use Rattle.std.proofs.lemmas.List.{append-nil, map_push, replicate_more, same_from_push}
use Rattle.std.specs.List.{flat_map}
use Rattle.lts_base.specs.declared.item.Item.{Item}
use Rattle.lts_base.specs.declared.item.Item.TheVariants.{Input, Output, Delta}
use Rattle.walk_core.specs.declared.choice.Choice.{Choice}
use Rattle.walk_core.specs.declared.choice.Choice.TheVariants.{Input as Ask_input, Observe}
use Rattle.session_core.specs.declared.verdict.Verdict.{Verdict}
use Rattle.session_core.specs.declared.verdict.Verdict.TheVariants.{Pass, Fail, Ended, Stalled, Long}
use Rattle.session_core.specs.declared.phase.Phase.{Phase}
use Rattle.session_core.specs.declared.phase.Phase.TheVariants.{Ask, Look, Send, Hear, Done}
use Rattle.session_core.specs.Told.{Told, Chosen, Line, Idle, IdleMid, TooLong, End, Sent}
use Rattle.session_core.specs.Table.{Rules, Sitting, opening, Offered, IsOver, Given, Gave, Heard, Quiet, IsLogged, Settles, Observed, TurnIn, Turn, Run}
use Rattle.session_core.specs.Reading.{Wait, Still, Partly, told_of, Round, Went, Crossed, Came, Rested, events_of, given_by, HasNoRow, EndsInRow, IsOther, FitsAt, GoOn, IsCut, HasFew, IsPart, IsHearing, EndsWith, IsReadIn, IsReading, mid_after, mids_from, mids_since}
use Rattle.session_core.proofs.RowLaws.{row_after, row_from, row_join, row_still, row_short, mids_join, mids_push}

-- from a count on, each front has few reads that met an unfinished line
abbrev pub FewFrom : Rules → ℕ → List Told → Type 0
FewFrom r n es = (before after : List Told) → es ≡ before ++ after → mids_from n before < r.patience

pub few_front : (r : Rules) (n : ℕ) (xs ys : List Told) → FewFrom r n (xs ++ ys) → FewFrom r n xs
few_front r n xs ys few before after e = few before (after ++ ys) (rw (e, append_assoc) refl)

pub few_back : (r : Rules) (n : ℕ) (xs ys : List Told) → FewFrom r n (xs ++ ys) → FewFrom r (mids_from n xs) ys
few_back r n xs ys few before after e = rw (mids_join n xs before) at (few (xs ++ before) after (rw (e, append_assoc) refl))

pub few_along : (r : Rules) (n : ℕ) (xs ys : List Told) → xs ≡ ys → FewFrom r n xs → FewFrom r n ys
few_along r n xs ys same few before after e = few before after (same ∙ e)

-- from a count on, each front ends in a short row
abbrev pub RowsBelow : ℕ → ℕ → List Wait → Type 0
RowsBelow p n ws = (before after : List Wait) → ws ≡ before ++ after → row_from n before < p

pub rows_below : (p : ℕ) (ws : List Wait) → HasNoRow p ws → RowsBelow p 0 ws
rows_below p ws none before after e = row_short p before (λ b a is. none b (a ++ after) (rw (e, is, append_assoc) refl))

pub rows_back : (p n : ℕ) (w : Wait) (ws : List Wait) → RowsBelow p n (w ∷ ws) → RowsBelow p (row_after n w) ws
rows_back p n w ws rows before after e = rows (w ∷ before) after (rw e refl)

pub run_join : (r : Rules) (s m t : Sitting) (xs ys : List Told) → Run r s xs m → Run r m ys t → Run r s (xs ++ ys) t
run_join r s m t [] ys one two = rw one at two
run_join r s m t (x ∷ xs) ys (n, turn, rest) two = (n, turn, run_join r n m t xs ys rest two)

pub turn_by : (r : Rules) (s t : Sitting) (e : Told) (p : Phase) → s.phase ≡ p → TurnIn p r s e t → Turn r s e t
turn_by r s t e p at h = subst (λ (q : Phase). TurnIn q r s e t) (sym at) h

pub run_mids : (r : Rules) (a : ℕ) (mids : List (List ℕ)) (s : Sitting) → s.phase ≡ Look a → FewFrom r s.mid (map IdleMid mids) → Run r s (map IdleMid mids) (record s { mid = mids_from s.mid (map IdleMid mids) })
run_mids r a [] s at few = refl
run_mids r a (text ∷ mids) s at few =
    let m : Sitting = record s { mid = s.mid + 1 } in
    (m, turn_by r s m (IdleMid text) (Look a) at (inl (few (IdleMid text ∷ []) (map IdleMid mids) refl, refl)), run_mids r a mids m at (few_back r s.mid (IdleMid text ∷ []) (map IdleMid mids) few))

pub run_waits : (r : Rules) (ws : List Wait) (s : Sitting) → s.phase ≡ Hear → RowsBelow r.patience s.idles ws → FewFrom r s.mid (map told_of ws) → Run r s (map told_of ws) (record s { idles = row_from s.idles ws; mid = mids_from s.mid (map told_of ws) })
run_waits r [] s at rows few = refl
run_waits r (Still ∷ ws) s at rows few =
    let m : Sitting = record s { idles = s.idles + 1 } in
    (m, turn_by r s m Idle Hear at (inl (rows (Still ∷ []) ws refl, refl)), run_waits r ws m at (rows_back r.patience s.idles Still ws rows) (few_back r s.mid (Idle ∷ []) (map told_of ws) few))
run_waits r (Partly text ∷ ws) s at rows few =
    let m : Sitting = record s { idles = 0; mid = s.mid + 1 } in
    (m, turn_by r s m (IdleMid text) Hear at (inl (few (IdleMid text ∷ []) (map told_of ws) refl, refl)), run_waits r ws m at (rows_back r.patience s.idles (Partly text) ws rows) (few_back r s.mid (IdleMid text ∷ []) (map told_of ws) few))

-- a session that asks, with these items and this count
pub record IsAsking (s : Sitting) (σ : List Item) : Type 0 where
  pub phase : s.phase ≡ Ask
  pub items : s.items ≡ σ
  pub strange : s.strange ≡ None
  pub left : s.left ≡ []

-- a session before the event that ends a round
pub record IsBefore (v : Sitting) (σ : List Item) (n : ℕ) : Type 0 where
  pub items : v.items ≡ σ
  pub strange : v.strange ≡ None
  pub left : v.left ≡ []
  pub mid : v.mid ≡ n

pub turn_other : (r : Rules) (s : Sitting) (σ : List Item) (c : Choice) → IsAsking s σ → IsOther r σ c → Turn r s (Chosen c) (record s { phase = Hear; idles = 0 })
turn_other r s σ (Ask_input a) asking other = turn_by r s _ (Chosen (Ask_input a)) Ask asking.phase (inr (rw asking.items other, refl))
turn_other r s σ Observe asking other = turn_by r s _ (Chosen Observe) Ask asking.phase refl

pub turn_offered : (r : Rules) (s : Sitting) (σ : List Item) (a : ℕ) → IsAsking s σ → Offered r σ a → Turn r s (Chosen (Ask_input a)) (record s { phase = Look a })
turn_offered r s σ a asking offered = turn_by r s _ (Chosen (Ask_input a)) Ask asking.phase (inl (rw asking.items offered, refl))

-- a row at the end is one read more than a list without such a row
pub row_split : (p : ℕ) (waits : List Wait) → 1 ≤ p → EndsInRow p waits → (ws : List Wait) × (waits ≡ ws ++ Still ∷ []) × HasNoRow p ws × (row_from 0 ws + 1 ≡ p)
row_split zero waits some ends = absurd (omega (arith, some))
row_split (suc p) waits some ((before, e), first) =
    let ws : List Wait = before ++ replicate p Still in
    let next : suc p ≡ p + 1 = omega arith in
    let joined : replicate p Still ++ Still ∷ [] ≡ replicate (suc p) Still = replicate_more p Still ∙ ap {A = ℕ} {B = List Wait} (λ n. replicate n Still) (sym next) in
    let whole : waits ≡ ws ++ Still ∷ [] = rw (e, append_assoc, joined) refl in
    let none : HasNoRow (suc p) ws = λ b a is. cc_last (a ++ Still ∷ []) a refl (first b (a ++ Still ∷ []) (rw (whole, is, append_assoc) refl)) in
    let count : row_from 0 ws ≡ row_from 0 before + p = row_join 0 before (replicate p Still) ∙ row_still p (row_from 0 before) in
    let short : row_from 0 ws < suc p = row_short (suc p) ws none in
    (ws, whole, none, omega (arith, count, short))
  where
    cc_last : (xs a : List Wait) → xs ≡ a ++ Still ∷ [] → xs ≡ [] → ⊥
    cc_last xs [] e is = cc
    cc_last xs (w ∷ a) e is = cc

-- the events of a round lead to whatever its last event may make
pub run_round : (r : Rules) (σ : List Item) (round : Round) (s : Sitting) → 1 ≤ r.patience → IsAsking s σ → FitsAt r σ round → FewFrom r s.mid (events_of round) → (v : Sitting) × IsBefore v σ (mids_from s.mid (events_of round)) × ((t : Sitting) → Observed r v (given_by round) t → Run r s (events_of round) t)
run_round r σ (Went a mids) s some asking fits few =
    let s1 : Sitting = record s { phase = Look a } in
    let n = mids_from s.mid (map IdleMid mids) in
    let s2 : Sitting = record s { phase = Look a; mid = n } in
    let v : Sitting = record s { phase = Send a; mid = n } in
    let rest = few_back r s.mid (Chosen (Ask_input a) ∷ []) (map IdleMid mids ++ Idle ∷ Sent ∷ []) few in (
      v,
      record { items = asking.items; strange = asking.strange; left = asking.left; mid = sym (mids_join s.mid (map IdleMid mids) (Idle ∷ Sent ∷ [])) },
      λ t seen. (s1, turn_offered r s σ a asking fits, run_join r s1 s2 t (map IdleMid mids) (Idle ∷ Sent ∷ []) (run_mids r a mids s1 refl (few_front r s.mid (map IdleMid mids) (Idle ∷ Sent ∷ []) rest)) (v, refl, (t, gave r v a t seen, refl))),
    )
  where
    gave : (r : Rules) (v : Sitting) (a : ℕ) (t : Sitting) → Observed r v (Gave a) t → Settles r v (Input a) t
    gave r v a t (inl (x, is, settles)) = rw is at settles
    gave r v a t (inr (τ, strange, failed, e)) = absurd failed
run_round r σ (Crossed a mids text) s some asking fits few =
    let s1 : Sitting = record s { phase = Look a } in
    let n = mids_from s.mid (map IdleMid mids) in
    let s2 : Sitting = record s { phase = Look a; mid = n } in
    let v : Sitting = record s { phase = Look a; mid = 0 } in
    let rest = few_back r s.mid (Chosen (Ask_input a) ∷ []) (map IdleMid mids ++ Line text ∷ []) few in (
      v,
      record { items = asking.items; strange = asking.strange; left = asking.left; mid = sym (mids_join s.mid (map IdleMid mids) (Line text ∷ [])) },
      λ t seen. (s1, turn_offered r s σ a asking fits, run_join r s1 s2 t (map IdleMid mids) (Line text ∷ []) (run_mids r a mids s1 refl (few_front r s.mid (map IdleMid mids) (Line text ∷ []) rest)) (t, seen, refl)),
    )
run_round r σ (Came c waits text) s some asking (other, none) few =
    let s1 : Sitting = record s { phase = Hear; idles = 0 } in
    let n = mids_from s.mid (map told_of waits) in
    let s2 : Sitting = record s { phase = Hear; idles = row_from 0 waits; mid = n } in
    let v : Sitting = record s { phase = Hear; idles = row_from 0 waits; mid = 0 } in
    let rest = few_back r s.mid (Chosen c ∷ []) (map told_of waits ++ Line text ∷ []) few in (
      v,
      record { items = asking.items; strange = asking.strange; left = asking.left; mid = sym (mids_join s.mid (map told_of waits) (Line text ∷ [])) },
      λ t seen. (s1, turn_other r s σ c asking other, run_join r s1 s2 t (map told_of waits) (Line text ∷ []) (run_waits r waits s1 refl (rows_below r.patience waits none) (few_front r s.mid (map told_of waits) (Line text ∷ []) rest)) (t, seen, refl)),
    )
run_round r σ (Rested c waits) s some asking (other, ends) few =
    let (ws, whole, none, count) = row_split r.patience waits some ends in
    let s1 : Sitting = record s { phase = Hear; idles = 0 } in
    let n = mids_from s.mid (map told_of ws) in
    let v : Sitting = record s { phase = Hear; idles = row_from 0 ws; mid = n } in
    let joined : map told_of waits ≡ map told_of ws ++ Idle ∷ [] = ap {A = List Wait} {B = List Told} (λ z. map told_of z) whole ∙ map_push told_of ws Still in
    let rest : FewFrom r s.mid (map told_of ws ++ Idle ∷ []) = rw joined at (few_back r s.mid (Chosen c ∷ []) (map told_of waits) few) in (
      v,
      record { items = asking.items; strange = asking.strange; left = asking.left; mid = rw joined (sym (mids_join s.mid (map told_of ws) (Idle ∷ []))) },
      λ t seen. (s1, turn_other r s σ c asking other, rw joined (run_join r s1 v t (map told_of ws) (Idle ∷ []) (run_waits r ws s1 refl (rows_below r.patience ws none) (few_front r s.mid (map told_of ws) (Idle ∷ []) rest)) (t, inr (omega (arith, count), seen), refl))),
    )

-- rounds that go on lead to a session that asks
pub run_rounds : (r : Rules) (σ : List Item) (rounds : List Round) (τ : List Item) (s : Sitting) → 1 ≤ r.patience → IsAsking s σ → GoOn r σ rounds τ → FewFrom r s.mid (flat_map events_of rounds) → (t : Sitting) × IsAsking t τ × (t.mid ≡ mids_from s.mid (flat_map events_of rounds)) × Run r s (flat_map events_of rounds) t
run_rounds r σ [] τ s some asking go few = (s, rw go asking, refl, refl)
run_rounds r σ (round ∷ rounds) τ s some asking (x, fits, logged, more, go) few =
    let (v, before, run) = run_round r σ round s some asking fits (few_front r s.mid (events_of round) (flat_map events_of rounds) few) in
    let t1 : Sitting = record v { phase = Ask; items = v.items ++ x ∷ [] } in
    let one : Run r s (events_of round) t1 = run t1 (inl (x, rw before.items logged, inr (rw before.items more, refl))) in
    let asks : IsAsking t1 (σ ++ x ∷ []) = record { phase = refl; items = rw before.items refl; strange = before.strange; left = before.left } in
    let rest : FewFrom r t1.mid (flat_map events_of rounds) = rw before.mid (few_back r s.mid (events_of round) (flat_map events_of rounds) few) in
    let (t, asking', mid, others) = run_rounds r (σ ++ x ∷ []) rounds τ t1 some asks go rest in
    (t, asking', mid ∙ rw before.mid (sym (mids_join s.mid (events_of round) (flat_map events_of rounds))), run_join r s t1 t (events_of round) (flat_map events_of rounds) one others)

pub opening_asks : IsAsking opening []
opening_asks = record { phase = refl; items = refl; strange = refl; left = refl }

-- the same as far as a reading says it
pub record IsSame (t s : Sitting) : Type 0 where
  pub phase : t.phase ≡ s.phase
  pub items : t.items ≡ s.items
  pub strange : t.strange ≡ s.strange
  pub left : t.left ≡ s.left

-- the rounds that go on are run, and the tail comes next
pub record IsBegun (r : Rules) (es : List Told) (σ : List Item) (tail : List Told) : Type 0 where
  pub t : Sitting
  pub asking : IsAsking t σ
  pub few : FewFrom r t.mid tail
  pub count : mids_from t.mid tail ≡ mids_since es
  pub run : (u : Sitting) → Run r t tail u → Run r opening es u

pub begun : (r : Rules) (es : List Told) (σ : List Item) (tail : List Told) → 1 ≤ r.patience → IsCut r es σ tail → HasFew r es → IsBegun r es σ tail
begun r es σ tail some cut few =
    let F : List Told = flat_map events_of cut.rounds in
    let whole : FewFrom r 0 (F ++ tail) = λ before after e. few before after (cut.cut ∙ e) in
    let (t, asking, mid, run) = run_rounds r [] cut.rounds σ opening some opening_asks cut.go (few_front r 0 F tail whole) in
    record {
      t = t;
      asking = asking;
      few = rw mid (few_back r 0 F tail whole);
      count = rw (mid, cut.cut) (sym (mids_join 0 F tail));
      run = λ u more. subst (λ (z : List Told). Run r opening z u) (sym cut.cut) (run_join r opening t u F tail run more);
    }

-- within a round in which a line may come
pub record IsHeld (r : Rules) (t : Sitting) (σ : List Item) (part : List Told) : Type 0 where
  pub u : Sitting
  pub run : Run r t part u
  pub before : IsBefore u σ (mids_from t.mid part)
  pub phase : ((a : ℕ) × (u.phase ≡ Look a)) ⊎ (u.phase ≡ Hear)

pub held_look : (r : Rules) (t : Sitting) (σ : List Item) (a : ℕ) (part : List Told) → IsAsking t σ → FewFrom r t.mid part → IsPart r σ (Look a) part → (u : Sitting) × Run r t part u × IsBefore u σ (mids_from t.mid part) × (u.phase ≡ Look a)
held_look r t σ a part asking few (offered, mids, e) =
    let t1 : Sitting = record t { phase = Look a } in
    let u : Sitting = record t { phase = Look a; mid = mids_from t.mid (map IdleMid mids) } in
    let rest : FewFrom r t.mid (map IdleMid mids) = few_back r t.mid (Chosen (Ask_input a) ∷ []) (map IdleMid mids) (rw e at few) in
    let run : Run r t (Chosen (Ask_input a) ∷ map IdleMid mids) u = (t1, turn_offered r t σ a asking offered, run_mids r a mids t1 refl rest) in
    (u, subst (λ (z : List Told). Run r t z u) (sym e) run, record { items = asking.items; strange = asking.strange; left = asking.left; mid = rw e refl }, refl)

pub held_hear : (r : Rules) (t : Sitting) (σ : List Item) (part : List Told) → IsAsking t σ → FewFrom r t.mid part → IsPart r σ Hear part → (u : Sitting) × Run r t part u × IsBefore u σ (mids_from t.mid part) × (u.phase ≡ Hear)
held_hear r t σ part asking few (c, waits, other, none, e) =
    let t1 : Sitting = record t { phase = Hear; idles = 0 } in
    let u : Sitting = record t { phase = Hear; idles = row_from 0 waits; mid = mids_from t.mid (map told_of waits) } in
    let rest : FewFrom r t.mid (map told_of waits) = few_back r t.mid (Chosen c ∷ []) (map told_of waits) (rw e at few) in
    let run : Run r t (Chosen c ∷ map told_of waits) u = (t1, turn_other r t σ c asking other, run_waits r waits t1 refl (rows_below r.patience waits none) rest) in
    (u, subst (λ (z : List Told). Run r t z u) (sym e) run, record { items = asking.items; strange = asking.strange; left = asking.left; mid = rw e refl }, refl)

pub held : (r : Rules) (t : Sitting) (σ : List Item) (part : List Told) → IsAsking t σ → FewFrom r t.mid part → IsHearing r σ part → IsHeld r t σ part
held r t σ part asking few (inl (a, is)) = let (u, run, before, phase) = held_look r t σ a part asking few is in record { u = u; run = run; before = before; phase = inl (a, phase) }
held r t σ part asking few (inr is) = let (u, run, before, phase) = held_hear r t σ part asking few is in record { u = u; run = run; before = before; phase = inr phase }

-- what ends a session in either phase
pub turn_long : (r : Rules) (u : Sitting) (text : List ℕ) → ((a : ℕ) × (u.phase ≡ Look a)) ⊎ (u.phase ≡ Hear) → Turn r u (TooLong text) (record u { phase = Done Long; left = text })
turn_long r u text (inl (a, at)) = turn_by r u _ (TooLong text) (Look a) at refl
turn_long r u text (inr at) = turn_by r u _ (TooLong text) Hear at refl

pub turn_end : (r : Rules) (u : Sitting) (text : List ℕ) → ((a : ℕ) × (u.phase ≡ Look a)) ⊎ (u.phase ≡ Hear) → Turn r u (End text) (record u { phase = Done Ended; left = text })
turn_end r u text (inl (a, at)) = turn_by r u _ (End text) (Look a) at refl
turn_end r u text (inr at) = turn_by r u _ (End text) Hear at refl

pub turn_stall : (r : Rules) (u : Sitting) (text : List ℕ) → r.patience ≤ u.mid + 1 → ((a : ℕ) × (u.phase ≡ Look a)) ⊎ (u.phase ≡ Hear) → (v : Sitting) × Turn r u (IdleMid text) v × (v.phase ≡ Done Stalled) × (v.items ≡ u.items) × (v.strange ≡ u.strange) × (v.left ≡ text)
turn_stall r u text long (inl (a, at)) = (record u { phase = Done Stalled; mid = u.mid + 1; left = text }, turn_by r u _ (IdleMid text) (Look a) at (inr (long, refl)), refl, refl, refl, refl)
turn_stall r u text long (inr at) = (record u { phase = Done Stalled; idles = 0; mid = u.mid + 1; left = text }, turn_by r u _ (IdleMid text) Hear at (inr (long, refl)), refl, refl, refl, refl)

abbrev pub IsRun : Rules → List Told → Sitting → Type 0
IsRun r es s = (t : Sitting) × Run r opening es t × IsSame t s

back_end : (r : Rules) (es : List Told) (s : Sitting) (σ : List Item) (tail : List Told) (v : Verdict) → 1 ≤ r.patience → s.phase ≡ Done v → IsCut r es σ tail → EndsWith r es σ tail s v → IsRun r es s
back_end r es s σ tail Pass some at cut (round, x, fits, logged, over, whole, few, items, strange, left) =
    let b = begun r es σ tail some cut few in
    let (v, before, run) = run_round r σ round b.t some b.asking fits (few_along r b.t.mid tail _ whole b.few) in
    let u : Sitting = record v { phase = Done Pass; items = v.items ++ x ∷ [] } in
    let last : Run r b.t (events_of round) u = run u (inl (x, rw before.items logged, inl (rw before.items over, refl))) in
    (u, b.run u (subst (λ (z : List Told). Run r b.t z u) (sym whole) last), record { phase = sym at; items = rw before.items (sym items); strange = before.strange ∙ sym strange; left = before.left ∙ sym left })
back_end r es s σ tail (Fail k) some at cut (round, fits, failed, whole, few, place, left) =
    let b = begun r es σ tail some cut few in
    let (v, before, run) = run_round r σ round b.t some b.asking fits (few_along r b.t.mid tail _ whole b.few) in
    let u : Sitting = record v { phase = Done (Fail (length v.items + 1)); items = s.items; strange = s.strange } in
    let last : Run r b.t (events_of round) u = run u (inr (s.items, s.strange, rw before.items failed, refl)) in
    let same : Done (Fail (length v.items + 1)) ≡ s.phase = rw (before.items, ← place) (sym at) in
    (u, b.run u (subst (λ (z : List Told). Run r b.t z u) (sym whole) last), record { phase = same; items = refl; strange = refl; left = before.left ∙ sym left })
back_end r es s σ tail Ended some at cut (part, whole, hearing, few, items, strange) =
    let b = begun r es σ tail some cut few in
    let h = held r b.t σ part b.asking (few_front r b.t.mid part (End s.left ∷ []) (few_along r b.t.mid tail _ whole b.few)) hearing in
    let u : Sitting = record h.u { phase = Done Ended; left = s.left } in
    let last : Run r b.t (part ++ End s.left ∷ []) u = run_join r b.t h.u u part (End s.left ∷ []) h.run (u, turn_end r h.u s.left h.phase, refl) in
    (u, b.run u (subst (λ (z : List Told). Run r b.t z u) (sym whole) last), record { phase = sym at; items = h.before.items ∙ sym items; strange = h.before.strange ∙ sym strange; left = refl })
back_end r es s σ tail Stalled some at cut (front, part, e, whole, hearing, few, count, items, strange) =
    let F : List Told = flat_map events_of cut.rounds in
    let joined : F ++ tail ≡ (F ++ part) ++ IdleMid s.left ∷ [] = ap {A = List Told} {B = List Told} (λ z. F ++ z) whole ∙ sym (append_assoc F part (IdleMid s.left ∷ [])) in
    let shorter : IsCut r front σ part = record { rounds = cut.rounds; go = cut.go; cut = (same_from_push front (F ++ part) (IdleMid s.left) (IdleMid s.left) (sym e ∙ cut.cut ∙ joined)).0 } in
    let b = begun r front σ part some shorter few in
    let h = held r b.t σ part b.asking b.few hearing in
    let more : mids_since front + 1 ≡ r.patience = sym (mids_push front (IdleMid s.left)) ∙ ap {A = List Told} {B = ℕ} mids_since (sym e) ∙ count in
    let now : h.u.mid ≡ mids_since front = h.before.mid ∙ b.count in
    let long : r.patience ≤ h.u.mid + 1 = omega (arith, more, now) in
    let (v, turn, phase, same_items, same_strange, same_left) = turn_stall r h.u s.left long h.phase in
    let run : Run r opening (front ++ IdleMid s.left ∷ []) v = run_join r opening h.u v front (IdleMid s.left ∷ []) (b.run h.u h.run) (v, turn, refl) in
    (v, subst (λ (z : List Told). Run r opening z v) (sym e) run, record { phase = phase ∙ sym at; items = same_items ∙ h.before.items ∙ sym items; strange = same_strange ∙ h.before.strange ∙ sym strange; left = same_left })
back_end r es s σ tail Long some at cut (part, whole, hearing, few, items, strange) =
    let b = begun r es σ tail some cut few in
    let h = held r b.t σ part b.asking (few_front r b.t.mid part (TooLong s.left ∷ []) (few_along r b.t.mid tail _ whole b.few)) hearing in
    let u : Sitting = record h.u { phase = Done Long; left = s.left } in
    let last : Run r b.t (part ++ TooLong s.left ∷ []) u = run_join r b.t h.u u part (TooLong s.left ∷ []) h.run (u, turn_long r h.u s.left h.phase, refl) in
    (u, b.run u (subst (λ (z : List Told). Run r b.t z u) (sym whole) last), record { phase = sym at; items = h.before.items ∙ sym items; strange = h.before.strange ∙ sym strange; left = refl })

back_in : (r : Rules) (es : List Told) (s : Sitting) (σ : List Item) (tail : List Told) (p : Phase) → 1 ≤ r.patience → s.phase ≡ p → IsCut r es σ tail → IsReadIn p r es σ tail s → IsRun r es s
back_in r es s σ tail Ask some at cut (part, few, items, strange, left) =
    let b = begun r es σ tail some cut few in
    (b.t, b.run b.t (subst (λ (z : List Told). Run r b.t z b.t) (sym part) refl), record { phase = b.asking.phase ∙ sym at; items = b.asking.items ∙ sym items; strange = b.asking.strange ∙ sym strange; left = b.asking.left ∙ sym left })
back_in r es s σ tail (Look a) some at cut (part, few, items, strange, left) =
    let b = begun r es σ tail some cut few in
    let (u, run, before, phase) = held_look r b.t σ a tail b.asking b.few part in
    (u, b.run u run, record { phase = phase ∙ sym at; items = before.items ∙ sym items; strange = before.strange ∙ sym strange; left = before.left ∙ sym left })
back_in r es s σ tail (Send a) some at cut ((offered, mids, e), few, items, strange, left) =
    let b = begun r es σ tail some cut few in
    let looked : List Told = Chosen (Ask_input a) ∷ map IdleMid mids in
    let (u, run, before, phase) = held_look r b.t σ a looked b.asking (few_front r b.t.mid looked (Idle ∷ []) (few_along r b.t.mid tail _ e b.few)) (offered, mids, refl) in
    let v : Sitting = record u { phase = Send a } in
    let last : Run r b.t (looked ++ Idle ∷ []) v = run_join r b.t u v looked (Idle ∷ []) run (v, turn_by r u v Idle (Look a) phase refl, refl) in
    (v, b.run v (subst (λ (z : List Told). Run r b.t z v) (sym e) last), record { phase = sym at; items = before.items ∙ sym items; strange = before.strange ∙ sym strange; left = before.left ∙ sym left })
back_in r es s σ tail Hear some at cut (part, few, items, strange, left) =
    let b = begun r es σ tail some cut few in
    let (u, run, before, phase) = held_hear r b.t σ tail b.asking b.few part in
    (u, b.run u run, record { phase = phase ∙ sym at; items = before.items ∙ sym items; strange = before.strange ∙ sym strange; left = before.left ∙ sym left })
back_in r es s σ tail (Done v) some at cut ends = back_end r es s σ tail v some at cut ends

pub reads_run : (r : Rules) (es : List Told) (s : Sitting) → 1 ≤ r.patience → IsReading r es s → IsRun r es s
reads_run r es s some reading = back_in r es s reading.items reading.tail s.phase some refl reading.cut reading.read
