-- A file that is read while its bytes come.
use Rattle.std.proofs.Common.{◌≡◌, ◌∙◌, ℕ, ◌+◌, ◌-◌, ◌^◌, ◌<◌, ◌≤◌, List, [], ◌∷◌, ◌++◌, length, take, drop, zero, suc, Option, Some, None, IfSome, inl, inr, refl, sym, ap, arith, subst}
use Rattle.std.proofs.lemmas.List.{append-nil, append_assoc, length-append, length-take-le, take-append-drop}
use Rattle.std.proofs.lemmas.Bool.{cases_lt}
use Rattle.std.proofs.Math.Seq.{take-add, take-append-add, take-length}
use Rattle.lts_base.proofs.SortingLaws.{take_all}
use Rattle.edge_io.specs.Outside.{ToldFiles, GivesAt}
use Rattle.edge_io.specs.Taps.{Takes}
use Rattle.text_scan.proofs.LineLaws.{few_lines}
use Rattle.aut_text.specs.declared.error.AutError.{AutError}
use Rattle.aut_text.specs.declared.error.AutError.TheVariants.{Header as BadHeader, Line, State, Count, LabelLong, NotUtf8, TooManyStates, TooManyMoves, Memory as NoMemory}
use Rattle.aut_text.specs.declared.load.AutLoad.{AutLoad}
use Rattle.aut_text.specs.declared.load.AutLoad.TheVariants.{Failed, TooLong, Bad, Memory}
use Rattle.aut_text.specs.Faults.{RefusesAut}
use Rattle.aut_text.specs.Shown.{Shows, ShowsNone, IsShownOrMemory}
use Rattle.aut_text.specs.Pieces.{Fed, IsRead, HasRead, HasRoom}
use Rattle.aut_text.specs.Loaded.{IsTooLong, IsMetFirst, IsOfContent, RefusesLoad, IsShownAs, IsRefusedAs, IsPast, load_fault}
use Rattle.aut_text.proofs.PieceLaws.{open_read, shown_more, shown_refuses}
use Rattle.lts_base.specs.declared.limits.TheConstants.{MOST_AUT_BYTES}

pub refused_as : (content : List ℕ) (e : AutError) → RefusesAut content e → IsRefusedAs content (load_fault e)
refused_as content NoMemory why = tt
refused_as content BadHeader why = (λ e. cc, why)
refused_as content (Line n) why = (λ e. cc, why)
refused_as content (State n) why = (λ e. cc, why)
refused_as content (Count declared found) why = (λ e. cc, why)
refused_as content (LabelLong n) why = (λ e. cc, why)
refused_as content (NotUtf8 n) why = (λ e. cc, why)
refused_as content TooManyStates why = (λ e. cc, why)
refused_as content TooManyMoves why = (λ e. cc, why)

pub past_as : (content : List ℕ) (e : AutError) → IsShownOrMemory content e → IsPast content (load_fault e)
past_as content e (inl memory) = rw memory tt
past_as content NoMemory (inr shows) = tt
past_as content BadHeader (inr shows) = shows
past_as content (Line n) (inr shows) = shows
past_as content (State n) (inr shows) = shows
past_as content (Count declared found) (inr shows) = shows
past_as content (LabelLong n) (inr shows) = shows
past_as content (NotUtf8 n) (inr shows) = shows
past_as content TooManyStates (inr shows) = shows
past_as content TooManyMoves (inr shows) = shows

-- bytes taken in two parts
pub Takes-then : (old mid new : List ℕ → Type 0) (xs ys : List ℕ) → Takes old mid xs → Takes mid new ys → Takes old new (xs ++ ys)
Takes-then old mid new xs ys one two taken h = subst new (append_assoc taken xs ys) (two (taken ++ xs) (one taken h))

pub Takes-none : (told : List ℕ → Type 0) → Takes told told []
Takes-none told taken h = rw append-nil h

-- a front of a front is a front
pub take-take : {X : Type 0} (m n : ℕ) (xs : List X) → m ≤ n → take m (take n xs) ≡ take m xs
take-take zero n xs less = refl
take-take (suc m) zero xs less = absurd (omega (arith, less))
take-take (suc m) (suc n) [] less = refl
take-take (suc m) (suc n) (x ∷ xs) less = ap (λ t. x ∷ t) (take-take m n xs (omega (arith, less)))

-- the front of a content that was read
abbrev pub IsFront : Option (List ℕ) → List ℕ → Type 0
IsFront told bytes = IfSome told (λ c. (bytes ≡ take (length bytes) c) × (length bytes ≤ length c))

-- so much of a file was read, and there is no fault in it
pub record IsFedTo (told : Option (List ℕ)) (most : ℕ) (before now : List ℕ → Type 0) (r : Fed) (done : ℕ) : Type 0 where
  pub bytes : List ℕ
  pub count : done ≡ length bytes
  pub short : length bytes ≤ most
  pub front : IsFront told bytes
  pub tapped : Takes before now bytes
  pub going : r.stopped ≡ None
  pub read : HasRead bytes r

pub IsFedTo-none : (told : Option (List ℕ)) (most : ℕ) (before : List ℕ → Type 0) (r : Fed) → (r.stopped ≡ None) × HasRead [] r → IsFedTo told most before before r 0
IsFedTo-none told most before r new = record { bytes = []; count = refl; short = omega arith; front = go told; tapped = Takes-none before; going = new.0; read = new.1 }
  where
    go : (o : Option (List ℕ)) → IsFront o []
    go None = tt
    go (Some c) = (refl, omega arith)

-- there are no more whole lines than bytes
pub fed_room : (bytes piece : List ℕ) (r : Fed) → HasRead bytes r → length bytes + length piece < 2 ^ 32 - 1 → HasRoom r piece
fed_room bytes piece r read few going =
    let now : IsRead bytes r.pieces = open_read bytes r going read in
    let whole : length bytes ≡ length now.whole + length now.line = ap length now.joined ∙ length-append now.whole now.line in
    omega (arith, whole, few, now.stands.number, few_lines now.whole, few_lines piece)

-- the next bytes, m of the n that were given
pub front_next : (told before : Option (List ℕ)) (bytes buf : List ℕ) (at m n : ℕ) → before ≡ told → at ≡ length bytes → m ≤ n → n ≤ length buf → IsFront told bytes → IfSome before (λ c. GivesAt c at n buf) → IsFront told (bytes ++ take m buf)
front_next None before bytes buf at m n same here less within front gives = tt
front_next (Some c) before bytes buf at m n same here less within front gives =
    let given : GivesAt c (length bytes) n buf = rw (same, here) at gives in
    let long : length (bytes ++ take m buf) ≡ length bytes + m = rw (length-append, length-take-le m buf (omega (arith, less, within))) refl in
    let piece : take m buf ≡ take m (drop (length bytes) c) = sym (take-take m n buf less) ∙ ap (take m) given.bytes ∙ take-take m n (drop (length bytes) c) less in
    let joined : bytes ++ take m buf ≡ take (length bytes + m) c = rw (take-add (length bytes) m c, ← front.0, piece) refl in
    rw long (joined, omega (arith, given.within, less))

-- the fault of a front is shown by the first `most` bytes
pub shown_first : (told : Option (List ℕ)) (bytes : List ℕ) (most : ℕ) (e : AutError) → IsFront told bytes → length bytes ≤ most → Shows bytes e → IsOfContent told (λ c. IsMetFirst most c e)
shown_first None bytes most e front short shows = record { content = bytes; has = tt; so = inl (subst (λ (t : List ℕ). Shows t e) (sym (take_all bytes most short)) shows) }
shown_first (Some c) bytes most e front short shows =
    let whole : bytes ++ drop (length bytes) (take most c) ≡ take most c = ap {A = List ℕ} {B = List ℕ} (λ t. t ++ drop (length bytes) (take most c)) (front.0 ∙ sym (take-take (length bytes) most c short)) ∙ take-append-drop (length bytes) (take most c) in
    record { content = c; has = refl; so = inl (subst (λ (t : List ℕ). Shows t e) whole (shown_more bytes (drop (length bytes) (take most c)) e shows)) }

-- a piece that shows a fault stops the reading
pub stopped_by : (old new : ToldFiles) (name : List ℕ) (bytes : List ℕ) (most : ℕ) (load : AutLoad) → IsFront (old.content name) bytes → length bytes ≤ most → IsShownAs bytes load → RefusesLoad old new name most load
stopped_by old new name bytes most (Bad e) front short shows = (shows.0, shown_first (old.content name) bytes most e front short shows)
stopped_by old new name bytes most Memory front short shows = tt
stopped_by old new name bytes most Failed front short shows = absurd shows
stopped_by old new name bytes most TooLong front short shows = absurd shows

-- there are more bytes than were asked for
pub past_by : (old new : ToldFiles) (name : List ℕ) (bytes buf : List ℕ) (most at n : ℕ) (load : AutLoad) (before : Option (List ℕ)) → before ≡ old.content name → at ≡ length bytes → IsFront (old.content name) bytes → length bytes ≤ most → most - at < n → n ≤ length buf →
    IfSome before (λ c. GivesAt c at n buf) → IsPast (bytes ++ take (most - at) buf) load → RefusesLoad old new name most load
past_by old new name bytes buf most at n load before same here front short more within gives past = go load past
  where
    next : IsFront (old.content name) (bytes ++ take (most - at) buf)
    next = front_next (old.content name) before bytes buf at (most - at) n same here (omega (arith, more)) within front gives

    long : length (bytes ++ take (most - at) buf) ≡ most
    long = rw (length-append, length-take-le (most - at) buf (omega (arith, more, within))) (omega (arith, short, here))

    longer : (told : Option (List ℕ)) → before ≡ told → IsFront told (bytes ++ take (most - at) buf) → ShowsNone (bytes ++ take (most - at) buf) → IsOfContent told (IsTooLong most)
    longer None is first none =
        let all : most ≡ length bytes + (most - at) = omega (arith, short, here) in
        let first_is : take most (bytes ++ take n buf) ≡ bytes ++ take (most - at) buf =
        ap {A = ℕ} {B = List ℕ} (λ k. take k (bytes ++ take n buf)) all ∙ take-append-add bytes (take n buf) (most - at) ∙ ap {A = List ℕ} {B = List ℕ} (λ t. bytes ++ t) (take-take (most - at) n buf (omega (arith, more))) in
        record { content = bytes ++ take n buf; has = tt; so = (rw (length-append, length-take-le n buf within) (omega (arith, more, here)), subst ShowsNone (sym first_is) none) }
    longer (Some c) is first none =
        let given : GivesAt c at n buf = rw is at gives in
        let first_is : bytes ++ take (most - at) buf ≡ take most c = first.0 ∙ ap {A = ℕ} {B = List ℕ} (λ k. take k c) long in
        record { content = c; has = refl; so = (omega (arith, given.within, more, short, here), subst ShowsNone first_is none) }

    go : (load : AutLoad) → IsPast (bytes ++ take (most - at) buf) load → RefusesLoad old new name most load
    go TooLong none = longer (old.content name) same next none
    go (Bad e) shows = (shows.0, shown_first (old.content name) (bytes ++ take (most - at) buf) most e next (omega (arith, long)) shows)
    go Memory past = tt
    go Failed past = absurd past

-- all bytes were read
pub whole_front : (told before : Option (List ℕ)) (bytes buf : List ℕ) (at : ℕ) → before ≡ told → at ≡ length bytes → IsFront told bytes → IfSome before (λ c. GivesAt c at 0 buf) → IfSome told (λ c. bytes ≡ c)
whole_front None before bytes buf at same here front gives = tt
whole_front (Some c) before bytes buf at same here front gives =
    let given : GivesAt c (length bytes) 0 buf = rw (same, here) at gives in
    let all : length bytes ≡ length c = elim (cases_lt (length bytes) (length c)) [
      | inl less ↦ absurd (omega (arith, given.some less))
      | inr more ↦ omega (arith, more, front.1)
    ] in
    front.0 ∙ ap {A = ℕ} {B = List ℕ} (λ k. take k c) all ∙ take-length c

pub ended_by : (old new : ToldFiles) (name : List ℕ) (bytes : List ℕ) (most : ℕ) (load : AutLoad) → IfSome (old.content name) (λ c. bytes ≡ c) → length bytes ≤ most → IsRefusedAs bytes load → RefusesLoad old new name most load
ended_by old new name bytes most (Bad e) whole short why = (why.0, record { content = bytes; has = whole; so = inr (short, why.1) })
ended_by old new name bytes most Memory whole short why = tt
ended_by old new name bytes most Failed whole short why = absurd why
ended_by old new name bytes most TooLong whole short why = absurd why

-- a piece more was read
pub IsFedTo-step : (told given : Option (List ℕ)) (most : ℕ) (before now next : List ℕ → Type 0) (r s : Fed) (done count : ℕ) (buf : List ℕ) → (fed : IsFedTo told most before now r done) → given ≡ told → count ≤ length buf → count ≤ most - done →
    IfSome given (λ c. GivesAt c done count buf) → Takes now next (take count buf) → (s.stopped ≡ None) × HasRead (fed.bytes ++ take count buf) s → IsFedTo told most before next s (done + count)
IsFedTo-step told given most before now next r s done count buf fed same within fits gives taps ok =
    let long : length (fed.bytes ++ take count buf) ≡ length fed.bytes + count = rw (length-append, length-take-le count buf within) refl in
    record {
      bytes = fed.bytes ++ take count buf;
      count = rw long (omega (arith, fed.count));
      short = rw long (omega (arith, fed.count, fed.short, fits));
      front = front_next told given fed.bytes buf done count count same fed.count (omega arith) within fed.front gives;
      tapped = Takes-then before now next fed.bytes (take count buf) fed.tapped taps;
      going = ok.0;
      read = ok.1;
    }

-- a piece more shows a fault
pub fed_fault : (old new : ToldFiles) (name : List ℕ) (given : Option (List ℕ)) (most : ℕ) (before now : List ℕ → Type 0) (r : Fed) (done count : ℕ) (buf : List ℕ) (load : AutLoad) → (fed : IsFedTo (old.content name) most before now r done) → given ≡ old.content name → count ≤ length buf → count ≤ most - done →
    IfSome given (λ c. GivesAt c done count buf) → IsShownAs (fed.bytes ++ take count buf) load → RefusesLoad old new name most load
fed_fault old new name given most before now r done count buf load fed same within fits gives shows =
    stopped_by old new name (fed.bytes ++ take count buf) most load (front_next (old.content name) given fed.bytes buf done count count same fed.count (omega arith) within fed.front gives)
    (rw (length-append, length-take-le count buf within) (omega (arith, fed.count, fed.short, fits))) shows

-- there is room for the lines of a piece, since these are no more than the bytes
pub piece_room : (bytes buf : List ℕ) (m most : ℕ) (r : Fed) → HasRead bytes r → m ≤ length buf → length bytes + m ≤ most → most ≤ MOST_AUT_BYTES → HasRoom r (take m buf)
piece_room bytes buf m most r read within fits few = fed_room bytes (take m buf) r read (rw (length-take-le m buf within) (omega (arith, fits, few)))

-- a fault that is met first is the content's
pub met_refuses : (most : ℕ) (content : List ℕ) (e : AutError) → IsMetFirst most content e → RefusesAut content e
met_refuses most content e (inl shows) = shown_refuses content e (subst (λ (t : List ℕ). Shows t e) (take-append-drop most content) (shown_more (take most content) (drop most content) e shows))
met_refuses most content e (inr (short, why)) = why

-- where there are bytes too many no fault is met before
pub long_met : (most : ℕ) (content : List ℕ) (e : AutError) → IsTooLong most content → ¬ IsMetFirst most content e
long_met most content e (long, none) (inl shows) = none e shows
long_met most content e (long, none) (inr (short, why)) = omega (arith, short, long)
