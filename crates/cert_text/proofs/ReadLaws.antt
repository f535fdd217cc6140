-- How far a certificate has been read.
use Rattle.std.proofs.Common.{◌≡◌, ◌∙◌, ℕ, ◌+◌, ◌<◌, ◌≤◌, List, [], ◌∷◌, ◌++◌, length, map, All, Result, Ok, Err, MatchResult, inl, inr, refl, sym, ap, subst, arith}
use Rattle.std.proofs.lemmas.List.{append-nil, append_assoc, map-append, length_push}
use Rattle.std.proofs.lemmas.List.Elements.{All-nil, All-push}
use Rattle.std.proofs.lemmas.Grind.{flat_map-append}
use Rattle.lts_base.specs.declared.item.Mode.{Mode}
use Rattle.lts_base.specs.Alphabet.{Alphabet}
use Rattle.text_scan.specs.Cut.{Lacks, IsCut}
use Rattle.text_scan.specs.Lines.{lines_of}
use Rattle.text_scan.proofs.LineLaws.{lines_of-cut}
use Rattle.cert_text.specs.declared.cert.Cert.{Cert}
use Rattle.cert_text.specs.declared.error.CertError.{CertError}
use Rattle.cert_text.specs.declared.error.CertError.TheVariants.{Line, Cut, UnknownLabel, StateRange, Memory}
use Rattle.cert_text.specs.declared.stage.Stage.{Stage}
use Rattle.cert_text.specs.declared.stage.Stage.TheVariants.{Opening, Titled, Moded, Pairing, Tracing, Showing, Ended}
use Rattle.trace_text.specs.Items.{IsItem}
use Rattle.cert_text.specs.Printed.{title_line, mode_line, relation_line, left_line, right_line, pair_line, after_line, shows_line, end_line, relation_lines, lines_at, with_ends, printed}
use Rattle.cert_text.specs.Certificate.{IsStates, IsPair, IsStage, IsCertOf}
use Rattle.cert_text.specs.Faults.{IsFaultOf, IsRestFault, IsBegun, IsFirstFault, RefusesCert}
use Rattle.cert_text.specs.Adding.{Adds, Finishes}

-- the lines with a left list more
left_grows : (ls rs : List (List ℕ)) (ps : List (ℕ × ℕ)) (x : List ℕ) → rs ≡ [] → ps ≡ [] →
    map left_line (ls ++ x ∷ []) ++ (map right_line rs ++ map pair_line ps) ≡ (map left_line ls ++ (map right_line rs ++ map pair_line ps)) ++ left_line x ∷ []
left_grows ls rs ps x no_right no_pairs = rw (no_right, no_pairs, map-append left_line ls (x ∷ []), append-nil (map left_line ls), append-nil (map left_line ls ++ left_line x ∷ [])) refl

-- the lines with a right list more
right_grows : (ls rs : List (List ℕ)) (ps : List (ℕ × ℕ)) (x : List ℕ) → ps ≡ [] →
    map left_line ls ++ (map right_line (rs ++ x ∷ []) ++ map pair_line ps) ≡ (map left_line ls ++ (map right_line rs ++ map pair_line ps)) ++ right_line x ∷ []
right_grows ls rs ps x no_pairs = rw (no_pairs, map-append right_line rs (x ∷ []), append-nil (map right_line rs), append-nil (map right_line rs ++ right_line x ∷ [])) (sym (append_assoc (map left_line ls) (map right_line rs) (right_line x ∷ [])))

-- the lines with a pair more
pair_grows : (ls rs : List (List ℕ)) (ps : List (ℕ × ℕ)) (x : ℕ × ℕ) →
    map left_line ls ++ (map right_line rs ++ map pair_line (ps ++ x ∷ [])) ≡ (map left_line ls ++ (map right_line rs ++ map pair_line ps)) ++ pair_line x ∷ []
pair_grows ls rs ps x = rw (map-append pair_line ps (x ∷ []), append_assoc (map left_line ls) (map right_line rs ++ map pair_line ps) (pair_line x ∷ []), append_assoc (map right_line rs) (map pair_line ps) (pair_line x ∷ [])) refl

-- three lines and more
opened : Mode → List ℕ → List (List ℕ) → List (List ℕ)
opened mode kind lines = title_line ∷ mode_line mode ∷ kind ∷ lines

-- what a line adds is one line more
pub Adds-grows : (a : Alphabet) (imp spec : ℕ) (stage : Stage) (line : List ℕ) (next : Stage) → Adds a imp spec stage line next → lines_at a.texts next ≡ lines_at a.texts stage ++ line ∷ []
unfolding opened
Adds-grows a imp spec Opening line next (e, is) = rw (is, e) refl
Adds-grows a imp spec Titled line next (mode, e, is) = rw (is, e) refl
Adds-grows a imp spec (Moded mode) line next (inl (e, is)) = rw (is, e) refl
Adds-grows a imp spec (Moded mode) line next (inr (e, is)) = rw (is, e) refl
Adds-grows a imp spec (Pairing mode r) line next (inl h) =
    ap (lines_at a.texts) h.next_is ∙ ap (opened mode relation_line) (left_grows r.left r.right r.pairs h.states h.no_right h.no_pairs) ∙
    ap {A = List ℕ} {B = List (List ℕ)} (λ t. opened mode relation_line (relation_lines r) ++ t ∷ []) (sym (h.line_is ∙ ap {A = List ℕ} {B = List ℕ} (λ t. 108 ∷ 101 ∷ 102 ∷ 116 ∷ t) h.list.list.spelled))
Adds-grows a imp spec (Pairing mode r) line next (inr (inl h)) =
    ap (lines_at a.texts) h.next_is ∙ ap (opened mode relation_line) (right_grows r.left r.right r.pairs h.states h.no_pairs) ∙
    ap {A = List ℕ} {B = List (List ℕ)} (λ t. opened mode relation_line (relation_lines r) ++ t ∷ []) (sym (h.line_is ∙ ap {A = List ℕ} {B = List ℕ} (λ t. 114 ∷ 105 ∷ 103 ∷ 104 ∷ 116 ∷ t) h.list.list.spelled))
Adds-grows a imp spec (Pairing mode r) line next (inr (inr (inl h))) =
    ap (lines_at a.texts) h.next_is ∙ ap (opened mode relation_line) (pair_grows r.left r.right r.pairs h.pair) ∙
    ap {A = List ℕ} {B = List (List ℕ)} (λ t. opened mode relation_line (relation_lines r) ++ t ∷ []) (sym h.line_is)
Adds-grows a imp spec (Pairing mode r) line next (inr (inr (inr (e, is)))) = rw (is, e) refl
Adds-grows a imp spec (Tracing mode σ) line next (inl (x, item, e, is)) = rw (is, e, map-append (after_line a.texts) σ (x ∷ [])) refl
Adds-grows a imp spec (Tracing mode σ) line next (inr (x, item, e, is)) = rw (is, e) refl
Adds-grows a imp spec (Showing mode σ x) line next (e, is) = rw (is, e, append_assoc (map (after_line a.texts) σ) (shows_line a.texts x ∷ []) (end_line (length σ) ∷ [])) refl
Adds-grows a imp spec (Ended cert) line next h = absurd h

-- each pair names lists of longer lists too
named_more : (ls rs ms ns : List (List ℕ)) (ps : List (ℕ × ℕ)) → length ls ≤ length ms → length rs ≤ length ns → All (IsPair ls rs) ps → All (IsPair ms ns) ps
named_more ls rs ms ns ps one two named k d below = let is : IsPair ls rs _ = named k d below in (omega (arith, is.0, one), omega (arith, is.1, two))

-- what a line adds to a beginning gives a beginning
pub Adds-sound : (a : Alphabet) (imp spec : ℕ) (stage : Stage) (line : List ℕ) (next : Stage) → IsStage a imp spec stage → Adds a imp spec stage line next → IsStage a imp spec next
Adds-sound a imp spec Opening line next sound (e, is) = rw is tt
Adds-sound a imp spec Titled line next sound (mode, e, is) = rw is tt
Adds-sound a imp spec (Moded mode) line next sound (inl (e, is)) = rw is (record { lefts = All-nil IsStates; rights = All-nil IsStates; named = All-nil (IsPair [] []) }, All-nil (All (λ q. q < imp)), All-nil (All (λ q. q < spec)))
Adds-sound a imp spec (Moded mode) line next sound (inr (e, is)) = rw is (All-nil (IsItem a))
Adds-sound a imp spec (Pairing mode r) line next sound (inl h) = rw (h.next_is) (
  record {
    lefts = All-push IsStates r.left h.states sound.0.lefts h.list.sound;
    rights = sound.0.rights;
    named = named_more r.left r.right (r.left ++ h.states ∷ []) r.right r.pairs (rw (length_push r.left h.states) (omega arith)) (omega arith) sound.0.named;
  },
  All-push (All (λ q. q < imp)) r.left h.states sound.1 h.list.list.below,
  sound.2,
)
Adds-sound a imp spec (Pairing mode r) line next sound (inr (inl h)) = rw (h.next_is) (
  record {
    lefts = sound.0.lefts;
    rights = All-push IsStates r.right h.states sound.0.rights h.list.sound;
    named = named_more r.left r.right r.left (r.right ++ h.states ∷ []) r.pairs (omega arith) (rw (length_push r.right h.states) (omega arith)) sound.0.named;
  },
  sound.1,
  All-push (All (λ q. q < spec)) r.right h.states sound.2 h.list.list.below,
)
Adds-sound a imp spec (Pairing mode r) line next sound (inr (inr (inl h))) = rw (h.next_is) (
  record {
    lefts = sound.0.lefts;
    rights = sound.0.rights;
    named = All-push (IsPair r.left r.right) r.pairs h.pair sound.0.named h.named;
  },
  sound.1,
  sound.2,
)
Adds-sound a imp spec (Pairing mode r) line next sound (inr (inr (inr (e, is)))) = rw is (sound.0, (sound.1, sound.2))
Adds-sound a imp spec (Tracing mode σ) line next sound (inl (x, item, e, is)) = rw is (All-push (IsItem a) σ x sound item)
Adds-sound a imp spec (Tracing mode σ) line next sound (inr (x, item, e, is)) = rw is (sound, item)
Adds-sound a imp spec (Showing mode σ x) line next sound (e, is) = rw is (sound, tt)
Adds-sound a imp spec (Ended cert) line next sound h = absurd h

-- the lines before the rest, of which there are so many, are those of the stage
pub record IsReading (a : Alphabet) (imp spec : ℕ) (content : List ℕ) (stage : Stage) (rest : List ℕ) (number : ℕ) : Type 0 where
  pub begun : IsBegun a imp spec content stage rest
  pub lines : lines_of content ≡ lines_at a.texts stage ++ lines_of rest
  pub count : number ≡ length (lines_at a.texts stage)

-- one line more
pub IsReading-step : (a : Alphabet) (imp spec : ℕ) (content : List ℕ) (stage next : Stage) (rest line after : List ℕ) (number : ℕ) → IsReading a imp spec content stage rest number → IsCut 10 rest line after → Adds a imp spec stage line next →
    IsReading a imp spec content next after (number + 1)
IsReading-step a imp spec content stage next rest line after number reading cut adds = record {
  begun = record { sound = Adds-sound a imp spec stage line next reading.begun.sound adds; whole = reading.begun.whole ∙ ap {A = List ℕ} {B = List ℕ} (λ t. with_ends (lines_at a.texts stage) ++ t) cut.whole ∙ joined };
  lines = reading.lines ∙ ap {A = List (List ℕ)} {B = List (List ℕ)} (λ t. lines_at a.texts stage ++ t) (lines_of-cut rest line after cut) ∙ rw grows (sym (append_assoc (lines_at a.texts stage) (line ∷ []) (lines_of after)));
  count = rw (grows, length_push (lines_at a.texts stage) line) (ap {A = ℕ} {B = ℕ} (λ n. n + 1) reading.count);
}
  where
    grows : lines_at a.texts next ≡ lines_at a.texts stage ++ line ∷ []
    grows = Adds-grows a imp spec stage line next adds

    joined : with_ends (lines_at a.texts stage) ++ (line ++ 10 ∷ after) ≡ with_ends (lines_at a.texts next) ++ after
    joined = rw (grows) (go (lines_at a.texts stage))
      where
        go : (ls : List (List ℕ)) → with_ends ls ++ (line ++ 10 ∷ after) ≡ with_ends (ls ++ line ∷ []) ++ after
        go ls = simp (flat_map-append, append_assoc, append-nil)

-- a first fault is why a content is refused
refuse : (a : Alphabet) (imp spec : ℕ) (content : List ℕ) (e : CertError) → IsFirstFault a imp spec content e → RefusesCert a imp spec content e
refuse a imp spec content (Line n) fault = fault
refuse a imp spec content (Cut n) fault = fault
refuse a imp spec content (UnknownLabel n) fault = fault
refuse a imp spec content (StateRange n) fault = fault
refuse a imp spec content Memory fault = tt

-- the first line at fault
pub IsReading-fault : (a : Alphabet) (imp spec : ℕ) (content : List ℕ) (stage : Stage) (rest line after : List ℕ) (number : ℕ) (e : CertError) → IsReading a imp spec content stage rest number → IsCut 10 rest line after → IsFaultOf a imp spec stage line (number + 1) e →
    RefusesCert a imp spec content e
IsReading-fault a imp spec content stage rest line after number e reading cut fault = refuse a imp spec content e (record {
  stage = stage;
  rest = rest;
  begun = reading.begun;
  fault = inl (line, after, cut, subst (λ (n : ℕ). IsFaultOf a imp spec stage line (n + 1) e) reading.count fault);
})

-- the rest without a whole line
pub IsReading-end : (a : Alphabet) (imp spec : ℕ) (content : List ℕ) (stage : Stage) (rest : List ℕ) (number : ℕ) (result : Result Cert CertError) → IsReading a imp spec content stage rest number → Lacks 10 rest → Finishes stage rest (number + 1) result →
    MatchResult result (IsCertOf a imp spec content) (RefusesCert a imp spec content)
IsReading-end a imp spec content stage rest number (Ok cert) reading free ends =
    let sound : IsStage a imp spec (Ended cert) = subst (IsStage a imp spec) ends.0 reading.begun.sound in
    record {
      text = reading.begun.whole ∙ ap {A = Stage} {B = List ℕ} (λ s. with_ends (lines_at a.texts s) ++ rest) ends.0 ∙ ap {A = List ℕ} {B = List ℕ} (λ t. printed a.texts cert ++ t) ends.1 ∙ append-nil (printed a.texts cert);
      sound = sound.0;
      within = sound.1;
    }
IsReading-end a imp spec content stage rest number (Err e) reading free ends = refuse a imp spec content e (record {
  stage = stage;
  rest = rest;
  begun = reading.begun;
  fault = inr (free, subst (λ (n : ℕ). IsRestFault stage rest (n + 1) e) reading.count ends);
})
