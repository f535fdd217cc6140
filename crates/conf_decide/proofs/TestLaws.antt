-- Laws of the test of a new pair, of the opening pair, and of the end of a search.
use Rattle.std.proofs.Common.{ℕ, ◌+◌, ◌<◌, ◌≤◌, ◌≡◌, List, [], ◌∷◌, ◌++◌, length, take, refl, sym, ap, ◌∙◌, inl, inr, arith}
use Rattle.std.specs.Prelude.{All}
use Rattle.std.proofs.lemmas.Bool.{cases_lt}
use Rattle.std.proofs.lemmas.List.{length_push, get_or_push}
use Rattle.lts_base.specs.declared.item.Item.{Item}
use Rattle.lts_base.specs.declared.item.Mode.{Mode}
use Rattle.lts_base.specs.System.{System, label_count}
use Rattle.lts_base.specs.After.{IsSetAfter}
use Rattle.lts_base.specs.Reached.{Row, row_at, trace_at, IsReachedBy, IsFine, Limits, IsWithin}
use Rattle.lts_base.specs.Related.{row_of}
use Rattle.lts_base.proofs.SetLaws.{ShowsAfter-from_shows, Shows-from_after}
use Rattle.walk_core.specs.Walked.{Walked, set_at, IsFresh}
use Rattle.conf_decide.specs.declared.table.Found.{Found}
use Rattle.conf_decide.specs.declared.answer.Answer.TheVariants.{Violates, Undecided}
use Rattle.conf_decide.specs.declared.answer.What.TheVariants.{Pairs}
use Rattle.conf_decide.specs.Decided.{limits_of, left_members, right_members, last_trace, IsDecided}
use Rattle.conf_decide.specs.Table.{no_found, nodes_of, AreEdges, rows_in}
use Rattle.conf_decide.specs.Progress.{IsInLists, IsRun, IsUntested, IsFirstWrong}
use Rattle.conf_decide.proofs.SearchLaws.{first_none, search_none, nil_least}
use Rattle.conf_decide.proofs.RunLaws.{row_in_at, rows_length}

module _ (mode : Mode) (limits : Limits) (i s : System) (left right : List (List ℕ)) (found : List Found) (f : Found) (un : IsUntested mode limits i s left right (found ++ f ∷ [])) where
  abbrev rows : List Row
  rows = rows_in left right (found ++ f ∷ [])

  count : length (found ++ f ∷ []) ≡ length found + 1
  count = length_push found f

  newest_below : length found < length (found ++ f ∷ [])
  newest_below = rw count (omega arith)

  rows_count : length rows ≡ length found + 1
  rows_count = rows_length left right (found ++ f ∷ []) ∙ count

  row_is : row_at rows (length found) ≡ row_of left right (nodes_of f)
  row_is = row_in_at left right (found ++ f ∷ []) (length found) newest_below ∙ ap (λ (g : Found). row_of left right (nodes_of g)) (get_or_push found f no_found (length found) refl)

  last_is : last_trace un.traces ≡ trace_at un.traces (length found)
  last_is = ap (trace_at un.traces) (omega (arith, un.first.long, rows_count))

  reached : IsReachedBy mode i s (last_trace un.traces) (row_of left right (nodes_of f))
  reached = rw (last_is, ← row_is) (un.first.least (length found) (rw rows_count (omega arith))).reached

  depth_is : f.depth ≡ length (last_trace un.traces)
  depth_is = rw last_is (ap (λ (g : Found). g.depth) (sym (get_or_push found f no_found (length found) refl)) ∙ un.edges.depth (length found) newest_below)

  pub pairs_cut : (depth : ℕ) → f.depth ≡ depth → limits.pairs < length (found ++ f ∷ []) → IsDecided mode limits i s (Undecided Pairs limits.pairs depth)
  pairs_cut depth e over = (
    rows,
    un.traces,
    record {
      first = un.first;
      before = λ k below. un.before k (rw (rows_length left right (found ++ f ∷ [])) at below);
      past = (un.imp, un.spec, rw (rows_length left right (found ++ f ∷ [])) over, refl);
      fine = un.fine;
      cut = sym e ∙ depth_is;
    },
  )

  pub violates : (trace : List Item) (x : Item) (number : ℕ) → IsFirstWrong i s (row_of left right (nodes_of f)) x → length (found ++ f ∷ []) ≤ limits.pairs → number ≡ length found →
      ((traces : List (List Item)) → AreEdges (found ++ f ∷ []) traces → trace ≡ trace_at traces number) → IsDecided mode limits i s (Violates trace x)
  violates trace x number wrong few at_last reads =
      let same : last_trace un.traces ≡ trace = last_is ∙ ap (trace_at un.traces) (sym at_last) ∙ sym (reads un.traces un.edges) in
      let by = reached in (
        rw (← same) (record {
          violation = record {
            allowed = by.allowed;
            shown = ShowsAfter-from_shows i (last_trace un.traces) _ x by.left wrong.shown;
            unshown = λ shows. wrong.unshown (Shows-from_after s (last_trace un.traces) _ x by.right shows);
          };
          trace = un.earlier;
          item = λ y bad. wrong.least y (Shows-from_after i (last_trace un.traces) _ y by.left bad.shown) (λ shows. bad.unshown (ShowsAfter-from_shows s (last_trace un.traces) _ y by.right shows));
        }),
        (
          rows,
          un.traces,
          record {
            first = un.first;
            some = rw rows_count (omega arith);
            within = record { pairs = rw (rows_length left right (found ++ f ∷ [])) few; imp = un.imp; spec = un.spec };
            fine = un.fine;
            last = same;
          },
        ),
      )

-- ---- the opening pair

single : (lists : List (List ℕ)) → length lists ≡ 1 → lists ≡ set_at lists 0 ∷ []
single [] e = absurd (omega (arith, e))
single (x ∷ []) e = refl
single (x ∷ y ∷ ys) e = absurd (omega (arith, e))

module _ (mode : Mode) (most : ℕ) (wi ws : Walked) (f : Found) (imp : IsFresh wi) (spec : IsFresh ws) (left : f.left < length wi.sets) (right : f.right < length ws.sets) (from : f.from ≡ 0) (depth : f.depth ≡ 0) (some : 0 < most) where
  left_zero : f.left ≡ 0
  left_zero = omega (arith, left, imp.alone)

  right_zero : f.right ≡ 0
  right_zero = omega (arith, right, spec.alone)

  abbrev opening : Row
  opening = row_of wi.sets ws.sets (nodes_of f)

  left_opening : IsSetAfter wi.system [] (set_at wi.sets f.left)
  left_opening = rw left_zero imp.opening

  right_opening : IsSetAfter ws.system [] (set_at ws.sets f.right)
  right_opening = rw right_zero spec.opening

  left_alone : wi.sets ≡ set_at wi.sets f.left ∷ []
  left_alone = rw left_zero (single wi.sets imp.alone)

  right_alone : ws.sets ≡ set_at ws.sets f.right ∷ []
  right_alone = rw right_zero (single ws.sets spec.alone)

  edges : AreEdges (f ∷ []) ([] ∷ [])
  edges =
      record {
        long = refl;
        opening = refl;
        earlier = λ k more below. absurd (omega (arith, more, below));
        each = λ k more below. absurd (omega (arith, more, below));
        depth = λ k below. let e : k ≡ 0 = omega (arith, below) in rw e depth;
        short = λ k below. let e : k ≡ 0 = omega (arith, below) in rw (e, depth) (omega arith);
      }

  nodes : All (IsInLists wi.sets ws.sets) (f ∷ [])
  nodes k d below = let e : k ≡ 0 = omega (arith, below) in rw e (left, right)

  members_left : left_members (opening ∷ []) ≤ wi.limit
  members_left = rw left_alone at imp.walk.within

  members_right : right_members (opening ∷ []) ≤ ws.limit
  members_right = rw right_alone at spec.walk.within

  none_within : IsWithin (limits_of most wi ws) []
  none_within = record { pairs = omega arith; imp = omega arith; spec = omega arith }

  within : (k : ℕ) → k ≤ 1 → IsWithin (limits_of most wi ws) (take k (opening ∷ []))
  within k few =
      elim (cases_lt k 1) [
        | inl less ↦ let e : k ≡ 0 = omega (arith, less) in rw e none_within
        | inr one ↦ let e : k ≡ 1 = omega (arith, one, few) in rw e (record { pairs = some; imp = members_left; spec = members_right })
      ]

  pub opening_untested : IsUntested mode (limits_of most wi ws) wi.system ws.system wi.sets ws.sets (f ∷ [])
  opening_untested =
      record {
        traces = [] ∷ [];
        first = first_none mode wi.system ws.system opening left_opening right_opening;
        edges = edges;
        nodes = nodes;
        before = λ k below. within k (omega (arith, below));
        imp = members_left;
        spec = members_right;
        fine = λ k below. absurd (omega (arith, below));
        earlier = λ τ y bad. nil_least (label_count ws.system) τ;
      }

  pub opening_run : IsFine wi.system ws.system (row_of wi.sets ws.sets (nodes_of f)) → IsRun mode (limits_of most wi ws) wi.system ws.system wi.sets ws.sets (f ∷ []) 0 0
  opening_run fine =
      record {
        traces = [] ∷ [];
        search = search_none mode wi.system ws.system opening left_opening right_opening fine;
        edges = edges;
        nodes = nodes;
        left_sets = left_alone;
        right_sets = right_alone;
        within = λ k few. within k (omega (arith, few));
      }

-- ---- counts with one pair more

pub over_push : (most n : ℕ) (found : List Found) (f : Found) → most ≤ n → n ≡ length found → most < length (found ++ f ∷ [])
over_push most n found f h e = rw (length_push found f) (omega (arith, h, e))

pub few_push : (most n : ℕ) (found : List Found) (f : Found) → n < most → n ≡ length found → length (found ++ f ∷ []) ≤ most
few_push most n found f h e = rw (length_push found f) (omega (arith, h, e))
