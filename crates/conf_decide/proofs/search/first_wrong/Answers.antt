use Rattle.std.proofs.lemmas.Bool.{iff_false}
use Rattle.conf_decide.proofs.WrongLaws.{item_imp, fine_more, wrong_here}
use Rattle.conf_decide.proofs.search.first_wrong.Goals.{then-shows+else-not-shows, else-shows}
use Rattle.conf_decide.proofs.search.first_wrong.Goals as goal

pub shows-requires-clause-item : goal.shows-requires-clause-item
shows-requires-clause-item g c = item_imp _ _ _ _ c.requires.setting c.item_at-item.ensures.item

pub returns-then-not-shows : goal.returns-then-not-shows
returns-then-not-shows g c =
    wrong_here c.args.setting (g.A.Walk.walked c.args.imp.now) (g.B.Walk.walked c.args.spec.now) c.args.left c.args.right _ _ _
    c.requires.setting c.item_at-item.ensures.place c.next_label-next.ensures (c.shows.ensures.0 c.if-shows.true) (iff_false c.shows-then-shows.ensures c.if-not-shows.true) c.items.invariant.1

pub items-preserved : goal.items-preserved
items-preserved g c =
    elim c.if-shows.branch [
      | then-shows+else-not-shows w ↦
          fine_more c.args.setting (g.A.Walk.walked c.args.imp.now) (g.B.Walk.walked c.args.spec.now) c.args.left c.args.right _ _ _
          c.requires.setting c.item_at-item.ensures.item c.item_at-item.ensures.place c.next_label-next.ensures (λ h. w.shows-then-shows.ensures.0 w.if-not-shows.false) c.items.invariant.1
      | else-shows w ↦
          fine_more c.args.setting (g.A.Walk.walked c.args.imp.now) (g.B.Walk.walked c.args.spec.now) c.args.left c.args.right _ _ _
          c.requires.setting c.item_at-item.ensures.item c.item_at-item.ensures.place c.next_label-next.ensures (λ h. absurd (iff_false c.shows.ensures w.if-shows.false h)) c.items.invariant.1
    ]
