use Rattle.std.proofs.Common.{◌≡◌, ◌-◌, ◌≤◌, ◌<◌, IfSome, ℕ, subst, arith, rules}
use Rattle.edge_io.specs.Outside.{GivesAt}
use Rattle.edge_io.proofs.OutsideLaws.{KeepsFiles-none, KeepsFiles-then}
use Rattle.text_scan.proofs.ListingLaws.{refused}
use Rattle.aut_text.proofs.LoadLaws.{IsFedTo-none, IsFedTo-step, whole_front, ended_by, past_by, fed_fault, piece_room}
use Rattle.aut_text.proofs.load.read_pieces.Goals as goal

pub loop-reader-init : goal.loop-reader-init
loop-reader-init g c = record { room = c.requires.buffer; fed = IsFedTo-none _ _ _ _ c.in_ok-reader.ensures; keeps = KeepsFiles-none _ }

pub returns-in_err-raw-clause-read : goal.returns-in_err-raw-clause-read
returns-in_err-raw-clause-read g c =
    let inv = c.loop-reader.invariant in
    let fed = inv.fed in
    let none : c.in_ok-count.count ≡ 0 = search rules in
    let whole = whole_front _ _ fed.bytes c.read_at.new.buf c.loop-reader.done (inv.keeps.contents c.args.name.now) fed.count fed.front
    (subst (λ (n : ℕ). IfSome ((g.F.Files.told c.loop-reader.files).content c.args.name.now) (λ content. GivesAt content c.loop-reader.done n c.read_at.new.buf)) none c.in_ok-count.ensures.bytes) in
    refused _ _ _ _ c.from_residual-in_err-raw.ensures.1 (ended_by (g.F.Files.told c.args.files.now) _ c.args.name.now fed.bytes c.args.most c.in_err-raw.field-0.0 whole fed.short (c.in_err-raw.ensures fed.bytes fed.read))

pub returns-then-count-eq0-clause-read : goal.returns-then-count-eq0-clause-read
returns-then-count-eq0-clause-read g c =
    let inv = c.loop-reader.invariant in
    let fed = inv.fed in
    let none : c.in_ok-count.count ≡ 0 = search rules in
    let whole = whole_front _ _ fed.bytes c.read_at.new.buf c.loop-reader.done (inv.keeps.contents c.args.name.now) fed.count fed.front
    (subst (λ (n : ℕ). IfSome ((g.F.Files.told c.loop-reader.files).content c.args.name.now) (λ content. GivesAt content c.loop-reader.done n c.read_at.new.buf)) none c.in_ok-count.ensures.bytes) in
    record { bytes = fed.bytes; file = c.in_ok-raw.ensures fed.bytes fed.read; short = fed.short; whole = whole; tapped = fed.tapped }

pub past_most-requires : goal.past_most-requires
past_most-requires g c =
    let fed = c.loop-reader.invariant.fed in
    let more : c.args.most - c.loop-reader.done < c.in_ok-count.count = search rules in
    piece_room fed.bytes c.read_at.new.buf (c.args.most - c.loop-reader.done) c.args.most c.loop-reader.reader fed.read (omega (arith, more, c.in_ok-count.ensures.count)) (omega (arith, fed.count, fed.short)) c.requires.most

pub returns-then-most-done-clause-read : goal.returns-then-most-done-clause-read
returns-then-most-done-clause-read g c =
    let inv = c.loop-reader.invariant in
    let fed = inv.fed in
    let more : c.args.most - c.loop-reader.done < c.in_ok-count.count = search rules in
    past_by (g.F.Files.told c.args.files.now) _ c.args.name.now fed.bytes c.read_at.new.buf c.args.most c.loop-reader.done c.in_ok-count.count _ _ (inv.keeps.contents c.args.name.now) fed.count fed.front fed.short more c.in_ok-count.ensures.count c.in_ok-count.ensures.bytes (c.past_most.ensures fed.bytes fed.read)

pub feed-requires : goal.feed-requires
feed-requires g c =
    let fed = c.loop-reader.invariant.fed in
    let fits : c.in_ok-count.count ≤ c.args.most - c.loop-reader.done = search rules in
    piece_room fed.bytes c.read_at.new.buf c.in_ok-count.count c.args.most c.loop-reader.reader fed.read c.in_ok-count.ensures.count (omega (arith, fed.count, fed.short, fits)) c.requires.most

pub returns-in_err-feed-clause-read : goal.returns-in_err-feed-clause-read
returns-in_err-feed-clause-read g c =
    let inv = c.loop-reader.invariant in
    let fed = inv.fed in
    let fits : c.in_ok-count.count ≤ c.args.most - c.loop-reader.done = search rules in
    refused _ _ _ _ c.from_residual-in_err-feed.ensures.1
    (fed_fault (g.F.Files.told c.args.files.now) _ c.args.name.now _ c.args.most _ _ _ c.loop-reader.done c.in_ok-count.count c.read_at.new.buf c.in_err-feed.field-0.0 fed (inv.keeps.contents c.args.name.now) c.in_ok-count.ensures.count fits c.in_ok-count.ensures.bytes (c.in_err-feed.ensures.err fed.bytes fed.read))

pub loop-reader-preserved : goal.loop-reader-preserved
loop-reader-preserved g c =
    let inv = c.loop-reader.invariant in
    let fed = inv.fed in
    let fits : c.in_ok-count.count ≤ c.args.most - c.loop-reader.done = search rules in
    record {
      room = search rules;
      fed = IsFedTo-step _ _ c.args.most _ _ _ _ _ c.loop-reader.done c.in_ok-count.count c.read_at.new.buf fed (inv.keeps.contents c.args.name.now) c.in_ok-count.ensures.count fits c.in_ok-count.ensures.bytes c.take.ensures (c.in_ok-feed.ensures.ok fed.bytes fed.read);
      keeps = KeepsFiles-then inv.keeps c.in_ok-count.ensures.keeps;
    }
