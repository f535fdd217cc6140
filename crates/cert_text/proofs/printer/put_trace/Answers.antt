use Rattle.std.proofs.Common.{map, length}
use Rattle.cert_text.specs.Printed.{trace_line, after_line, shows_line, end_line}
use Rattle.cert_text.proofs.PrintLaws.{items_lines, trace_put}
use Rattle.cert_text.proofs.printer.put_trace.Goals as goal

pub returns : goal.returns
returns c = trace_put _ _ _ _ _ trace_line (shows_line c.args.labels.now.texts c.args.shown) (end_line (length c.args.trace.now)) (map (after_line c.args.labels.now.texts) c.args.trace.now)
    c.in_ok-put_line.ensures (rw (items_lines c.args.labels.now.texts c.args.trace.now) at c.in_ok-put_items.ensures) c.in_ok-put_item.ensures c.in_ok-put_end.ensures
