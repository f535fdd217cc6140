use Rattle.std.proofs.Common.{map, string_bytes}
use Rattle.sim_serve.proofs.WordLaws.{asks_four, four_items}
use Rattle.sim_serve.proofs.words.read_request.Goals as goal

pub returns-in-len4 : goal.returns-in-len4
returns-in-len4 c =
    asks_four (map string_bytes c.args.words.now) _ _ _ _ c.read_four.result
    (four_items string_bytes c.args.words.now _ _ _ _ c.in-len4.len_at_least c.in-len4.len_below c.imp-item.is c.address-item.is c.number-item.is c.sessions-item.is)
    (rw (c.as_str.ensures.value, c.as_str-in-len4.ensures.value, c.as_bytes.ensures.value, c.as_bytes-in-len4.ensures.value) at c.read_four.ensures)
