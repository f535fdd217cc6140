-- However the bytes are cut into answers, the same is met.
use Rattle.std.proofs.Common.{◌≡◌, ℕ, Bool, List, [], ◌∷◌, ◌++◌, append_assoc}
use Rattle.std.proofs.lemmas.List.{append-nil}
use Rattle.edge_io.specs.declared.act.Heard.{Heard}
use Rattle.edge_io.specs.declared.act.Heard.TheVariants.{Line, Idle, IdleMid, TooLong, End}
use Rattle.edge_io.specs.declared.content.Given.{Given}
use Rattle.edge_io.specs.declared.content.Given.TheVariants.{Bytes as GivenBytes, Idle as GivenIdle, End as GivenEnd}
use Rattle.line_link.specs.Hearing.{Has, Hears, IsMet, IsUnfinished, Waits, joined}

-- what the bytes at hand give is met of them
has_met : (heard : Heard) (bytes text rest : List ℕ) (is_over : Bool) → Has bytes is_over heard text rest → IsMet heard bytes text rest
has_met Line bytes text rest is_over has = has
has_met TooLong bytes text rest is_over has = has
has_met End bytes text rest is_over has = (has.1, has.2)
has_met Idle bytes text rest is_over has = absurd has
has_met IdleMid bytes text rest is_over has = absurd has

-- what an idle read meets is met of the bytes at hand
waits_met : (heard : Heard) (bytes text rest : List ℕ) → IsUnfinished bytes → Waits bytes heard text → rest ≡ bytes → IsMet heard bytes text rest
waits_met Idle bytes text rest part waits same = (waits.0, waits.1, same)
waits_met IdleMid bytes text rest part waits same = (waits.0, (part, waits.1), same)
waits_met Line bytes text rest part waits same = absurd waits
waits_met TooLong bytes text rest part waits same = absurd waits
waits_met End bytes text rest part waits same = absurd waits

-- what is met is met of the joined bytes
pub hears_met : (bytes text rest : List ℕ) (is_over ended : Bool) (answers : List Given) (heard : Heard) → Hears bytes is_over answers heard text rest ended → IsMet heard (bytes ++ joined answers) text rest
hears_met bytes text rest is_over ended [] heard h = rw append-nil (has_met heard bytes text rest is_over h.0)
hears_met bytes text rest is_over ended (GivenBytes more ∷ answers) heard (part, going, h) = rw (← append_assoc) (hears_met (bytes ++ more) text rest _ ended answers heard h)
hears_met bytes text rest is_over ended (GivenIdle ∷ answers) heard (part, going, none, waits, same, open_still) = rw (none, append-nil) (waits_met heard bytes text rest part waits same)
hears_met bytes text rest is_over ended (GivenEnd ∷ answers) heard (part, going, none, is_end, said, same, over) = rw (none, append-nil, is_end) ((part, said), same)
