use Rattle.log_text.proofs.entry.read_listing.Goals as goal

pub returns-in-Some : goal.returns-in-Some
returns-in-Some c =
    let found = rw c.in-Some.is at c.in_ok-entry.ensures in
    rw found.1 c.add_entry.ensures
