use Rattle.cert_text.proofs.tracing.read_tracing.Goals as goal

pub returns-in-Some : goal.returns-in-Some
returns-in-Some c imp spec = rw c.in-Some.ensures (c.add_item.ensures imp spec)

pub returns-in-Some-after_word : goal.returns-in-Some-after_word
returns-in-Some-after_word c imp spec = rw c.in-Some-after_word.ensures (c.add_shown.ensures imp spec)
