use Rattle.cert_text.proofs.pairing.read_pairing.Goals as goal

pub returns-in-Some : goal.returns-in-Some
returns-in-Some c a = rw c.in-Some.ensures (c.add_left.ensures a c.args.spec_states)

pub returns-in-Some-after_word : goal.returns-in-Some-after_word
returns-in-Some-after_word c a = rw c.in-Some-after_word.ensures (c.add_right.ensures a c.args.imp_states)

pub returns-in-Some-after_word-2 : goal.returns-in-Some-after_word-2
returns-in-Some-after_word-2 c a = rw c.in-Some-after_word-2.ensures (c.add_pair.ensures a c.args.imp_states c.args.spec_states)

pub returns-in-Some-after_word-3 : goal.returns-in-Some-after_word-3
returns-in-Some-after_word-3 c a = rw c.in-Some-after_word-3.ensures (c.end_relation.ensures a c.args.imp_states c.args.spec_states)
