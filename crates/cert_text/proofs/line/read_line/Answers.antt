use Rattle.cert_text.proofs.line.read_line.Goals as goal

pub returns-in-Opening : goal.returns-in-Opening
returns-in-Opening c = rw c.in-Opening.is (c.read_opening.ensures c.args.labels.now c.args.imp_states c.args.spec_states)

pub returns-in-Titled : goal.returns-in-Titled
returns-in-Titled c = rw c.in-Titled.is (c.read_titled.ensures c.args.labels.now c.args.imp_states c.args.spec_states)

pub returns-in-Moded : goal.returns-in-Moded
returns-in-Moded c = rw c.in-Moded.is (c.read_moded.ensures c.args.labels.now c.args.imp_states c.args.spec_states)

pub returns-in-Pairing : goal.returns-in-Pairing
returns-in-Pairing c = rw c.in-Pairing.is (c.read_pairing.ensures c.args.labels.now)

pub returns-in-Tracing : goal.returns-in-Tracing
returns-in-Tracing c = rw c.in-Tracing.is (c.read_tracing.ensures c.args.imp_states c.args.spec_states)

pub returns-in-Showing : goal.returns-in-Showing
returns-in-Showing c = rw c.in-Showing.is (c.read_showing.ensures c.args.labels.now c.args.imp_states c.args.spec_states)
