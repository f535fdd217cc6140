use Rattle.std.proofs.Common.{arith}
use Rattle.cert_text.proofs.AddingOnce.{IsSetting}
use Rattle.cert_text.proofs.CertOnce.{cert_only, refuses_only}
use Rattle.cert_text.proofs.reader.read_cert.Goals as goal

pub returns-clause-only : goal.returns-clause-only
returns-clause-only c cert is =
    let set : IsSetting c.args.labels.now c.args.imp_states c.args.spec_states = record { alphabet = c.inputs.ensures.alphabet; imp_small = omega arith; spec_small = omega arith } in
    cert_only _ _ _ _ cert _ set (omega arith) c.read_lines.ensures is

pub returns-clause-fault : goal.returns-clause-fault
returns-clause-fault c e fault other =
    let set : IsSetting c.args.labels.now c.args.imp_states c.args.spec_states = record { alphabet = c.inputs.ensures.alphabet; imp_small = omega arith; spec_small = omega arith } in
    refuses_only _ _ _ _ e _ set (omega arith) c.read_lines.ensures fault other
