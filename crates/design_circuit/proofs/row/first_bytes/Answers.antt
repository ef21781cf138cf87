-- A net more has its byte.
use Rattle.std.proofs.Common.{◌∙◌, arith, length-set}
use Rattle.design_circuit.proofs.RowLemmas.{byte_more}
use Rattle.design_circuit.proofs.row.first_bytes.Goals as goal

pub nets-preserved : goal.nets-preserved
nets-preserved c =
    let long = c.nets.invariant.long in
    let nets = c.nets-nets.ensures in
    let less = c.nets-test.true in
    record {
      long = length-set c.nets.bytes.items c.nets.net c.byte.result ∙ long;
      held = byte_more c.args.history.now c.nets.bytes.items c.nets.net c.byte.result (omega (arith, long, nets, less)) c.nets.invariant.held c.byte.ensures;
    }
