-- The recording is made, and then repaired.
use Rattle.std.proofs.Common.{rules, ◌≡◌, Err}
use Rattle.base_run.specs.Prepared.{answer_of}
use Rattle.cmd_program.specs.Make.{make_values, bytes_in, recorded_made, recording_made}
use Rattle.cmd_program.proofs.Making.{alone_out, alone_then}
use Rattle.cmd_program.proofs.made.with_netlist.Goals as goal

pub returns-in_err-recording-clause-prepared : goal.returns-in_err-recording-clause-prepared
returns-in_err-recording-clause-prepared g c =
    let w = make_values c.args.words.now in
    let e = c.in_err-recording.field-0.0 in
    let is : c.from_residual.result ≡ Err e = search rules in
    rw is (alone_out (recording_made w c.args.netlist) (recorded_made w c.args.netlist) bytes_in answer_of e c.in_err-recording.ensures.prepared)

pub returns-clause-prepared : goal.returns-clause-prepared
returns-clause-prepared g c =
    let w = make_values c.args.words.now in
    alone_then (recording_made w c.args.netlist) (recorded_made w c.args.netlist) bytes_in answer_of
    c.in_ok-recording.recording c.recorded.result c.in_ok-recording.ensures.prepared c.recorded.ensures.prepared
