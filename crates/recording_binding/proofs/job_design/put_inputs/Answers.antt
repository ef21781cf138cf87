-- One net more, and all of them.
use Rattle.std.proofs.Common.{◌∙◌, List, length, ap, arith, length-set}
use Rattle.design_circuit.specs.Design.{no_name}
use Rattle.design_circuit.specs.declared.design.Driver.TheVariants.{Undriven}
use Rattle.design_circuit.specs.declared.design.Net.{Net}
use Rattle.recording_binding.specs.Holding.{held_in}
use Rattle.recording_binding.specs.JobDesign.{net_where}
use Rattle.recording_binding.proofs.JobDesigns.{put_all, put_more}
use Rattle.recording_binding.proofs.job_design.put_inputs.Goals as goal
use Rattle.std.specs.Prelude.{slice_index_or}

none : Net
none = record { path = no_name; driver = Undriven }

pub places-preserved : goal.places-preserved
places-preserved c =
    let nets = c.args.nets.now in
    let old = c.places.nets in
    let n = c.places.place in
    let holder = held_in c.args.holders.now in
    let put = c.put_input.ensures none in
    let many = c.places.invariant.long in
    let test = c.places-test.true in
    let all = c.requires in
    record {
      long = ap (λ (l : List Net). length l) put ∙ length-set old n (net_where (holder n) (slice_index_or old n none)) ∙ many;
      made = put_more holder nets old c.put_input.new.nets n none (omega (arith, test, all)) c.places.invariant.made put;
    }

pub returns : goal.returns
returns c =
    let test = c.places-test.false in
    let all = c.requires in
    put_all (held_in c.args.holders.now) c.args.nets.now c.places.nets c.places.place (omega (arith, test, all)) c.places.invariant.made
