-- The design with its nets.
use Rattle.std.proofs.Common.{◌≡◌, ◌∙◌, List, ◌++◌, length, take, drop, sym, ap}
use Rattle.design_circuit.specs.declared.design.Net.{Net}
use Rattle.recording_binding.specs.Holding.{held_in}
use Rattle.recording_binding.specs.JobDesign.{nets_where}
use Rattle.recording_binding.proofs.JobDesigns.{nets_long}
use Rattle.recording_binding.proofs.Written.{written}
use Rattle.recording_binding.proofs.job_design.with_inputs.Goals as goal

pub put_inputs-requires : goal.put_inputs-requires
put_inputs-requires c =
    c.requires ∙ sym (ap (λ (l : List Net). length l) (c.as_mut_slice.ensures.value ∙ c.into_vec-nets.ensures))

pub returns : goal.returns
returns c =
    let holder = held_in c.args.holders.now in
    let old = c.into_vec-nets.result.items in
    let new = c.put_inputs.new.nets in
    let made : new ≡ nets_where holder 0 old = c.put_inputs.ensures ∙ ap (nets_where holder 0) c.as_mut_slice.ensures.value in
    let many : length new ≡ length old = ap (λ (l : List Net). length l) made ∙ nets_long holder 0 old in
    let whole : take c.into_vec-nets.result.len (new ++ drop (length new) old) ≡ new = written old new c.into_vec-nets.result.len c.into_vec-nets.result.ok.0 many in
    let nets : c.from_vec.result ≡ nets_where holder 0 c.args.design.nets = c.from_vec.ensures ∙ whole ∙ made ∙ ap (nets_where holder 0) c.into_vec-nets.ensures in
    λ i. record { nets = nets i; udps = c.args.design.udps }
