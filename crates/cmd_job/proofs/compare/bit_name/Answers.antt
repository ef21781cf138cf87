-- The net of a bit of a bound variable is the design's.
use Rattle.std.proofs.Common.{rules, ◌≡◌, ◌==◌, Some}
use Rattle.std.specs.Prelude.{find}
use Rattle.recording_binding.specs.declared.binding.Bound.{Bound}
use Rattle.cmd_job.proofs.Comparing.{found_net}
use Rattle.cmd_job.proofs.compare.bit_name.Goals as goal

pub name_of-requires : goal.name_of-requires
name_of-requires c =
    let recorded = c.args.recorded.now in
    let netlist = c.args.netlist.now in
    let found : find (λ (b : Bound). b.variable == c.args.variable) recorded.binding.bound ≡ Some c.in-Some.bound.now = search rules in
    let net = found_net netlist.design recorded.binding c.args.variable c.args.bit c.in-Some.bound.now c.requires.binding found c.requires.bit in
    rw c.as_slice-in-Some.ensures net

pub bounds-as_slice-bit : goal.bounds-as_slice-bit
bounds-as_slice-bit c =
    let recorded = c.args.recorded.now in
    let found : find (λ (b : Bound). b.variable == c.args.variable) recorded.binding.bound ≡ Some c.in-Some.bound.now = search rules in
    rw c.as_slice-in-Some.ensures (rw found at c.requires.bit)
