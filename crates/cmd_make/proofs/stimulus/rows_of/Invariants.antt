-- The rows of the moments so far, and the state after their inputs.
use Rattle.std.proofs.Common.{◌≡◌, ℕ, ◌<◌, [], length, slice_index_or}
use Rattle.recording_binding.specs.StimOf.{IsRow}
use Rattle.cmd_make.specs.Netlist.{after_netlist}
use Rattle.cmd_make.specs.Stimulus.{before_moment, made_value}
use Rattle.cmd_make.proofs.stimulus.rows_of.Given as goal

abbrev pub invariant-moments : goal.invariant-moments
invariant-moments l = record {
  state : l.draws.state ≡ before_moment (after_netlist l.number l.gates) l.moment;
  many : length l.rows.items ≡ l.moment;
  rows : (moment : ℕ) → moment < l.moment → IsRow l.design (made_value l.number l.gates moment) (slice_index_or l.rows.items moment []);
}
