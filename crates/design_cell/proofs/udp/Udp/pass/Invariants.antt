-- The loop of `pass`.
use Rattle.std.proofs.Common.{◌≡◌, ℕ, List}
use Rattle.design_cell.specs.Next.{changed_group, pins_after}
use Rattle.design_cell.specs.Pass.{IsPass}
use Rattle.design_cell.proofs.udp.Udp.pass.Given as goal

abbrev pub invariant-loop-pin : goal.invariant-loop-pin
invariant-loop-pin l = (earlier : List ℕ) → l.initial.pins ≡ pins_after l.old l.new earlier → IsPass l.self l.old l.new earlier (changed_group l.clock l.clocks l.old l.new l.pin) l.fn.from l.pins l.reached
