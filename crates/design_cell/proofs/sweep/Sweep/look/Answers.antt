-- A row that takes part, or not.
use Rattle.std.proofs.Common.{◌≡◌, ◌∙◌, true, false, sym, arith}
use Rattle.design_cell.proofs.sweep.Sweep.look.Goals as goal

pub returns-then-takes_part : goal.returns-then-takes_part
returns-then-takes_part c = record {
  long = omega arith;
  absent = λ e. absurd (let g : true ≡ false = sym c.if-takes_part.true ∙ c.takes_part.ensures ∙ e in cc);
  present = λ e. (c.taken-taken.result, c.taken-taken.ensures, c.meets-hit.ensures, c.mark.ensures.marks);
}
