-- Nothing was found, and new cones are right.
use Rattle.std.proofs.Common.{List, ℕ, sym, subst}
use Rattle.wave_proved.specs.Contents.{Contents}
use Rattle.report_blame.specs.Causes.{AreFound}
use Rattle.report_blame.specs.declared.halves.Cause.{Cause}
use Rattle.report_blame.proofs.causes.Causes.new.Goals as goal

pub returns : goal.returns
returns c = λ (w : Contents). record {
  found = subst (λ (entries : List (ℕ × Cause)). AreFound w entries) (sym c.new.ensures.empty) tt;
  right = c.in_ok-new.ensures w;
}
