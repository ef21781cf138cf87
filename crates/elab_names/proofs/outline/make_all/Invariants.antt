-- What is left decides.
use Rattle.std.proofs.Common.{◌≡◌, drop}
use Rattle.elab_names.specs.Outline.{all_made, declares_in}
use Rattle.elab_names.proofs.outline.make_all.Given as goal

abbrev pub invariant-makers : goal.invariant-makers
invariant-makers l = all_made l.prefix (declares_in l.makers) l.fn.nets ≡ all_made l.prefix (declares_in (drop l.declare-index l.makers)) l.nets
