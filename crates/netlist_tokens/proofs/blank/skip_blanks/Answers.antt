-- After a blank the same is told, and `wire` leads to the same.
use Rattle.std.proofs.Common.{◌∙◌, arith}
use Rattle.netlist_tokens.specs.Scan.{rest}
use Rattle.netlist_tokens.proofs.Told.{left_blank}
use Rattle.netlist_tokens.proofs.Wires.{wire_blank}
use Rattle.netlist_tokens.proofs.blank.skip_blanks.Goals as goal

pub blanks-preserved : goal.blanks-preserved
blanks-preserved c =
    let here = c.blanks.invariant in
    let behind = rest c.in-Some.end c.in-Some.after.now in
    let found = c.in-Some.ensures.reads in
    record {
      tells = here.tells ∙ left_blank c.blanks.at c.blanks.rest.now behind found;
      wire = here.wire ∙ wire_blank c.blanks.at c.blanks.rest.now behind found;
      fits = omega (arith, c.in-Some.ensures.fits);
      onward = omega (arith, c.in-Some.ensures.onward);
    }
