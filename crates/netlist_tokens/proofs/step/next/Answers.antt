-- After blanks and a directive the same is told.
use Rattle.std.proofs.Common.{sym, ◌∙◌, arith}
use Rattle.netlist_tokens.specs.Scan.{rest}
use Rattle.netlist_tokens.proofs.Told.{left_directive, left_no_directive}
use Rattle.netlist_tokens.proofs.step.next.Goals as goal

pub rest-preserved : goal.rest-preserved
rest-preserved c =
    let blanks = c.skip_blanks.result in
    let begins = sym c.if-not-begins_directive.ensures.value in
    record {
      tells = c.rest.invariant.tells ∙ c.skip_blanks.ensures.tells ∙ left_directive blanks.1 blanks.0.now (rest c.in-Some.end c.in-Some.after.now) begins c.in-Some.ensures.reads;
      fits = omega (arith, c.in-Some.ensures.fits, c.if-not-begins_directive.ensures.some);
    }

pub returns-in-None-clause-tells : goal.returns-in-None-clause-tells
returns-in-None-clause-tells c =
    let blanks = c.skip_blanks.result in
    let begins = sym c.if-not-begins_directive.ensures.value in
    c.rest.invariant.tells ∙ c.skip_blanks.ensures.tells ∙ left_no_directive blanks.1 blanks.0.now begins c.in-None.ensures.reads
