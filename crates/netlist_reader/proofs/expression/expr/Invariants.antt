-- The run over an expression goes on from the parts so far; the open braces are bounded by what was read.
use Rattle.std.proofs.Common.{◌≡◌, ◌+◌, ◌≤◌, ◌<◌, length}
use Rattle.netlist_grammar.specs.Machine.{goes, Context}
use Rattle.netlist_grammar.specs.Machine.State.{expr_start, expr, after_part}
use Rattle.netlist_reader.proofs.expression.expr.Given as goal

abbrev pub invariant-parts : goal.invariant-parts
invariant-parts l = record {
  reads : (k : Context) → goes (expr_start k) l.fn.tokens ≡ goes (expr k l.at l.depth l.parts.items) l.tokens;
  fits : l.depth + length l.tokens.tokens ≤ length l.fn.tokens.tokens;
}

abbrev pub decreases-parts : goal.decreases-parts
decreases-parts l = length l.tokens.tokens

abbrev pub invariant-opens : goal.invariant-opens
invariant-opens l = record {
  reads : (k : Context) → goes (expr_start k) l.fn.tokens ≡ goes (expr k l.at l.depth l.parts.items) l.tokens;
  fits : l.depth + length l.tokens.tokens ≤ length l.fn.tokens.tokens;
  shortens : length l.tokens.tokens ≤ length l.initial.tokens.tokens;
}

abbrev pub decreases-opens : goal.decreases-opens
decreases-opens l = length l.tokens.tokens

abbrev pub invariant-closes : goal.invariant-closes
invariant-closes l = record {
  reads : (k : Context) → goes (expr_start k) l.fn.tokens ≡ goes (after_part k l.at l.depth l.parts.items) l.tokens;
  fits : l.depth + length l.tokens.tokens < length l.fn.tokens.tokens;
  shortens : length l.tokens.tokens ≤ length l.initial.tokens.tokens;
}

abbrev pub decreases-closes : goal.decreases-closes
decreases-closes l = l.depth
