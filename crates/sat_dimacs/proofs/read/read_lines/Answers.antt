-- One line more.
use Rattle.std.proofs.Common.{rules, ◌∙◌}
use Rattle.sat_dimacs.specs.Lines.{words_from}
use Rattle.sat_dimacs.specs.Machine.{reach}
use Rattle.sat_dimacs.proofs.ReachLaws.{line_counted, line_reached, line_refused}
use Rattle.sat_dimacs.proofs.read.read_lines.Goals as goal

pub returns-in_err-progress-in-Some-clause-reads : goal.returns-in_err-progress-in-Some-clause-reads
returns-in_err-progress-in-Some-clause-reads c =
    let refused =
    line_refused c.args.kind c.lines.progress (reach c.args.start (words_from c.args.kind c.args.lines.now.number c.args.lines.now.lines))
    c.lines.lines c.next.new.self c.number-number.result c.in-Some.line.now c.in_err-progress-in-Some.field-0.0
    c.lines.invariant.reads c.number-number.ensures c.in-Some.ensures.line c.in_err-progress-in-Some.ensures in
    search rules

pub lines-preserved : goal.lines-preserved
lines-preserved c = record {
  reads =
      c.lines.invariant.reads
      ∙ line_reached c.args.kind c.lines.progress c.lines.lines c.next.new.self c.number-number.result c.in-Some.line.now _
      c.number-number.ensures c.in-Some.ensures.line c.in_ok-progress-in-Some.ensures;
  number = line_counted c.lines.lines c.next.new.self _ c.in-Some.line.now c.in-Some.ensures.line c.lines.invariant.number;
}
