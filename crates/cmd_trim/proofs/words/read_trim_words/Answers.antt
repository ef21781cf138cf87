-- Words that are no line of the options are outside of the set.
use Rattle.std.proofs.Common.{map, true, Option, subst}
use Rattle.std.specs.Prelude.{IfNone, string_bytes}
use Rattle.base_line.specs.Line.{IsOutside}
use Rattle.base_line.specs.declared.line.Line.{Line}
use Rattle.cmd_trim.proofs.Lines.{outside_of}
use Rattle.cmd_trim.proofs.words.read_trim_words.Goals as goal

pub returns-in-None-clause-none : goal.returns-in-None-clause-none
returns-in-None-clause-none c =
    let words = map string_bytes c.args.words.now in
    let none = subst (λ (r : Option Line). IfNone r (IsOutside c.options.result.now true words)) c.in-None.is c.in_ok-line.ensures.none in
    outside_of words c.options.result.now c.options.ensures.table none
