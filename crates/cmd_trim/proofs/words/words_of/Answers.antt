-- Lists that aren't in order are none that the words give.
use Rattle.std.proofs.Common.{map}
use Rattle.std.specs.Prelude.{string_bytes}
use Rattle.base_line.specs.Read.{value_of}
use Rattle.cmd_trim.specs.Words.{text_in}
use Rattle.cmd_trim.proofs.Lines.{no_lists}
use Rattle.cmd_trim.proofs.words.words_of.Goals as goal

pub returns-then-not-are_lists-clause-none : goal.returns-then-not-are_lists-clause-none
returns-then-not-are_lists-clause-none c =
    no_lists (value_of c.args.line.now) (text_in c.get-stubs.result) (text_in c.get-supplies.result) c.get-stubs.ensures c.get-supplies.ensures
    c.are_lists.result c.are_lists.ensures c.if-not-are_lists.true (map string_bytes c.args.files.now)
