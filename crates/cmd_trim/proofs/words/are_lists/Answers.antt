-- Each list has names alone, and supplies come with stubs.
use Rattle.cmd_trim.specs.Words.{text_in}
use Rattle.cmd_trim.proofs.Cutting.{lists_are}
use Rattle.cmd_trim.proofs.words.are_lists.Goals as goal

pub returns : goal.returns
returns c =
    lists_are (text_in c.args.stubs) (text_in c.args.supplies) c.are_names.result c.are_names-2.result c.is_used.result c.all_three.result
    c.are_names.ensures c.are_names-2.ensures c.is_used.ensures c.all_three.ensures
