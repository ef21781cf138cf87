-- A number that isn't read is too large.
use Rattle.base_line.proofs.Numbers.{unread}
use Rattle.base_line.proofs.values.number_in.Goals as goal

pub returns-then-are_digits-clause-none : goal.returns-then-are_digits-clause-none
returns-then-are_digits-clause-none c = unread c.args.text.now c.parse.result c.ok.result c.ok.ensures.value c.parse.ensures.value.0
