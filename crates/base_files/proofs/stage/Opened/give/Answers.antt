-- The next bytes of the text are what the buffer begins with.
use Rattle.std.proofs.lemmas.List.{take_rest}
use Rattle.base_files.proofs.Gives.{given_next}
use Rattle.base_files.proofs.stage.Opened.give.Goals as goal

pub returns-clause-bytes : goal.returns-clause-bytes
returns-clause-bytes c = given_next c.args.text.now _ c.args.buffer.now c.give-count.new.buffer c.args.self.now.done c.min-done.result c.give-count.result c.min-done.ensures (take_rest c.args.text.now c.min-done.result) c.give-count.ensures.count c.give-count.ensures.filled
