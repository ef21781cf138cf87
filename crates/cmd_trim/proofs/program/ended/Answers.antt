-- A line of the set was run; or the words are none, or memory ran out before they were known.
use Rattle.std.proofs.Common.{map, refl}
use Rattle.std.specs.Prelude.{string_bytes}
use Rattle.base_run.specs.Ends.{RanWords}
use Rattle.cmd_trim.proofs.program.ended.Goals as goal

pub returns-in-Ok-Some : goal.returns-in-Ok-Some
returns-in-Ok-Some g c =
    let means = rw c.in-Ok-Some.field-0-is at c.in-Ok-Some.ensures.set in c.run_words.ensures (map string_bytes c.args.words.now) means

pub returns-in-Ok-None : goal.returns-in-Ok-None
returns-in-Ok-None g c =
    let outside = rw c.in-Ok-None.field-0-is at c.in-Ok-None.ensures.none in RanWords.ends_outside outside refl c.refuse_words.ensures

pub returns-in-Err : goal.returns-in-Err
returns-in-Err g c = RanWords.ends_without_words refl c.refuse_memory.ensures
