-- The word takes the bits.
use Rattle.design_cell.proofs.Lookups.{word_marked}
use Rattle.design_cell.proofs.taken.mark_word.Goals as goal

pub returns-clause-marks : goal.returns-clause-marks
returns-clause-marks c = λ p b. word_marked c.args.seen.now c.args.place c.args.low p b c.requires
