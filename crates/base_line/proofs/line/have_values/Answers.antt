-- The FILEs are values.
use Rattle.std.proofs.Common.{codes}
use Rattle.std.specs.Prelude.{option_map}
use Rattle.clap.specs.Words.{found_of, matched_of, raw_values}
use Rattle.base_line.proofs.Settling.{values_tell}
use Rattle.base_line.proofs.line.have_values.Goals as goal

pub returns-in-Some : goal.returns-in-Some
returns-in-Some c =
    values_tell c.in-Some.files.now c.are_values.result (option_map raw_values (matched_of (found_of c.args.matches.now) (codes "FILE"))) c.in-Some.ensures c.are_values.ensures
