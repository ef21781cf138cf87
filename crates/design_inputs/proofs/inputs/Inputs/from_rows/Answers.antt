-- The rows after the first are as wide as it.
use Rattle.std.proofs.Common.{◌≡◌, length, rules}
use Rattle.design_inputs.specs.Rows.{moment_row}
use Rattle.design_inputs.proofs.RowLemmas.{rest_even}
use Rattle.design_inputs.proofs.inputs.Inputs.from_rows.Goals as goal

pub add_rows-requires : goal.add_rows-requires
add_rows-requires c =
    let width : length c.set_row.new.self.row ≡ length (moment_row c.args.rows.now 0) = search rules in
    rest_even c.args.rows.now (length c.set_row.new.self.row) width c.requires.even
