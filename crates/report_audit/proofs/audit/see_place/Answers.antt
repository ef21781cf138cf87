-- The row has the place, which is counted where it is open.
use Rattle.std.proofs.Common.{ℕ, ◌+◌, ◌∙◌, ap}
use Rattle.report_bits.specs.Counts.{one_if}
use Rattle.report_audit.proofs.SeenPlaces.{open_as, row_has}
use Rattle.report_audit.proofs.audit.see_place.Goals as goal

pub shown-requires : goal.shown-requires
shown-requires c = row_has c.args.wave.now c.args.row.now c.args.place c.args.written c.requires.place

pub returns-clause-unsure : goal.returns-clause-unsure
returns-clause-unsure c =
    ap (λ (n : ℕ). c.args.seen.now.unsure + n) (c.one_if.ensures.one ∙ ap one_if (c.leaves_open.ensures
    ∙ open_as c.args.wave.now c.args.row.now c.args.place c.args.written c.shown.result c.requires.place
    c.shown.ensures))
