-- A place that the test passes is listed, and the replay has it.
use Rattle.std.proofs.Common.{◌∙◌, sym, subst}
use Rattle.std.specs.Prelude.{OnOk}
use Rattle.design_circuit.specs.History.{HistoryView}
use Rattle.report_audit.specs.Found.{Adds, listed_if}
use Rattle.report_audit.specs.Listed.{IsAudit, is_listed}
use Rattle.report_audit.proofs.AddedPlaces.{skipped_added}
use Rattle.report_audit.proofs.SeenPlaces.{listed_as, row_has}
use Rattle.report_audit.proofs.audit.add_seen.Goals as goal

pub shown-requires : goal.shown-requires
shown-requires c = row_has c.args.wave.now c.args.row.now c.args.place c.args.written c.requires

pub add_listed-requires-clause-audit : goal.add_listed-requires-clause-audit
add_listed-requires-clause-audit c =
    subst (λ (h : HistoryView). IsAudit c.args.wave.now h) (sym c.history.ensures) c.requires.audit

pub add_listed-requires-clause-step : goal.add_listed-requires-clause-step
add_listed-requires-clause-step c = c.requires.within.step

pub add_listed-requires-clause-net : goal.add_listed-requires-clause-net
add_listed-requires-clause-net c = c.requires.within.net

pub returns-then-lists : goal.returns-then-lists
returns-then-lists c =
    let wave = c.args.wave.now in
    let place = c.args.place in
    let adds : HistoryView → Type 0 = λ h. OnOk c.add_listed.result
    (Adds wave h c.args.listed.now.items (listed_if (is_listed wave h place) place) c.add_listed.new.listed.items) in
    subst adds c.history.ensures c.add_listed.ensures

pub returns-else-lists : goal.returns-else-lists
returns-else-lists c =
    let wave = c.args.wave.now in
    let row = c.args.row.now in
    let place = c.args.place in
    skipped_added wave row.history (is_listed wave row.history place) place c.args.listed.now.items
    (sym (listed_as wave row place c.args.written c.shown.result c.requires c.shown.ensures) ∙ sym c.lists.ensures
    ∙ c.if-lists.false)
