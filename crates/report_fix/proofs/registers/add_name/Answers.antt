-- A new name goes last.
use Rattle.std.proofs.Common.{◌≡◌, ◌∙◌, List, ℕ, None, ap}
use Rattle.indexmap.proofs.CallerLemmas.{insert_entry-new}
use Rattle.report_fix.specs.Registers.{net_at}
use Rattle.report_fix.proofs.NamedRegisters.{absent_of, name_pushed}
use Rattle.report_fix.proofs.registers.add_name.Goals as goal

pub returns-in_ok-insert : goal.returns-in_ok-insert
returns-in_ok-insert c =
    let es = c.args.nets.now.entries in
    let name = c.args.name in
    let found = c.get.ensures.value ∙ ap (λ (l : List ℕ). net_at es l) c.as_slice.ensures.value in
    let absent : net_at es name.items ≡ None =
    absent_of c.get.result (net_at es name.items) c.is_none.result c.is_none.ensures c.if-is_none.true found in
    name_pushed es c.insert.new.self.entries name c.args.net
    (c.in_ok-insert.ensures.entries ∙ insert_entry-new _ c.args.nets.now name c.args.net absent)
