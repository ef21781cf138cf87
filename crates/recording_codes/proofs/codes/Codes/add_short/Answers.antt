-- A short code takes its place in the table.
use Rattle.std.proofs.Common.{◌+◌, List, sym, subst, set}
use Rattle.recording_codes.specs.Code.{Code}
use Rattle.recording_codes.specs.Slots.{Knows}
use Rattle.recording_codes.proofs.Tables.{knows_same, knows_short, absent}
use Rattle.recording_codes.proofs.codes.Codes.add_short.Goals as goal

pub invariant_of-self-2 : goal.invariant_of-self-2
invariant_of-self-2 c =
    let knows = knows_same _ _ _ _ c.in_ok-reach.ensures.same c.self.invariant in
    let none = absent c.self.inside.columns _ c.args.text.now c.self.view_is c.requires.new in
    let P : List Code → Type 0 = λ cs. Knows (set c.reach.new.slots.items c.slot_of-slot.result (c.len-number.result + 1)) c.self.inside.others.entries cs in
    subst P (sym c.in_ok-push.ensures.added) (knows_short c.reach.new.slots.items c.self.inside.others.entries c.self.inside.columns c.args.text.now c.args.width c.args.skipped c.slot_of-slot.result c.len-number.result knows c.requires.short c.slot_of-slot.ensures c.in_ok-reach.ensures.there c.len-number.ensures none)
