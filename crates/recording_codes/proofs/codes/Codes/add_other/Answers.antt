-- Any other code goes into the map.
use Rattle.std.proofs.Common.{◌∙◌, [], ◌∷◌, ◌++◌, List, sym, subst}
use Rattle.indexmap.proofs.CallerLemmas.{insert_entry-new}
use Rattle.recording_codes.specs.Code.{Code, code}
use Rattle.recording_codes.specs.Slots.{Knows}
use Rattle.recording_codes.proofs.Tables.{Others, knows_other, absent, absent_other}
use Rattle.recording_codes.proofs.codes.Codes.add_other.Goals as goal

pub invariant_of-self-in-Ok : goal.invariant_of-self-in-Ok
invariant_of-self-in-Ok c =
    let none = absent c.self.inside.columns _ c.args.text.now c.self.view_is c.requires.new in
    let free = absent_other c.self.inside.slots.items c.self.inside.others.entries c.self.inside.columns c.args.text.now c.self.invariant c.requires.long none in
    let entries = c.in-Ok.ensures.entries ∙ insert_entry-new _ c.self.inside.others c.args.text c.len-number.result free in
    let P : List Code → Type 0 = λ cs. Knows c.self.inside.slots.items c.insert.new.self.entries cs in
    let Q : Others → Type 0 = λ es. Knows c.self.inside.slots.items es (c.self.inside.columns ++ code c.args.text.now c.args.width c.args.skipped ∷ []) in
    subst P (sym c.in_ok-push.ensures.added) (subst Q (sym entries) (knows_other c.self.inside.slots.items c.self.inside.others.entries c.self.inside.columns c.args.text c.args.width c.args.skipped c.len-number.result c.self.invariant c.requires.long c.len-number.ensures))
