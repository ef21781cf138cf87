-- The table and the map find what the list does.
use Rattle.std.proofs.Common.{◌≡◌, List, Some, length, sym, ap, arith}
use Rattle.recording_codes.specs.Code.{Code}
use Rattle.recording_codes.specs.Slots.{number_of}
use Rattle.recording_codes.proofs.Numbers.{told_of, find_none, number_within}
use Rattle.recording_codes.proofs.Tables.{told}
use Rattle.recording_codes.proofs.codes.Codes.find.Goals as goal

pub returns-in-None : goal.returns-in-None
returns-in-None c = sym (find_none 0 c.args.self.now c.args.text.now (sym (told _ _ _ c.self.inside.columns _ _ _ c.as_slice.ensures.value c.self.view_is c.self.invariant c.in-None.ensures)))

pub mark-mark-requires : goal.mark-mark-requires
mark-mark-requires c =
    let at : Some c.in-Some.number ≡ number_of c.args.self.now c.args.text.now = told _ _ _ c.self.inside.columns _ _ _ c.as_slice.ensures.value c.self.view_is c.self.invariant c.in-Some.ensures in
    omega (arith, number_within c.args.self.now c.args.text.now _ at, ap (λ (cs : List Code). length cs) c.self.view_is)

pub returns : goal.returns
returns c =
    let at : Some c.in-Some.number ≡ number_of c.args.self.now c.args.text.now = told _ _ _ c.self.inside.columns _ _ _ c.as_slice.ensures.value c.self.view_is c.self.invariant c.in-Some.ensures in
    sym (told_of c.args.self.now c.args.text.now c.in-Some.number _ _ _ at (λ d. rw (← c.self.view_is) (c.mark-mark.ensures.width d)) (λ d. rw (← c.self.view_is) (c.mark-mark.ensures.skipped d)) (λ d. rw (← c.self.view_is) (c.mark-mark.ensures.listed d)))
