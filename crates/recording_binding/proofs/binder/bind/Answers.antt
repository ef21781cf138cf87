-- The binding, field by field.
use Rattle.std.proofs.Common.{◌≡◌, List, true, length, All, sym, ap, subst, ◌∙◌, arith}
use Rattle.recording_reader.specs.Recording.{IsRecording}
use Rattle.recording_binding.specs.Bounds.{bounds_of}
use Rattle.recording_binding.specs.Holding.{FitsHeld}
use Rattle.recording_binding.specs.Refusal.{AllBound, NoneDiffers}
use Rattle.recording_binding.specs.Telling.{Under, has_scope}
use Rattle.recording_binding.specs.declared.binding.Bound.{Bound}
use Rattle.recording_binding.proofs.TellLemmas.{IsGood, all_good, few_below}
use Rattle.recording_binding.proofs.binder.bind.Goals as goal

pub check_inputs-requires-clause-fits : goal.check_inputs-requires-clause-fits
check_inputs-requires-clause-fits c =
    let d = c.args.design.now in
    let s = c.args.scope.now in
    let r = c.args.recording.now in
    let bound = c.in_ok-bound.bound.items in
    let same : bound ≡ bounds_of d s r = c.in_ok-bound.ensures.bound ∙ ap (λ (u : Under). bounds_of u.design u.scope u.recording) c.in_ok-matcher.ensures in
    let is : IsRecording r = subst (λ (u : Under). IsRecording u.recording) c.in_ok-matcher.ensures c.bind_variables.ensures.recording in
    let good : All (IsGood d r) bound = all_good d s r bound is same in
    subst (λ (l : List Bound). All (FitsHeld d) l) (sym c.as_slice.ensures.value) (λ k x within. (good k x within).held)

pub returns-clause-bound : goal.returns-clause-bound
returns-clause-bound c =
    let d = c.args.design.now in
    let s = c.args.scope.now in
    let r = c.args.recording.now in
    let bound = c.in_ok-bound.bound.items in
    let same : bound ≡ bounds_of d s r = c.in_ok-bound.ensures.bound ∙ ap (λ (u : Under). bounds_of u.design u.scope u.recording) c.in_ok-matcher.ensures in
    let there : has_scope s r.scopes ≡ true = ap (λ (u : Under). has_scope u.scope u.recording.scopes) (sym c.in_ok-matcher.ensures) ∙ sym c.has_scope.ensures ∙ c.if-not-has_scope.false in
    let none : NoneDiffers d s r (length r.variables) = subst (λ (u : Under). NoneDiffers u.design u.scope u.recording (length u.recording.variables)) c.in_ok-matcher.ensures c.in_ok-bound.ensures.none in
    record {
      matches = record { there = there; none = none };
      bound = c.from_vec.ensures ∙ same;
      inputs = subst (λ (l : List Bound). AllBound d l (length d.nets)) (c.as_slice.ensures.value ∙ same) c.in_ok-check_inputs.ensures.all;
      places = c.in_ok-check_places.ensures.few;
      timescale = c.in_ok-timescale.ensures;
    }

pub returns-clause-fits : goal.returns-clause-fits
returns-clause-fits c =
    let d = c.args.design.now in
    let s = c.args.scope.now in
    let r = c.args.recording.now in
    let bound = c.from_vec.result in
    let same : bound ≡ bounds_of d s r = c.from_vec.ensures ∙ c.in_ok-bound.ensures.bound ∙ ap (λ (u : Under). bounds_of u.design u.scope u.recording) c.in_ok-matcher.ensures in
    let is : IsRecording r = subst (λ (u : Under). IsRecording u.recording) c.in_ok-matcher.ensures c.bind_variables.ensures.recording in
    let good : All (IsGood d r) bound = all_good d s r bound is same in
    let long = few_below d s r (length r.variables) in
    let e = ap (λ (l : List Bound). length l) same in
    let few = is.few_variables in
    record { each = λ k x within. (good k x within).fits; few = omega (arith, e, long, few) }

pub returns-clause-variables : goal.returns-clause-variables
returns-clause-variables c =
    let d = c.args.design.now in
    let s = c.args.scope.now in
    let r = c.args.recording.now in
    let bound = c.from_vec.result in
    let same : bound ≡ bounds_of d s r = c.from_vec.ensures ∙ c.in_ok-bound.ensures.bound ∙ ap (λ (u : Under). bounds_of u.design u.scope u.recording) c.in_ok-matcher.ensures in
    let is : IsRecording r = subst (λ (u : Under). IsRecording u.recording) c.in_ok-matcher.ensures c.bind_variables.ensures.recording in
    let good : All (IsGood d r) bound = all_good d s r bound is same in
    λ k x within. (good k x within).of
