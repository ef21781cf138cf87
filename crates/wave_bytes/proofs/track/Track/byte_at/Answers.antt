-- The last entry gives the bytes of later steps.
use Rattle.std.proofs.Common.{◌≡◌, ◌<◌, ◌∙◌, List, length, arith, subst, sym}
use Rattle.std.proofs.lemmas.Bool.{eqb-false}
use Rattle.wave_bytes.specs.Track.{byte_at}
use Rattle.wave_bytes.specs.declared.track.Entry.{Entry}
use Rattle.wave_bytes.proofs.Tracks.{byte_of_last}
use Rattle.wave_bytes.proofs.track.Track.byte_at.Goals as goal

pub returns-then-self-step : goal.returns-then-self-step
returns-then-self-step c =
    let entries = c.self.inside.entries.items in
    let some : 0 < length entries =
    (let full = eqb-false (length c.as_slice-entries.result.now) 0 (sym c.is_empty.ensures ∙ c.if-not-is_empty.true) in
    subst (λ (es : List Entry). 0 < length es) c.as_slice-entries.ensures.value (omega (arith, full))) in
    subst (λ (es : List Entry). c.byte_of.result ≡ byte_at es c.args.step) c.self.view_is
    (c.byte_of.ensures ∙ byte_of_last entries c.self.inside.last c.args.step c.self.invariant.ascending some
    (c.self.invariant.last some) c.if-self-step.true)
