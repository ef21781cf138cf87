-- A change that failed leaves a body.
use Rattle.std.proofs.Common.{◌∙◌, arith}
use Rattle.recording_reader.proofs.body.Body.change.Goals as goal

pub invariant_of-self : goal.invariant_of-self
invariant_of-self c = record {
  known = c.in_err-add.ensures.codes ∙ c.self.invariant.known;
  few = c.self.invariant.few;
  ascending = c.self.invariant.ascending;
  moments = omega (arith, c.in_err-add.ensures.moment, c.saturating_sub-moment.ensures, c.len.ensures, c.self.inside.times.ok.0);
}
