-- One path for each scope, and the empty one.
use Rattle.std.proofs.Common.{arith, ap, ◌∙◌}
use Rattle.recording_reader.specs.Recording.{Recording}
use Rattle.recording_reader.proofs.Paths.{count_is, outside}
use Rattle.recording_reader.proofs.recording.Recording.scope_count.Goals as goal

pub returns : goal.returns
returns c =
    let is = ap (λ (r : Recording). r.scopes) c.self.view_is in
    let len = c.len.ensures ∙ c.self.inside.scopes.ok.0 in
    record {
      count = count_is _ _ _ is len;
      some = omega arith;
      few = omega (arith, len, c.self.invariant.0.scopes_);
      outside = outside c.self.inside.scopes.items _ is;
    }
