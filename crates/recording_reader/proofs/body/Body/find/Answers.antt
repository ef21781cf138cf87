-- Each declared code has its track.
use Rattle.std.proofs.Common.{◌∙◌, length, sym, ap}
use Rattle.recording_reader.specs.Changes.{Body}
use Rattle.recording_reader.proofs.Found.{within_same}
use Rattle.recording_reader.proofs.body.Body.find.Goals as goal

pub returns-clause-within : goal.returns-clause-within
returns-clause-within c = within_same _ _ _ (sym c.self.invariant.known ∙ ap (λ (b : Body). length b.tracks) c.self.view_is) c.find.ensures.within
