-- The laws, for every history.
use Rattle.replay_forces.proofs.TextLaws.{text_shown, wave_shown}
use Rattle.replay_forces.proofs.laws.forces_show_the_text.Goals as goal

pub returns-clause-values : goal.returns-clause-values
returns-clause-values c = λ design order stim binding values events replayed shown fits bound are is shows. text_shown design order stim binding values events replayed shown fits bound are is shows

pub returns-clause-wave : goal.returns-clause-wave
returns-clause-wave c = λ w binding events replayed shown fits bound finished are is shows. wave_shown w binding events replayed shown fits bound finished are is shows
