-- What a walk over the places of a job comes to.
use Rattle.std.specs.Prelude.{◌≡◌, ℕ, ◌<◌, List, length}
use Rattle.design_cell.specs.declared.value.Value.{Value}
use Rattle.design_circuit.specs.declared.waveform.Written.{Written}
use Rattle.design_circuit.specs.Job.{places_of}
use Rattle.law_model.specs.Laws.{IsSameAt}
use Rattle.law_model.specs.Sound.{IsDecided, Sound}
use Rattle.law_model.specs.declared.line.Line.{Line as ALine}
use Rattle.law_model.specs.declared.limits.Limits.{Limits}
use Rattle.wave_proved.specs.Advance.{Contradicts, IsPlain, Reports, plain_written}
use Rattle.wave_proved.specs.Contents.{Contents, IsWave, job, next_seen, shown_in}
use Rattle.wave_proved.specs.Token.{HasNext, IsLineNext, LineHolds, written_by_line}
use Rattle.wave_proved.specs.declared.advance.Optimistic.{Optimistic}

-- A wave with other contents of the same job: what is written and its lines differ alone.
pub record IsOfJob (start c : Contents) : Type 0 where
  pub design : c.design ≡ start.design
  pub order : c.order ≡ start.order
  pub stim : c.stim ≡ start.stim
  pub history : c.history ≡ start.history
  pub limits : c.limits ≡ start.limits

-- What the next place is found to be: what its class says, or, at a Line place, what a line says whose body holds.
pub data IsFoundNext (c : Contents) : Written → Type 0 where
  by_class : IsPlain (next_seen c) → IsFoundNext c (plain_written c)
  by_line : (line : ALine) → IsLineNext c → LineHolds c line → IsFoundNext c (written_by_line c line)

-- A place that the history knows is found otherwise, over a sound wave of the job up to it.
pub record IsObjection (start : Contents) (optimistic : Optimistic) : Type 0 where
  pub before : Contents
  pub same : IsOfJob start before
  pub wave : IsWave before
  pub next : HasNext before
  pub written : Written
  pub found : IsFoundNext before written
  pub contradicts : Contradicts before written
  pub reports : Reports before written optimistic

-- Where no place is undecided, every sound waveform of the whole job without undecided places is this one, whatever its
-- limit is; and one that is sound for another history has the same marks and the same certain values.
pub record IsOnlyOne (c : Contents) : Type 0 where
  pub same : IsDecided c.written → (limits : Limits) (other : List Written) (lines : List ALine)
      → length other ≡ places_of (job c) → Sound (job c) limits (shown_in c) other lines → IsDecided other
      → other ≡ c.written
  pub alike : IsDecided c.written → (limits : Limits) (shown : ℕ → Value) (other : List Written) (lines : List ALine)
      → length other ≡ places_of (job c) → Sound (job c) limits shown other lines → IsDecided other
      → (place : ℕ) → place < length other → IsSameAt other c.written place
