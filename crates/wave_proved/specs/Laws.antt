-- That there is one wave: what the functions of src/laws.rt ensure.
use Rattle.std.specs.Prelude.{◌≡◌, ℕ, ◌<◌, length}
use Rattle.law_model.specs.Laws.{IsSameAt}
use Rattle.law_model.specs.Sound.{IsDecided}
use Rattle.wave_proved.specs.Contents.{Contents, IsWave, job}

-- Two waves of one job that have as many places written.
pub record AreOfOneJob (c d : Contents) : Type 0 where
  pub first : IsWave c
  pub second : IsWave d
  pub jobs : job c ≡ job d
  pub long : length c.written ≡ length d.written

-- No place of either is undecided.
pub record AreDecided (c d : Contents) : Type 0 where
  pub first : IsDecided c.written
  pub second : IsDecided d.written

-- They have the same values and marks where one history was handed in to both, whatever their lines and limits are.
abbrev pub OneWave : Type 0
OneWave = (c d : Contents) → AreOfOneJob c d → AreDecided c d → c.history ≡ d.history → c.written ≡ d.written

-- Whatever the histories are, they have the same mark and the same certain value at each place.
abbrev pub OneMarked : Type 0
OneMarked = (c d : Contents) → AreOfOneJob c d → AreDecided c d
    → (place : ℕ) → place < length c.written → IsSameAt c.written d.written place

-- Two waves with the same lines are the same, undecided places or not.
abbrev pub OneByLines : Type 0
OneByLines = (c d : Contents) → AreOfOneJob c d → c.history ≡ d.history → c.limits ≡ d.limits → c.lines ≡ d.lines
    → c.written ≡ d.written
