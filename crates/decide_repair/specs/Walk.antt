-- A walk over the places of a job, in pieces.
use Rattle.std.specs.Prelude.{ℕ, ◌-◌, ◌<◌, length}
use Rattle.law_along.specs.Along.{GoesAlong}
use Rattle.decide_cone.specs.Cones.{AreRightOf as ConesAreRight}
use Rattle.design_circuit.specs.Job.{places_of}
use Rattle.wave_proved.specs.Contents.{Contents, IsWave, job, nothing_written}
use Rattle.decide_repair.specs.declared.aids.Aids.{Aids}

-- What callers see of a walk: the wave that it began with, of which nothing is written, and the wave so far.
pub record WalkView : Type 0 where
  pub start : Contents
  pub wave : Contents

-- The wave of a job, a history and a limit of which nothing is written.
abbrev pub start_of : Contents → Contents
start_of c = nothing_written c.design c.order c.stim c.history c.limits

-- How many places the job has, how many of them are written, and how many are left.
abbrev pub all_of : WalkView → ℕ
all_of walk = places_of (job walk.start)

abbrev pub count_of : WalkView → ℕ
count_of walk = length walk.wave.written

abbrev pub left_of : WalkView → ℕ
left_of walk = all_of walk - count_of walk

-- Of a wave and a later one of its job: fewer places are left, where any were.
abbrev pub left_in : Contents → ℕ
left_in c = places_of (job c) - length c.written

abbrev pub HasLessLeft : Contents → Contents → Type 0
HasLessLeft before after = 0 < left_in before → left_in after < left_in before

-- What helps to decide places is right of a wave.
abbrev pub AreRightOf : Contents → Aids → Type 0
AreRightOf c aids = ConesAreRight c aids.cones

-- What is always true of a walk: its wave went along lines from nothing, and what helps is right of it.
pub record IsWalk (c : Contents) (aids : Aids) : Type 0 where
  pub wave : IsWave c
  pub along : GoesAlong (start_of c) c
  pub right : AreRightOf c aids
