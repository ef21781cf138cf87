-- Time in code: a wait moves on, to a later time or to the next round of the same moment.
use Rattle.std.specs.Prelude.{ℕ, ◌/◌, ◌%◌, ◌^◌, ◌==◌, Option, None, nat_lt, slice_index, if◌then◌else◌}
use Rattle.std.specs.List.{position}
use Rattle.design_circuit.specs.declared.stim.Stim.{Stim}
use Rattle.replay_code.specs.declared.clock.Clock.{Clock}

abbrev pub clock_of : ℕ → ℕ → Clock
clock_of time round = record { time = time; round = round }

-- Code starts at time 0, at round 0.
abbrev pub start : Clock
start = clock_of 0 0

-- the clock at a step
abbrev pub clock_at : Stim → ℕ → Clock
clock_at stim step = clock_of (slice_index stim.times (step / stim.rounds)) (step % stim.rounds)

-- the moment at a time
abbrev pub moment_at : Stim → ℕ → Option ℕ
moment_at stim time = position (λ at. at == time) stim.times

-- Times are numbers of 64 bits: one of 2^64 or more is no moment's.
abbrev pub moment_by : Stim → ℕ → Option ℕ
moment_by stim time = if nat_lt time (2 ^ 64) then moment_at stim time else None
