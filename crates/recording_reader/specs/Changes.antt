-- What the changes say.
use Rattle.std.specs.Prelude.{◌≡◌, ℕ, ◌-◌, List, [], ◌∷◌, ◌++◌, length, map, cond, ◌==◌, ◌<◌, ◌≤◌, ◌^◌, nat_le, nat_lt}
use Rattle.std.specs.Prelude.{Option, Some, None, Result, Ok, Err, slice_index, replicate}
use Rattle.std.specs.List.Sorted.{IsStrictlyIncreasing}
use Rattle.recording_changes.specs.Held.{Change, History, change, track_of, with_change}
use Rattle.recording_reader.specs.Bytes.{is_code, rest_of, front_of}
use Rattle.recording_reader.specs.Declarations.{Declarations}
use Rattle.recording_reader.specs.Recording.{Recording}
use Rattle.recording_reader.specs.Words.{Word}
use Rattle.recording_codes.specs.Code.{find}
use Rattle.recording_codes.specs.declared.codes.Found.{Found}
use Rattle.recording_reader.specs.declared.refusal.VcdErr.{VcdErr}
use Rattle.recording_reader.specs.declared.refusal.VcdErr.TheVariants.{Syntax, UnknownCode, TimeBack, Width}

-- The declarations, the times of the moments so far, and the changes of each code.
pub record Body : Type 0 where
  pub declared : Declarations
  pub times : List ℕ
  pub tracks : List (List Change)

-- After the declarations there is no moment and no change.
abbrev pub start : Declarations → Body
start h = record { declared = h; times = []; tracks = replicate (length h.codes) [] }

-- Changes before the first time belong to time 0, and with no time at all there is one moment, at time 0.
abbrev pub times_or : List ℕ → List ℕ
times_or [] = 0 ∷ []
times_or (t ∷ ts) = t ∷ ts

abbrev pub with_moment : Body → Body
with_moment b = record b { times = times_or b.times }

-- A change is in the last moment, or in the first where there is none yet.
abbrev pub changed : Body → ℕ → List ℕ → Body
changed b number digits = record {
  declared = b.declared;
  times = times_or b.times;
  tracks = with_change b.tracks number
      (change (length b.times - 1) digits);
}

abbrev pub last_time : Body → ℕ
last_time b = slice_index b.times (length b.times - 1)

abbrev pub with_time : Body → ℕ → Body
with_time b time = record b { times = b.times ++ time ∷ [] }

-- A time: the first one, one that isn't before the last, or the same, which is the same moment.
abbrev pub time_on : Option ℕ → Body → ℕ → Result Body VcdErr
time_on None b at = Err (Syntax at)
time_on (Some time) b at =
    cond (length b.times == 0) (Ok (with_time b time))
    (cond (nat_lt time (last_time b)) (Err (TimeBack at))
    (cond (time == last_time b) (Ok b) (Ok (with_time b time))))

-- the fault of a code that isn't declared, at this place
abbrev pub undeclared : List ℕ → ℕ → VcdErr
undeclared t at = cond (is_code t) (UnknownCode at) (Syntax at)

-- A digit and a code in one word: a change of the variables that are listed.
abbrev pub scalar_on : Option Found → Body → Word → Result Body VcdErr
scalar_on None b t = Err (undeclared (rest_of t.text) t.at)
scalar_on (Some found) b t = cond found.listed (Ok (changed b found.number (front_of t.text))) (Ok b)

-- Digits, whose word stands at this place, and a code that no skipped variable has.
abbrev pub vector_on : Option Found → Body → ℕ → List ℕ → Word → Result Body VcdErr
vector_on None b at digits t = Err (undeclared t.text t.at)
vector_on (Some found) b at digits t =
    cond found.skipped (Err (Syntax at))
    (cond (nat_le (length digits) found.width) (Ok (changed b found.number digits)) (Err (Width at)))

-- A real number, whose word stands at this place, and a code that some skipped variable has: nothing changes.
abbrev pub real_on : Option Found → Body → ℕ → Word → Result Body VcdErr
real_on None b at t = Err (undeclared t.text t.at)
real_on (Some found) b at t = cond found.skipped (Ok b) (Err (Syntax at))

-- The same with the code looked up.
abbrev pub scalar_in : Body → Word → Result Body VcdErr
scalar_in b t = scalar_on (find b.declared.codes (rest_of t.text)) b t

abbrev pub vector_in : Body → ℕ → List ℕ → Word → Result Body VcdErr
vector_in b at digits t = vector_on (find b.declared.codes t.text) b at digits t

abbrev pub real_in : Body → ℕ → Word → Result Body VcdErr
real_in b at t = real_on (find b.declared.codes t.text) b at t

-- What declarations, times and the changes of each code say.
abbrev pub recorded : Declarations → List ℕ → List (List Change) → Recording
recorded h times tracks = record {
  timescale = h.timescale;
  scopes = h.scopes;
  variables = h.variables;
  times = times;
  changes = map (track_of tracks) h.numbers;
}

-- What stands in the text so far, and what the whole text says, where it ends here.
abbrev pub recorded_so_far : Body → Recording
recorded_so_far b = recorded b.declared b.times b.tracks

abbrev pub recording_of : Body → Recording
recording_of b = recorded_so_far (with_moment b)

-- How a body is stored: each code has its changes, the last change is in no moment after the last, times ascend, and
-- there are fewer than 2^28 moments.
pub record IsBody (declared : Declarations) (times : List ℕ) (stored : History) : Type 0 where
  pub known : length stored.tracks ≡ length declared.codes
  pub moments : stored.moment ≤ length times - 1
  pub ascending : IsStrictlyIncreasing times
  pub few : length times < 2 ^ 28
