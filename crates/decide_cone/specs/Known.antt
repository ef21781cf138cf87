-- What is kept between traces of what places rest on.
use Rattle.std.specs.Prelude.{◌≡◌, ◌⊎◌, ◌%◌, ◌==◌, ◌++◌, ℕ, List, Option, None, Some, slice_index_or, if◌then◌else◌}
use Rattle.design_circuit.specs.declared.waveform.Written.{Written}
use Rattle.wave_proved.specs.Contents.{Contents, IsWave, job}
use Rattle.decide_graph.specs.InWave.{IsBodyIn, IsInReach}
use Rattle.decide_cone.specs.declared.traced.Traced.{Traced}
use Rattle.decide_graph.specs.declared.traced.TracedBody.{TracedBody}

-- What callers see of a tracer: slots, in which places may stand, each with what it rests on.
pub record TracerView : Type 0 where
  pub slots : List (Option Traced)

-- The slot of a place.
abbrev pub slot_of : ℕ → ℕ
slot_of place = place % 262144

-- What a slot has for a place.
abbrev pub body_for : ℕ → Option Traced → Option TracedBody
body_for place None = None
body_for place (Some traced) = if traced.place == place then Some traced.body else None

abbrev pub known_in : List (Option Traced) → ℕ → Option TracedBody
known_in slots place = body_for place (slice_index_or slots (slot_of place) None)

-- What is known of a place, if anything is.
abbrev pub known_of : TracerView → ℕ → Option TracedBody
known_of tracer place = known_in tracer.slots place

abbrev pub KnowsNothing : TracerView → Type 0
KnowsNothing tracer = (place : ℕ) → known_of tracer place ≡ None

-- A place is written, or the next one, and rests on that.
pub record IsKnown (c : Contents) (place : ℕ) (body : TracedBody) : Type 0 where
  pub reach : IsInReach c place
  pub is : IsBodyIn c place body

-- All that is known is right of a wave.
abbrev pub IsRightOf : Contents → TracerView → Type 0
IsRightOf c tracer = (place : ℕ) (body : TracedBody) → known_of tracer place ≡ Some body → IsKnown c place body

-- Places are written after those of a wave, and the job stays.
pub record IsGrown (c d : Contents) : Type 0 where
  pub same : job d ≡ job c
  pub more : List Written
  pub written : d.written ≡ c.written ++ more

-- A tracer that is right of a wave stays so, whatever is written next.
abbrev pub TracersStay : Type 0
TracersStay = (c d : Contents) (tracer : TracerView) → IsWave c → IsGrown c d → IsRightOf c tracer → IsRightOf d tracer

-- Some slots tell the same as others.
abbrev pub IsSameKnown : List (Option Traced) → List (Option Traced) → Type 0
IsSameKnown old new = (place : ℕ) → known_in new place ≡ known_in old place

-- One more place is known, and nothing else that wasn't.
pub record Keeps (old : TracerView) (place : ℕ) (body : TracedBody) (new : TracerView) : Type 0 where
  pub here : known_of new place ≡ Some body
  pub others : (k : ℕ) (b : TracedBody) → known_of new k ≡ Some b → ((place ≡ k) × (body ≡ b))
      ⊎ (known_of old k ≡ Some b)
