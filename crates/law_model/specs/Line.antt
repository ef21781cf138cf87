-- Lines: when what a line says of its place holds, over the waveform before it.
use Rattle.std.specs.Prelude.{◌≡◌, ℕ, ℤ, ◌<◌, ◌≤◌, Bool, true, false, List, length}
use Rattle.std.specs.List.{All}
use Rattle.design_circuit.specs.declared.waveform.Written.{Written}
use Rattle.design_circuit.specs.Job.{Job}
use Rattle.design_circuit.specs.Filling.{IsFilling, bit_of}
use Rattle.design_circuit.specs.Waveform.{certain, Settles}
pub use Rattle.design_circuit.specs.Waveform.{GivesBoth}
use Rattle.design_circuit.specs.World.{world_bit}
use Rattle.design_circuit.specs.declared.place.Place.{Place}
use Rattle.sat_proof.specs.Assignment.{HasNoZero}
use Rattle.sat_proof.specs.Log.{Refutes, AreFresh}
use Rattle.sat_proof.specs.declared.clause.Cnf.{Cnf}
use Rattle.law_model.specs.Places.{among}
use Rattle.law_model.specs.Cone.{sources, denied_value}
use Rattle.law_model.specs.Query.{IsQuery}
use Rattle.law_model.specs.Stated.{pair_of}
use Rattle.law_model.specs.declared.line.Body.{Body}
use Rattle.law_model.specs.declared.line.Body.TheVariants.{Enumerated, Refuted, Pair, Undecided}
use Rattle.law_model.specs.declared.limits.Limits.{Limits}

-- A filling lists sources of the place alone.
abbrev pub IsOfSources : Job → List Written → ℕ → List Place → Type 0
IsOfSources j waveform place filling =
    (k : ℕ) → bit_of j filling k ≡ true → among (sources j (certain waveform) place) k ≡ true

-- The place has few enough sources, and the world of every filling of them gives the bit.
pub record IsEnumerated (j : Job) (limits : Limits) (waveform : List Written) (place : ℕ) (bit : Bool) : Type 0 where
  pub few : length (sources j (certain waveform) place) ≤ limits.enumerated
  pub each : (filling : List Place) → IsFilling j filling → IsOfSources j waveform place filling
      → world_bit j (certain waveform) (bit_of j filling) place ≡ bit

-- The bit is the one that the query of the place denies, and the log refutes the query.
pub record IsRefuted (j : Job) (waveform : List Written) (place : ℕ) (bit : Bool) (log : List (List ℤ)) : Type 0 where
  pub denied : denied_value j (certain waveform) place ≡ bit
  pub query : Cnf
  pub is_query : IsQuery j (certain waveform) place query
  pub literals : All HasNoZero log
  pub refutes : Refutes query.clauses log

-- The licence of a place: it has more sources, and the log is fresh for its query and as long as the limits say.
pub record IsLicence (j : Job) (limits : Limits) (waveform : List Written) (place : ℕ)
    (log : List (List ℤ)) : Type 0 where
  pub many : limits.enumerated < length (sources j (certain waveform) place)
  pub query : Cnf
  pub is_query : IsQuery j (certain waveform) place query
  pub fresh : AreFresh query.clauses log
  pub long : length log ≡ limits.conflicts

-- When a body holds at a place. All of these read the certain values before the place alone.
abbrev pub BodyHolds : Job → Limits → List Written → ℕ → Body → Type 0
BodyHolds j limits waveform place (Enumerated bit) = IsEnumerated j limits waveform place bit
BodyHolds j limits waveform place (Refuted bit log) = IsRefuted j waveform place bit log
BodyHolds j limits waveform place (Pair first second) = GivesBoth j waveform place (pair_of first second)
BodyHolds j limits waveform place (Undecided log) = IsLicence j limits waveform place log

-- What is then true of the place.
abbrev pub BodyGives : Job → List Written → ℕ → Body → Type 0
BodyGives j waveform place (Enumerated bit) = Settles j waveform place bit
BodyGives j waveform place (Refuted bit log) = Settles j waveform place bit
BodyGives j waveform place (Pair first second) = GivesBoth j waveform place (pair_of first second)
BodyGives j waveform place (Undecided log) = Unit {0}
