-- What a line that holds gives of its place, by the law of cones.
use Rattle.std.proofs.Common.{ℕ, ◌<◌, ◌≤◌, Bool, List, length, sym, ◌∙◌}
use Rattle.std.specs.Prelude.{ℤ}
use Rattle.design_cell.specs.declared.value.Value.{Value}
use Rattle.design_circuit.specs.declared.place.Place.{Place}
use Rattle.design_circuit.specs.declared.waveform.Written.{Written}
use Rattle.design_circuit.specs.Job.{Job, places_of}
use Rattle.design_circuit.specs.Fits.{Fits}
use Rattle.design_circuit.specs.Filling.{IsFilling, bit_of}
use Rattle.design_circuit.specs.Waveform.{certain, Settles}
use Rattle.design_circuit.specs.World.{world_bit}
use Rattle.law_model.specs.Cone.{source_filling}
use Rattle.law_model.specs.Line.{IsEnumerated, IsRefuted, BodyHolds, BodyGives}
use Rattle.law_model.specs.Sound.{Sound}
use Rattle.law_model.specs.declared.line.Line.{Line as ALine}
use Rattle.law_model.specs.declared.line.Body.{Body}
use Rattle.law_model.specs.declared.line.Body.TheVariants.{Enumerated, Refuted, Pair, Undecided as Budget}
use Rattle.law_model.proofs.CarryLaw.{TrueWorld}
use Rattle.law_model.proofs.ConeWorlds.{world_consistent, source_worlds}
use Rattle.law_model.proofs.Cones.{cone_self}
use Rattle.law_model.proofs.SoundWorlds.{true_world}
use Rattle.law_model.proofs.ConeModels.{refuted_bit}
use Rattle.law_model.proofs.SourceFillings.{source_filling_is, source_given, sources_alone, source_among}
use Rattle.law_model.specs.declared.limits.Limits.{Limits}

-- The world of each filling is one in which the certain places before a place have their values.
abbrev pub AllTrueWorlds : Job → List Written → ℕ → Type 0
AllTrueWorlds j waveform place = (filling : List Place) → IsFilling j filling
    → TrueWorld j (certain waveform) (bit_of j filling) (world_bit j (certain waveform) (bit_of j filling)) place

-- A place whose query is refuted has the value that is denied in the world of every filling.
pub refuted_settles : (j : Job) → Fits j → (waveform : List Written) (place : ℕ) (bit : Bool) (log : List (List ℤ))
    → place < places_of j → AllTrueWorlds j waveform place → IsRefuted j waveform place bit log
    → Settles j waveform place bit
refuted_settles j fits waveform place bit log within seen is filling filled =
    let c = certain waveform in
    refuted_bit j fits c place (world_bit j c (bit_of j filling)) is.query log within
    (world_consistent j fits c (bit_of j filling) (world_bit j c (bit_of j filling)) place (seen filling filled))
    is.is_query is.literals is.refutes ∙ is.denied

-- Where the world of every filling of the sources gives a bit, that of every filling does: it is that of the filling
-- that gives the sources the same bits.
pub enumerated_settles : (j : Job) (limits : Limits) → Fits j → (waveform : List Written) (place : ℕ) (bit : Bool) → place < places_of j
    → AllTrueWorlds j waveform place → IsEnumerated j limits waveform place bit → Settles j waveform place bit
enumerated_settles j limits fits waveform place bit within seen is filling filled =
    let c = certain waveform in
    let own : List Place = source_filling j c place (bit_of j filling) in
    let own_is : IsFilling j own = source_filling_is j fits c place (bit_of j filling) within in
    source_worlds j fits c (bit_of j filling) (bit_of j own) (world_bit j c (bit_of j filling))
    (world_bit j c (bit_of j own)) place place (seen filling filled) (seen own own_is)
    (λ k source. sym (source_given j fits c place (bit_of j filling) k within source))
    (cone_self j fits c place within) ∙ is.each own own_is
    (λ k listed. source_among j fits c place k within
    (sources_alone j fits c place (bit_of j filling) k within listed))

-- What a body that holds at a place gives of it.
pub body_gives_by : (j : Job) (limits : Limits) → Fits j → (waveform : List Written) (place : ℕ) (body : Body)
    → place < places_of j → AllTrueWorlds j waveform place → BodyHolds j limits waveform place body
    → BodyGives j waveform place body
body_gives_by j limits fits waveform place (Enumerated bit) within seen holds = enumerated_settles j limits fits waveform
    place bit within seen holds
body_gives_by j limits fits waveform place (Refuted bit log) within seen holds = refuted_settles j fits waveform place
    bit log within seen holds
body_gives_by j limits fits waveform place (Pair first second) within seen holds = holds
body_gives_by j limits fits waveform place (Budget log) within seen holds = tt

-- At each written place of a sound waveform, and at the next, a body that holds gives what it says.
pub body_gives : (j : Job) (limits : Limits) → Fits j → (shown : ℕ → Value) (waveform : List Written) (lines : List ALine)
    → Sound j limits shown waveform lines → (place : ℕ) → place ≤ length waveform → place < places_of j
    → (budget : Limits) (body : Body) → BodyHolds j budget waveform place body → BodyGives j waveform place body
body_gives j limits fits shown waveform lines sound place up within budget body holds =
    body_gives_by j budget fits waveform place body within
    (true_world j limits fits shown waveform lines sound place up within) holds
