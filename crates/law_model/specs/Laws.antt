-- The laws of waveforms, which the functions of src/laws.rt ensure. Each holds for both rules by which registers
-- start and for any history that was handed in.
use Rattle.std.specs.Prelude.{◌≡◌, ℕ, ℤ, ◌<◌, ◌≤◌, ◌↔◌, Bool, true, List, [], ◌∷◌, ◌++◌, length}
use Rattle.std.specs.List.{All}
use Rattle.design_cell.specs.declared.value.Value.{Value}
use Rattle.design_circuit.specs.declared.place.Place.{Place}
use Rattle.design_circuit.specs.declared.waveform.Written.{Written}
use Rattle.design_circuit.specs.declared.waveform.Mark.TheVariants.{Undecided}
use Rattle.design_circuit.specs.Job.{Job, places_of}
use Rattle.design_circuit.specs.Fits.{Fits}
use Rattle.design_circuit.specs.Filling.{IsFilling, bit_of}
use Rattle.design_circuit.specs.Rule.{arguments}
use Rattle.design_circuit.specs.Waveform.{written_at, certain, Settles}
use Rattle.design_circuit.specs.World.{world_bit}
use Rattle.sat_proof.specs.Assignment.{HasNoZero, IsMet}
use Rattle.sat_proof.specs.Log.{Refutes}
use Rattle.sat_proof.specs.declared.clause.Cnf.{Cnf}
use Rattle.law_model.specs.Places.{among}
use Rattle.law_model.specs.Assignment.{argument_places}
use Rattle.law_model.specs.Class.{flipped, class_by, class_of, is_carrier}
use Rattle.law_model.specs.Cone.{in_cone, Reaches, is_source, sources, source_filling, IsConsistent, denied_value}
use Rattle.law_model.specs.Query.{IsConeClause, IsQuery, variables, model_of, valuation_of}
use Rattle.law_model.specs.Line.{BodyHolds, BodyGives}
use Rattle.law_model.specs.Yields.{Yields}
use Rattle.law_model.specs.Sound.{Sound, IsDecided, IsHonest}
use Rattle.law_model.specs.Growth.{Holds, NextSaid, NextHolds}
use Rattle.law_model.specs.declared.class.ClassByNumber.TheVariants.{Carried}
use Rattle.law_model.specs.declared.line.Line.{Line as ALine}
use Rattle.law_model.specs.declared.line.Body.{Body}
use Rattle.law_model.specs.declared.limits.Limits.{Limits}

-- In every sound waveform of a job that fits.
abbrev pub InSound : (Job → List Written → Type 0) → Type 0
InSound Law = (j : Job) (limits : Limits) (shown : ℕ → Value) (waveform : List Written) (lines : List ALine)
    → Fits j → Sound j limits shown waveform lines → Law j waveform

-- A place of the job that is written, or the next one.
pub record InReach (j : Job) (waveform : List Written) (place : ℕ) : Type 0 where
  pub written : place ≤ length waveform
  pub within : place < places_of j

-- The world of a filling, over the certain values of a waveform.
abbrev pub world_over : Job → List Written → List Place → ℕ → Bool
world_over j waveform filling = world_bit j (certain waveform) (bit_of j filling)

-- Two waveforms have the same certain values before a place.
abbrev pub SameBefore : List Written → List Written → ℕ → Type 0
SameBefore v w place = (k : ℕ) → k < place → certain v k ≡ certain w k

-- The argument places, in place order and without doubles, are the places whose bits the rule reads.
abbrev pub ArgumentsLaw : Type 0
ArgumentsLaw = (j : Job) (certain : ℕ → Value) (place k : ℕ) → Fits j → place < places_of j
    → among (argument_places j certain place) k ≡ among (arguments j certain place) k

-- The class of a place is the first that applies, where the classes of the places before it are their own.
abbrev pub ClassLaw : Type 0
ClassLaw = (j : Job) (certain : ℕ → Value) (place : ℕ) → Fits j → place < places_of j
    → class_of j certain place ≡ class_by j certain (class_of j certain) place

-- A place is carried from one argument place at most, as it is or inverted.
abbrev pub CarrierLaw : Type 0
CarrierLaw = (j : Job) (certain : ℕ → Value) (place from other : ℕ) (inverted turned : Bool)
    → among (arguments j certain place) from ≡ true → among (arguments j certain place) other ≡ true
    → is_carrier j certain place from inverted ≡ true → is_carrier j certain place other turned ≡ true
    → (from ≡ other) × (inverted ≡ turned)

-- The carry law: in the world of every filling a carried place has the bit of the place that it is carried from, or its
-- complement where the class says inverted.
abbrev pub CarryLaw : Type 0
CarryLaw = InSound (λ j waveform. (place from : ℕ) (inverted : Bool) (filling : List Place)
    → InReach j waveform place → IsFilling j filling
    → class_of j (certain waveform) place ≡ Carried from inverted
    → world_over j waveform filling place ≡ flipped inverted (world_over j waveform filling from))

-- The cone of a place is what supports reach from it.
abbrev pub ReachLaw : Type 0
ReachLaw = (j : Job) (certain : ℕ → Value) (root place : ℕ) → Fits j → root < places_of j
    → (in_cone j certain root place ≡ true) ↔ Reaches j certain root place

-- The cone law, first half: the world of every filling is, at the places of a cone, a consistent valuation,
abbrev pub WorldsAreConsistent : Type 0
WorldsAreConsistent = InSound (λ j waveform. (root : ℕ) (filling : List Place)
    → InReach j waveform root → IsFilling j filling
    → IsConsistent j (certain waveform) root (world_over j waveform filling))

-- and every consistent valuation is, at the places of the cone, the world of the filling that gives each source its
-- bit in the valuation.
pub record IsWorldOfSources (j : Job) (waveform : List Written) (root : ℕ) (valuation : ℕ → Bool) : Type 0 where
  pub filling : IsFilling j (source_filling j (certain waveform) root valuation)
  pub world : (place : ℕ) → in_cone j (certain waveform) root place ≡ true
      → world_over j waveform (source_filling j (certain waveform) root valuation) place ≡ valuation place

abbrev pub ConsistentAreWorlds : Type 0
ConsistentAreWorlds = InSound (λ j waveform. (root : ℕ) (valuation : ℕ → Bool) → InReach j waveform root
    → IsConsistent j (certain waveform) root valuation → IsWorldOfSources j waveform root valuation)

-- So the worlds of two fillings that give the sources of a cone the same bits agree at its places.
abbrev pub SourcesDecide : Type 0
SourcesDecide = InSound (λ j waveform. (root place : ℕ) (f g : List Place)
    → InReach j waveform root → IsFilling j f → IsFilling j g
    → ((k : ℕ) → is_source j (certain waveform) root k ≡ true → bit_of j f k ≡ bit_of j g k)
    → in_cone j (certain waveform) root place ≡ true → world_over j waveform f place ≡ world_over j waveform g place)

-- The cone law, second half: a consistent valuation is a model of the clauses of the cone, from which it comes back,
pub record IsModelOf (j : Job) (certain : ℕ → Value) (root : ℕ) (valuation : ℕ → Bool) : Type 0 where
  pub met : (clause : List ℤ) → IsConeClause j certain root clause → IsMet (model_of j certain root valuation) clause
  pub back : (place : ℕ) → in_cone j certain root place ≡ true
      → valuation_of j certain root (model_of j certain root valuation) place ≡ valuation place

abbrev pub ConsistentAreModels : Type 0
ConsistentAreModels = (j : Job) (certain : ℕ → Value) (root : ℕ) (valuation : ℕ → Bool) → Fits j → root < places_of j
    → IsConsistent j certain root valuation → IsModelOf j certain root valuation

-- and a model of the clauses is a consistent valuation, from which it comes back.
pub record IsValuationOf (j : Job) (certain : ℕ → Value) (root : ℕ) (model : ℕ → Bool) : Type 0 where
  pub consistent : IsConsistent j certain root (valuation_of j certain root model)
  pub back : (n : ℕ) → n < length (variables j certain root)
      → model_of j certain root (valuation_of j certain root model) n ≡ model n

abbrev pub ModelsAreConsistent : Type 0
ModelsAreConsistent = (j : Job) (certain : ℕ → Value) (root : ℕ) (model : ℕ → Bool) → Fits j → root < places_of j
    → ((clause : List ℤ) → IsConeClause j certain root clause → IsMet model clause) → IsValuationOf j certain root model

-- Where a log refutes the query of a place, the world of every filling gives the denied value.
abbrev pub RefutedLaw : Type 0
RefutedLaw = InSound (λ j waveform. (place : ℕ) (query : Cnf) (log : List (List ℤ)) → InReach j waveform place
    → IsQuery j (certain waveform) place query → All HasNoZero log → Refutes query.clauses log
    → Settles j waveform place (denied_value j (certain waveform) place))

-- A body that holds gives what it says: every filling's bit, or the two fillings.
abbrev pub BodyLaw : Type 0
BodyLaw = InSound (λ j waveform. (limits : Limits) (place : ℕ) (body : Body) → InReach j waveform place
    → BodyHolds j limits waveform place body → BodyGives j waveform place body)

-- Whether a body holds at a place rests on the certain values before the place alone.
abbrev pub BodyBeforeLaw : Type 0
BodyBeforeLaw = (j : Job) (limits : Limits) (v w : List Written) (place : ℕ) (body : Body) → Fits j
    → place < places_of j
    → SameBefore v w place → BodyHolds j limits v place body → BodyHolds j limits w place body

-- The wave invariant: a waveform with nothing written is sound and its lines yield it,
abbrev pub StartLaw : Type 0
StartLaw = (j : Job) (limits : Limits) (shown : ℕ → Value) → Holds j limits shown [] []

-- and this stays, whichever way the next place is written.
abbrev pub GrowthLaw : Type 0
GrowthLaw = (j : Job) (limits : Limits) (shown : ℕ → Value) (waveform : List Written) (lines : List ALine)
    → (written : Written) (new : List ALine)
    → Fits j → Holds j limits shown waveform lines → NextHolds j limits shown waveform written new
    → Holds j limits shown (waveform ++ written ∷ []) (lines ++ new)

-- Also where the next place is optimistic, the lines yield the waveform up to and with it.
abbrev pub YieldsGrowthLaw : Type 0
YieldsGrowthLaw = (j : Job) (limits : Limits) (shown : ℕ → Value) (waveform : List Written) (lines : List ALine)
    → (written : Written) (new : List ALine)
    → Fits j → Yields j limits shown waveform lines → NextSaid j limits shown waveform written new
    → Yields j limits shown (waveform ++ written ∷ []) (lines ++ new)

-- A list of lines yields at most one waveform.
abbrev pub YieldsLaw : Type 0
YieldsLaw = (j : Job) (limits : Limits) (shown : ℕ → Value) (v w : List Written) (lines : List ALine)
    → Fits j → length v ≡ length w
    → Yields j limits shown v lines → Yields j limits shown w lines → v ≡ w

-- A waveform that lines yield is sound where it has no optimistic place, and a sound one has none.
abbrev pub HonestLaw : Type 0
HonestLaw = (j : Job) (limits : Limits) (shown : ℕ → Value) (waveform : List Written) (lines : List ALine) → Fits j
    → Yields j limits shown waveform lines → IsHonest shown waveform ↔ Sound j limits shown waveform lines

-- Two waveforms of a job that are sound for one history and have no undecided place are equal.
abbrev pub OneSound : Type 0
OneSound = (j : Job) (limits : Limits) (shown : ℕ → Value) (v w : List Written) (lines more : List ALine)
    → Fits j → length v ≡ length w
    → Sound j limits shown v lines → Sound j limits shown w more → IsDecided v → IsDecided w → v ≡ w

-- What two waveforms have at a place are the same mark and the same certain value.
pub record IsSameAt (v w : List Written) (place : ℕ) : Type 0 where
  pub mark : (written_at v place).mark ≡ (written_at w place).mark
  pub certain_value : certain v place ≡ certain w place

-- Two that are sound for two histories are equal in every mark and every certain value, whatever the limits.
abbrev pub OneForHistories : Type 0
OneForHistories = (j : Job) (limits bounds : Limits) (shown other : ℕ → Value) (v w : List Written)
    → (lines more : List ALine)
    → Fits j → length v ≡ length w → Sound j limits shown v lines → Sound j bounds other w more
    → IsDecided v → IsDecided w
    → (place : ℕ) → place < length v → IsSameAt v w place

-- A place with so few sources that all their fillings are tried is never undecided.
abbrev pub FewSourcesLaw : Type 0
FewSourcesLaw = (j : Job) (limits : Limits) (shown : ℕ → Value) (waveform : List Written) (lines : List ALine)
    → Fits j → Sound j limits shown waveform lines → (place : ℕ) → place < length waveform
    → length (sources j (certain waveform) place) ≤ limits.enumerated
    → (written_at waveform place).mark ≡ Undecided → ⊥
