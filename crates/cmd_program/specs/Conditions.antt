-- The conditions of a waveform: what a certificate and a report state of its certain Line places.
use Rattle.std.specs.Prelude.{◌≡◌, ℕ, Bool, List, [], ◌∷◌, ◌++◌, codes, if◌then◌else◌, length, map}
use Rattle.std.specs.List.{flat_map}
use Rattle.base_lists.specs.Text.{line}
use Rattle.cert_writer.specs.declared.cert.Cert.{Cert}
use Rattle.cert_writer.specs.declared.cert.Entry.{Entry}
use Rattle.cert_writer.specs.declared.cert.Entry.TheVariants.{Line, Turn}
use Rattle.cert_writer.specs.declared.cert.Form.{Form}
use Rattle.cert_writer.specs.declared.cert.Form.TheVariants.{Lines, Turns}
use Rattle.cmd_phases.specs.OfCond.{HasCertainBit, listed_by, certain_boundary}
use Rattle.design_circuit.specs.Fits.{place_at}
use Rattle.design_circuit.specs.Job.{Job, number_of}
use Rattle.design_circuit.specs.Waveform.{certain}
use Rattle.design_circuit.specs.declared.place.Place.{Place}
use Rattle.design_circuit.specs.declared.waveform.Written.{Written}
use Rattle.cmd_phases.specs.OfListing.{needs_text, valued_text}
use Rattle.law_model.specs.declared.line.Line.{Line as ALine}
use Rattle.law_model.specs.declared.turn.TurnLine.{TurnLine}
use Rattle.cmd_phases.specs.OfCert.{gives_bit, settled_places, AreAllTurnLines, turns_in}
use Rattle.wave_proved.specs.Contents.{Contents}

-- A place, its certain boundary, the places of this that are listed, and the turns as a text states them.
pub record Condition : Type 0 where
  pub place : Place
  pub boundary : List Place
  pub listed : List Place
  pub turns : List TurnLine

-- The place of a number has a condition: it is written, certain with some bit, and not carried; this is its certain
-- boundary, in place order; these are all its turns; and what these leave of the boundary is listed.
pub record HasCondition (j : Job) (limit : ℕ) (waveform : List Written) (number : ℕ)
    (condition : Condition) : Type 0 where
  pub place_is : condition.place ≡ place_at j number
  pub bit : Bool
  pub has : HasCertainBit j waveform number bit
  pub boundary_is : condition.boundary ≡ map (place_at j) (certain_boundary j (certain waveform) number)
  pub turns_are : AreAllTurnLines j limit waveform number condition.turns
  pub listed_is : condition.listed
      ≡ map (place_at j) (listed_by j (certain waveform) number (turns_in condition.turns))

-- Places have conditions, one each, in their order.
abbrev pub EachHasCondition : Job → ℕ → List Written → List Place → List Condition → Type 0
EachHasCondition j limit waveform [] [] = Unit {0}
EachHasCondition j limit waveform [] (condition ∷ conditions) = ⊥
EachHasCondition j limit waveform (place ∷ places) [] = ⊥
EachHasCondition j limit waveform (place ∷ places) (condition ∷ conditions) =
    HasCondition j limit waveform (number_of j place) condition × EachHasCondition j limit waveform places conditions

-- The lines of a waveform have conditions: in form 2 one for each certain Line place, in form 1 none.
abbrev pub HaveConditions : Form → Job → ℕ → List Written → List ALine → List Condition → Type 0
HaveConditions Lines j limit waveform lines conditions = conditions ≡ []
HaveConditions Turns j limit waveform lines conditions =
    EachHasCondition j limit waveform (settled_places lines) conditions

-- ---- the texts

-- Lines, and behind each that gives a bit the turns of the next condition.
abbrev pub entries_by : List ALine → List Condition → List Entry
entries_by [] conditions = []
entries_by (first ∷ lines) [] = Line first ∷ entries_by lines []
entries_by (first ∷ lines) (condition ∷ conditions) =
    Line first
    ∷ (if gives_bit first.body then map (λ turn. Turn turn) condition.turns ++ entries_by lines conditions
    else entries_by lines (condition ∷ conditions))

-- The certificate of a form of a wave: the numbers of its run, its lines, and the turns of conditions behind these.
abbrev pub cert_by : Form → Contents → List Condition → Cert
cert_by form c conditions = record {
  form = form;
  head = record {
    rounds = c.stim.rounds;
    conflicts = c.limits.conflicts;
    moments = length c.stim.times;
    nets = length c.design.nets;
  };
  entries = entries_by c.lines conditions;
}

-- `condition #T round J NAME V needs LIST`
abbrev pub needs_line : Contents → Condition → List ℕ
needs_line c condition =
    line (codes "condition " ++ valued_text c condition.place ++ codes " needs "
    ++ needs_text c (length condition.boundary) condition.listed)

abbrev pub needs_lines : Contents → List Condition → List ℕ
needs_lines c conditions = flat_map (needs_line c) conditions
