-- The conditions that are made and checked, as the promises state them.
use Rattle.std.proofs.Common.{◌≡◌, ◌∙◌, ℕ, List, [], ◌∷◌, ◌++◌, ap, arith, if◌then◌else◌, map, refl, sym}
use Rattle.std.proofs.Math.Path.{ap₂}
use Rattle.cmd_phases.specs.OfCert.{AreConditionsFor, entries_of, lines_in, cert_in}
use Rattle.cmd_phases.proofs.LawsOfCert.{own_lines, kept_within, stated_turns, states_turns}
use Rattle.cert_writer.specs.declared.cert.Entry.{Entry}
use Rattle.cert_writer.specs.declared.cert.Entry.TheVariants.{Line, Turn}
use Rattle.cert_writer.specs.declared.cert.Form.{Form}
use Rattle.cert_writer.specs.declared.cert.Form.TheVariants.{Lines, Turns}
use Rattle.cmd_phases.specs.OfCond.{listed_by, ConditionView, IsConditionOf, settled_bit}
use Rattle.design_circuit.specs.Fits.{place_at}
use Rattle.design_circuit.specs.Job.{number_of}
use Rattle.design_circuit.specs.Waveform.{certain}
use Rattle.design_circuit.specs.declared.place.Place.{Place}
use Rattle.cmd_phases.specs.OfListing.{condition_line, conditions_text}
use Rattle.law_model.specs.declared.line.Line.{Line as ALine}
use Rattle.cmd_phases.specs.OfCert.{AreConditionsOf, gives_bit, settled_places, turn_lines}
use Rattle.wave_proved.specs.Contents.{Contents, job}
use Rattle.cmd_program.specs.Conditions.{Condition, EachHasCondition, HasCondition, HaveConditions, cert_by, entries_by, needs_lines}

-- What a condition with all turns made comes to.
abbrev pub condition_of : ConditionView → Condition
condition_of view = record {
  place = view.place;
  boundary = view.boundary;
  listed = view.listed;
  turns = turn_lines view;
}

abbrev pub conditions_of : List ConditionView → List Condition
conditions_of views = map condition_of views

-- Its place has it.
has_condition : (c : Contents) (root : ℕ) (view : ConditionView) → IsConditionOf c root view → view.due ≡ 0
    → HasCondition (job c) c.limits.conflicts c.written root (condition_of view)
has_condition c root view is none = record {
  place_is = is.place;
  bit = settled_bit c root;
  has = is.has;
  boundary_is = is.boundary;
  turns_are = record {
    are = (states_turns c root view is).are;
    all = (let count = (states_turns c root view is).count in omega (arith, count, none));
  };
  listed_is = is.listed
      ∙ ap (λ turns. map (place_at (job c)) (listed_by (job c) (certain c.written) root turns))
      (sym (stated_turns view.boundary view.turns (kept_within c root view is)));
}

each_has : (c : Contents) (places : List Place) (views : List ConditionView) → AreConditionsOf c places views
    → EachHasCondition (job c) c.limits.conflicts c.written places (conditions_of views)
each_has c [] [] are = tt
each_has c [] (view ∷ views) are = absurd are
each_has c (place ∷ places) [] are = absurd are
each_has c (place ∷ places) (view ∷ views) are =
    (has_condition c (number_of (job c) place) view are.0.is are.0.none_due, each_has c places views are.1)

pub have_conditions : (form : Form) (c : Contents) (views : List ConditionView) → AreConditionsFor form c views
    → HaveConditions form (job c) c.limits.conflicts c.written c.lines (conditions_of views)
have_conditions Lines c views none = ap conditions_of none
have_conditions Turns c views are = each_has c (settled_places c.lines) views are

-- They have the same turns,
pub same_entries : (lines : List ALine) (views : List ConditionView) → entries_of lines views ≡ entries_by lines (conditions_of views)
same_entries [] views = refl
same_entries (line ∷ lines) [] = ap (λ (es : List Entry). Line line ∷ es) (same_entries lines [])
same_entries (line ∷ lines) (view ∷ views) =
    ap₂ (λ (es fs : List Entry). Line line ∷ (if gives_bit line.body then map (λ turn. Turn turn) (turn_lines view) ++ es else fs))
    (same_entries lines views) (same_entries lines (view ∷ views))

-- so they stand in the same certificate,
pub same_cert : (form : Form) (c : Contents) (views : List ConditionView) → cert_in form c views ≡ cert_by form c (conditions_of views)
same_cert form c views = ap (λ (es : List Entry). record (cert_in form c views) { entries = es }) (same_entries c.lines views)

pub same_lines : (form : Form) (c : Contents) (views : List ConditionView) → lines_in (cert_by form c (conditions_of views)).entries ≡ c.lines
same_lines form c views = ap (λ (es : List Entry). lines_in es) (sym (same_entries c.lines views)) ∙ own_lines c.lines views

-- and the same lines are printed of them.
pub same_printed : (c : Contents) (views : List ConditionView) → conditions_text c views ≡ needs_lines c (conditions_of views)
same_printed c [] = refl
same_printed c (view ∷ views) = ap (λ (text : List ℕ). condition_line c view ++ text) (same_printed c views)
