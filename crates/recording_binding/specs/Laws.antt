-- Laws of bound bits and of stimuli, in the words of a reader.
use Rattle.std.specs.Prelude.{◌≡◌, ◌↔◌, ◌<◌, ℕ, true, List, [], ◌∷◌, ◌++◌, Option, length, map, ◌⊎◌, All}
use Rattle.std.specs.List.{AllByRecursion}
use Rattle.design_circuit.specs.Design.{FitsDesign}
use Rattle.design_circuit.specs.Job.{driver_in}
use Rattle.design_circuit.specs.Order.{IsOrder}
use Rattle.design_circuit.specs.declared.design.Design.{Design}
use Rattle.design_circuit.specs.declared.design.Driver.TheVariants.{Undriven}
use Rattle.design_circuit.specs.declared.stim.RegisterRules.{RegisterRules}
use Rattle.design_circuit.specs.declared.stim.Stim.{Stim}
use Rattle.recording_reader.specs.Bytes.{without_range}
use Rattle.recording_reader.specs.Recording.{Recording, path_at}
use Rattle.recording_reader.specs.declared.variable.Variable.{Variable}
use Rattle.recording_binding.specs.Binding.{FitsBinding, FitsBound}
use Rattle.recording_binding.specs.BoundBits.{IsBitOf, bound_bits}
use Rattle.recording_binding.specs.JobDesign.{job_design}
use Rattle.recording_binding.specs.Naming.{Texts, nets_of}
use Rattle.recording_binding.specs.Originals.{IsOrCopies, original_of}
use Rattle.recording_binding.specs.StimOf.{IsStimOf}
use Rattle.recording_binding.specs.declared.binding.Binding.{Binding}
use Rattle.recording_binding.specs.declared.binding.Bound.{Bound}
use Rattle.recording_binding.specs.declared.inputs.Holder.{Holder}
use Rattle.recording_binding.specs.declared.rule.UndrivenRule.{UndrivenRule}
use Rattle.recording_binding.specs.Telling.{bare, matched}
use Rattle.recording_binding.specs.declared.bits.Matched.TheVariants.{Bits}

-- A variable tells its reference without a range directly behind it, and one with such a range its reference as
-- recorded too.
abbrev pub Tells : Variable → List ℕ → Type 0
Tells v text = ((v.direct ≡ true) × (text ≡ v.reference)) ⊎ (text ≡ without_range v.direct v.reference)

-- The bits are a part of the nets of a name that the variable tells, in their order: that of its scopes below the scope
-- path and of a text of its own.
pub record IsPart (design : Design) (scope : Texts) (recording : Recording) (v : Variable)
    (bits : List ℕ) : Type 0 where
  pub names : Texts
  pub text : List ℕ
  pub before : List ℕ
  pub after : List ℕ
  pub under : path_at recording.scopes v.scope ≡ scope ++ names
  pub tells : Tells v text
  pub nets : nets_of design (map bare names ++ bare text ∷ []) ≡ before ++ bits ++ after

-- Each bit is a bit of the net that its variable names, and the bits stand in the declared direction.
abbrev pub BitsStandInOrder : Type 0
BitsStandInOrder = (design : Design) (scope : Texts) (recording : Recording) (v : Variable) (bits : List ℕ)
    → matched design scope recording v ≡ Bits bits → IsPart design scope recording v bits

-- A recording whose variables are bound has one stimulus.
abbrev pub OneStimulus : Type 0
OneStimulus = (design : Design) (recording : Recording) (holder : ℕ → Option Holder) (rounds : ℕ)
    (rules : RegisterRules) (a b : Stim) → IsStimOf design recording holder rounds rules a
    → IsStimOf design recording holder rounds rules b → a ≡ b

-- A net without a driver is the original of itself and of the nets that copy it, and of no other.
abbrev pub OriginalsAreCopied : Type 0
OriginalsAreCopied = (design : Design) (order : List ℕ) (own net : ℕ)
    → IsOrder (driver_in design) (length design.nets) order → own < length design.nets → driver_in design net ≡ Undriven
    → (original_of design own ≡ net) ↔ IsOrCopies design own net

-- The design of a job fits where the netlist's does, with the same order, and so does what is bound.
pub record JobDesignFits (design made : Design) : Type 0 where
  pub fits : FitsDesign design → FitsDesign made
  pub ordered : (order : List ℕ) → IsOrder (driver_in design) (length design.nets) order
      → IsOrder (driver_in made) (length made.nets) order
  pub bound : (binding : Binding) → FitsBinding design binding → FitsBinding made binding
  pub as_many : length made.nets ≡ length design.nets

abbrev pub JobDesignsFit : Type 0
JobDesignsFit =
    (rule : UndrivenRule) (design : Design) (bound : List Bound) → JobDesignFits design (job_design rule design bound)

-- Each bit that a walk gives is of one of the moments, and of a net of the design.
abbrev pub BitsAreThere : Type 0
BitsAreThere = (design : Design) (moments : ℕ) (bound : List Bound) → All (FitsBound design) bound
    → AllByRecursion (IsBitOf design moments) (bound_bits moments bound)
