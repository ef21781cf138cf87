-- When a design, an order and a stimulus fit, and that they do so in one way, as a fact on a type has to.
use Rattle.std.specs.Prelude.{◌≡◌, ◌<◌, Bool, true, false, ℕ, List, length, slice_index}
use Rattle.std.specs.Coded.{Coded-set, coded_bool, coded_ℕ, le_prop, ×_prop, Unit-prop}
use Rattle.std.specs.List.{AllByRecursion-prop}
use mathlib.Core.HLevel.{is_prop→PathP, ⊥_prop}
use mathlib.Core.Path.{◌∙◌, sym}
use Rattle.design_cell.specs.declared.gate.Gate.{Gate}
use Rattle.design_cell.specs.declared.gate.Gate.TheVariants.{And, Nand, Or, Nor, Xor, Xnor, Buf, Not}
use Rattle.design_cell.specs.Gate.{FitsGate}
use Rattle.design_cell.specs.Table.{Table as Primitive}
use Rattle.design_circuit.specs.Fits.{Fits, FitsDriver, FitsPrimitive, FitsRegister, FitsTable, StandsBefore}
use Rattle.design_circuit.specs.Job.{Job, job_of}
use Rattle.design_circuit.specs.Order.{IsOrdering, arguments_of_driver, net_pins}
use Rattle.design_circuit.specs.Stim.{FitsStim}
use Rattle.design_circuit.specs.declared.design.Design.{Design}
use Rattle.design_circuit.specs.declared.design.Driver.{Driver}
use Rattle.design_circuit.specs.declared.design.Driver.TheVariants.{Input, Undriven, Constant, Copy, Cell, Register}
use Rattle.design_circuit.specs.declared.design.Latching.{Latching}
use Rattle.design_circuit.specs.declared.design.Table.{Table}
use Rattle.design_circuit.specs.declared.design.Table.TheVariants.{Gate as OfGate, Udp}
use Rattle.design_circuit.specs.declared.stim.Stim.{Stim}

-- The job of the parts fits, and its stimulus the design.
pub record PartsFit (design : Design) (order : List ℕ) (stim : Stim) : Type 0 where
  pub fits_job : Fits (job_of design order stim)
  pub fits_stim : FitsStim design stim

same_prop : {a b : ℕ} → IsProp (a ≡ b)
same_prop = Coded-set coded_ℕ _ _

FitsGate-prop : (gate : Gate) (pins : ℕ) → IsProp (FitsGate gate pins)
FitsGate-prop And pins = ×_prop le_prop le_prop
FitsGate-prop Nand pins = ×_prop le_prop le_prop
FitsGate-prop Or pins = ×_prop le_prop le_prop
FitsGate-prop Nor pins = ×_prop le_prop le_prop
FitsGate-prop Xor pins = ×_prop le_prop le_prop
FitsGate-prop Xnor pins = ×_prop le_prop le_prop
FitsGate-prop Buf pins = same_prop
FitsGate-prop Not pins = same_prop

FitsPrimitive-prop : (udps : List Primitive) (sequential : Bool) (number pins : ℕ)
    → IsProp (FitsPrimitive udps sequential number pins)
FitsPrimitive-prop udps sequential number pins x y = λ i. record {
  within = le_prop x.within y.within i;
  kind = Coded-set coded_bool _ _ x.kind y.kind i;
  inputs = same_prop x.inputs y.inputs i;
  few = le_prop x.few y.few i;
}

FitsTable-prop : (udps : List Primitive) (table : Table) (pins : ℕ) → IsProp (FitsTable udps table pins)
FitsTable-prop udps (OfGate gate) pins = FitsGate-prop gate pins
FitsTable-prop udps (Udp number) pins = FitsPrimitive-prop udps false number pins

FitsRegister-prop : (udps : List Primitive) (width : ℕ) (latching : Latching)
    → IsProp (FitsRegister udps width latching)
FitsRegister-prop udps width latching x y = λ i. record {
  primitive = FitsPrimitive-prop udps true latching.udp (length latching.pins) x.primitive y.primitive i;
  live = le_prop x.live y.live i;
  nets = AllByRecursion-prop (λ net. net < width) (λ _. le_prop) (net_pins latching.pins) x.nets y.nets i;
  clocks = λ pin within. Coded-set coded_bool _ _ (x.clocks pin within) (y.clocks pin within) i;
  start = λ floats. ⊥_prop (x.start floats) (y.start floats) i;
}

FitsDriver-prop : (udps : List Primitive) (width : ℕ) (driver : Driver) → IsProp (FitsDriver udps width driver)
FitsDriver-prop udps width Input = Unit-prop
FitsDriver-prop udps width Undriven = Unit-prop
FitsDriver-prop udps width (Constant bit) = Unit-prop
FitsDriver-prop udps width (Copy argument) = Unit-prop
FitsDriver-prop udps width (Cell table pins) = FitsTable-prop udps table (length pins)
FitsDriver-prop udps width (Register latching) = FitsRegister-prop udps width latching

StandsBefore-prop : (j : Job) (position net : ℕ) → IsProp (StandsBefore j position net)
StandsBefore-prop j position net x y = λ i. record {
  within = le_prop x.within y.within i;
  before = le_prop x.before y.before i;
}

IsOrdering-prop : (nets : List ℕ) → IsProp (IsOrdering nets)
IsOrdering-prop nets x y = λ i. record {
  below = λ p within. le_prop (x.below p within) (y.below p within) i;
  each = λ net within. each_same net (x.each net within) (y.each net within) i;
  once = λ p q first second same. same_prop (x.once p q first second same) (y.once p q first second same) i;
}
  where
    each_same : (net : ℕ) (a b : (p : ℕ) × (p < length nets) × (slice_index nets p ≡ net)) → a ≡ b
    each_same net a b =
        let one = x.once a.0 b.0 a.1 b.1 (a.2 ∙ sym b.2) in
        λ i. (
          one i,
          is_prop→PathP (λ k. one k < length nets) (λ k. le_prop) a.1 b.1 i,
          is_prop→PathP (λ k. slice_index nets (one k) ≡ net) (λ k. same_prop) a.2 b.2 i,
        )

Fits-prop : (j : Job) → IsProp (Fits j)
Fits-prop j x y = λ i. record {
  ordering = IsOrdering-prop j.order x.ordering y.ordering i;
  all = same_prop x.all y.all i;
  arguments = λ p within. AllByRecursion-prop (StandsBefore j p) (StandsBefore-prop j p)
      (arguments_of_driver (j.driver (slice_index j.order p))) (x.arguments p within) (y.arguments p within) i;
  pins = λ net within. FitsDriver-prop j.udps j.width (j.driver net) (x.pins net within) (y.pins net within) i;
  start = λ net within floats. ⊥_prop (x.start net within floats) (y.start net within floats) i;
  some_round = le_prop x.some_round y.some_round i;
  few_rounds = le_prop x.few_rounds y.few_rounds i;
  few_nets = le_prop x.few_nets y.few_nets i;
  few_places = le_prop x.few_places y.few_places i;
}

FitsStim-prop : (design : Design) (stim : Stim) → IsProp (FitsStim design stim)
FitsStim-prop design stim x y = λ i. record {
  times = λ k within. le_prop (x.times k within) (y.times k within) i;
  values = λ moment within. same_prop (x.values moment within) (y.values moment within) i;
  starts = same_prop x.starts y.starts i;
  no_float = λ net floats. ⊥_prop (x.no_float net floats) (y.no_float net floats) i;
  places = le_prop x.places y.places i;
}

pub PartsFit-prop : (design : Design) (order : List ℕ) (stim : Stim) → IsProp (PartsFit design order stim)
PartsFit-prop design order stim x y = λ i. record {
  fits_job = Fits-prop (job_of design order stim) x.fits_job y.fits_job i;
  fits_stim = FitsStim-prop design stim x.fits_stim y.fits_stim i;
}
