-- That the parts of a job fit is so in one way, as a fact on a type has to be.
use Rattle.std.specs.Prelude.{◌≡◌, ◌<◌, ℕ, Option, None, Some, Contains, length, slice_index, slice_index_or, take}
use Rattle.std.specs.Coded.{Unit-prop, le_prop}
use Rattle.std.proofs.Common.{◌∙◌, arith, sym}
use Rattle.std.proofs.Props.{props}
use Rattle.std.proofs.lemmas.List.{get_or_default, get_or-take, length-take-le}
use mathlib.Core.HLevel.{is_prop→PathP}
use Rattle.design_circuit.specs.Design.{FitsIndex}
use Rattle.design_circuit.specs.Fits.{FitsDriver}
use Rattle.design_circuit.specs.Job.{driver_in}
use Rattle.design_circuit.specs.Parts.{PartsFit, PartsFit-prop}
use Rattle.cmd_job.proofs.Comparing.{circuit_fits}
use Rattle.cmd_job.specs.declared.netlist.Netlist.{Netlist}
use Rattle.cmd_job.specs.declared.recorded.Recorded.{Recorded}
use Rattle.cmd_phases.specs.Repair.{FitsJob, FitsParts}
use Rattle.cmd_phases.specs.declared.parts.Parts.{Parts}

FitsIndex-prop : (index : Option ℕ) → IsProp (FitsIndex index)
FitsIndex-prop None = Unit-prop
FitsIndex-prop (Some index) = le_prop

module _ (n : Netlist) (r : Recorded) (fits : PartsFit n.design n.order r.stim) where
  drivers_once : IsProp ((net : ℕ) → net < length n.design.nets
      → FitsDriver n.design.udps (length n.design.nets) (driver_in n.design net))
  drivers_once a b = λ i. (PartsFit-prop n.design n.order r.stim
      record fits { fits_job = record fits.fits_job { pins = a } }
      record fits { fits_job = record fits.fits_job { pins = b } } i).fits_job.pins

  -- A net stands before a position of the order once.
  stands_once : (p net : ℕ) → p < length n.order → IsProp (Contains (take p n.order) net)
  stands_once p net within a b =
      let long = length-take-le p n.order (omega arith) in
      let there : (has : Contains (take p n.order) net) → (has.0 < p) × (slice_index n.order has.0 ≡ net) = λ has. (
        omega (arith, long, has.1),
        sym (get_or-take p n.order has.0 0 (omega (arith, long, has.1)))
            ∙ get_or_default (take p n.order) has.0 0 net has.1 ∙ has.2,
      ) in
      let one = fits.fits_job.ordering.once a.0 b.0 (omega (arith, within, (there a).0))
      (omega (arith, within, (there b).0)) ((there a).1 ∙ sym (there b).1) in
      λ i. (
        one i,
        is_prop→PathP (λ k. one k < length (take p n.order)) (λ k. le_prop) a.1 b.1 i,
        is_prop→PathP (λ k. slice_index_or (take p n.order) (one k) net ≡ net) (λ k. hlevel props) a.2 b.2 i,
      )

pub FitsParts-prop : (job : Parts) → IsProp (FitsParts job)
FitsParts-prop job x =
    let n = job.netlist in
    let r = job.recorded in
    let fits = circuit_fits n r x.netlist x.recorded in
    let once : IsProp (FitsJob n r) = hlevel (props, FitsIndex-prop, drivers_once n r fits, stands_once n r fits) in
    once x
