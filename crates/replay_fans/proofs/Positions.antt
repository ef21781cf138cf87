-- What stands at positions of an order.
use Rattle.std.proofs.Common.{◌≡◌, ℕ, ◌+◌, ◌*◌, ◌<◌, List, [], ◌∷◌, slice_index, ap, arith}
use Rattle.std.specs.List.{AllByRecursion}
use Rattle.design_circuit.specs.declared.design.Driver.{Driver}
use Rattle.design_circuit.specs.declared.design.Driver.TheVariants.{Input, Undriven, Constant, Copy, Cell, Register}
use Rattle.design_circuit.specs.Fits.{Fits, FitsDriver, StandsBefore}
use Rattle.design_circuit.specs.Job.{Job, at}
use Rattle.design_circuit.specs.Order.{arguments_of_driver, position_of}
use Rattle.design_circuit.proofs.OrderLemmas.{position_is}
use Rattle.replay_fans.specs.Nets.{driver_on, looked_at}

-- The net at a position is one of the job's.
pub net_within : (j : Job) → Fits j → (position : ℕ) → position < j.width → slice_index j.order position < j.width
net_within j fits position within =
    let all = fits.all in
    let below = fits.ordering.below position (omega arith) in
    omega (arith, all, below)

-- The position of the net that stands at a position.
pub position_there : (j : Job) → Fits j → (position : ℕ) → position < j.width
    → position_of j.order (slice_index j.order position) ≡ position
position_there j fits position within = let all = fits.all in
    position_is j.order position fits.ordering (omega (arith, all, within))

-- The place of that net.
pub at_there : (j : Job) → Fits j → (step position : ℕ) → position < j.width
    → at j step (slice_index j.order position) ≡ step * j.width + position
at_there j fits step position within = ap (λ (p : ℕ). step * j.width + p) (position_there j fits position within)

-- What a driver reads, and what it looks back at, are nets of the job.
stands_within : (j : Job) (position : ℕ) (nets : List ℕ) → AllByRecursion (StandsBefore j position) nets
    → AllByRecursion (λ net. net < j.width) nets
stands_within j position [] stands = tt
stands_within j position (net ∷ nets) stands = (stands.0.within, stands_within j position nets stands.1)

pub arguments_within : (j : Job) → Fits j → (position : ℕ) → position < j.width
    → AllByRecursion (λ net. net < j.width) (arguments_of_driver (driver_on j position))
arguments_within j fits position within =
    stands_within j position (arguments_of_driver (driver_on j position)) (fits.arguments position within)

looked_within_of : (j : Job) (driver : Driver) → FitsDriver j.udps j.width driver
    → AllByRecursion (λ net. net < j.width) (looked_at driver)
looked_within_of j Input fit = tt
looked_within_of j Undriven fit = tt
looked_within_of j (Constant bit) fit = tt
looked_within_of j (Copy argument) fit = tt
looked_within_of j (Cell table pins) fit = tt
looked_within_of j (Register latching) fit = fit.nets

pub looked_within : (j : Job) → Fits j → (position : ℕ) → position < j.width
    → AllByRecursion (λ net. net < j.width) (looked_at (driver_on j position))
looked_within j fits position within =
    looked_within_of j (driver_on j position) (fits.pins (slice_index j.order position)
    (net_within j fits position within))
