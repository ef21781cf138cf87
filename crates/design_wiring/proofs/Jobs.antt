-- The nets of a job that fits can be wired.
use Rattle.std.proofs.Common.{ℕ, suc, ◌<◌, ◌≤◌, List, [], ◌∷◌, length, get_or, sym, subst, arith}
use Rattle.std.specs.List.{AllByRecursion}
use Rattle.design_cell.specs.Gate.{FitsGate}
use Rattle.design_cell.specs.Table.{Table as Primitive}
use Rattle.design_cell.specs.declared.gate.Gate.{Gate as AGate}
use Rattle.design_cell.specs.declared.gate.Gate.TheVariants.{And, Nand, Or, Nor, Xor, Xnor, Buf, Not}
use Rattle.design_circuit.specs.declared.design.Design.{Design}
use Rattle.design_circuit.specs.declared.design.Driver.{Driver}
use Rattle.design_circuit.specs.declared.design.Driver.TheVariants.{Input, Undriven, Constant, Copy, Cell, Register}
use Rattle.design_circuit.specs.declared.design.Table.{Table}
use Rattle.design_circuit.specs.declared.design.Table.TheVariants.{Gate, Udp}
use Rattle.design_circuit.specs.declared.stim.Stim.{Stim}
use Rattle.design_circuit.specs.Fits.{Fits, FitsDriver, FitsTable, StandsBefore}
use Rattle.design_circuit.specs.Job.{Job, job_of, driver_in}
use Rattle.design_circuit.specs.Order.{arguments_of_driver, net_pins}
use Rattle.design_wiring.specs.Wired.{IsWirable, pins_of}

gate_few : (gate : AGate) (n : ℕ) → FitsGate gate n → n ≤ 10
gate_few And n fits = fits.1
gate_few Nand n fits = fits.1
gate_few Or n fits = fits.1
gate_few Nor n fits = fits.1
gate_few Xor n fits = fits.1
gate_few Xnor n fits = fits.1
gate_few Buf n fits = omega arith
gate_few Not n fits = omega arith

pub table_few : (udps : List Primitive) (table : Table) (n : ℕ) → FitsTable udps table n → n ≤ 10
table_few udps (Gate gate) n fits = gate_few gate n fits
table_few udps (Udp number) n fits = fits.few

pins_few : (udps : List Primitive) (width : ℕ) (driver : Driver) → FitsDriver udps width driver
    → length (pins_of driver) ≤ 10
pins_few udps width Input fits = omega arith
pins_few udps width Undriven fits = omega arith
pins_few udps width (Constant bit) fits = omega arith
pins_few udps width (Copy net) fits = omega arith
pins_few udps width (Cell table pins) fits = table_few udps table (length pins) fits
pins_few udps width (Register latching) fits = fits.primitive.few

standing_within : (j : Job) (p : ℕ) (nets : List ℕ) → AllByRecursion (StandsBefore j p) nets
    → AllByRecursion (λ n. n < j.width) nets
standing_within j p [] stands = tt
standing_within j p (net ∷ nets) stands = (stands.0.within, standing_within j p nets stands.1)

nets_within : (j : Job) (p : ℕ) (driver : Driver) → FitsDriver j.udps j.width driver
    → AllByRecursion (StandsBefore j p) (arguments_of_driver driver)
    → AllByRecursion (λ n. n < j.width) (net_pins (pins_of driver))
nets_within j p Input fits stands = tt
nets_within j p Undriven fits stands = tt
nets_within j p (Constant bit) fits stands = tt
nets_within j p (Copy net) fits stands = (stands.0.within, tt)
nets_within j p (Cell table pins) fits stands = standing_within j p (net_pins pins) stands
nets_within j p (Register latching) fits stands = fits.nets

-- What holds at each index of a list holds of all.
all_of_each : (P : ℕ → Type 0) (nets : List ℕ) → ((p : ℕ) → p < length nets → P (get_or nets p 0)) → AllByRecursion P nets
all_of_each P [] each = tt
all_of_each P (net ∷ nets) each =
    (each 0 (omega arith), all_of_each P nets (λ p less. each (suc p) (omega (arith, less))))

pub all_wirable : (design : Design) (order : List ℕ) (stim : Stim) → Fits (job_of design order stim)
    → AllByRecursion (IsWirable design order) order
all_wirable design order stim fits = all_of_each (IsWirable design order) order (λ p less. (
    let j = job_of design order stim in
    let net = get_or order p 0 in
    let all = fits.all in
    let low = fits.ordering.below p less in
    let within : net < length design.nets = omega (arith, low, all) in
    record {
      within = within;
      few = pins_few design.udps (length design.nets) (driver_in design net) (fits.pins net within);
      nets = subst (λ w. AllByRecursion (λ n. n < w) (net_pins (pins_of (driver_in design net)))) (sym all)
          (nets_within j p (driver_in design net) (fits.pins net within) (fits.arguments p (omega (arith, less, all))));
    }
    ))
