-- Readings of the positions of an order.
use Rattle.std.proofs.Common.{◌≡◌, ℕ, zero, suc, ◌+◌, ◌*◌, ◌<◌, ◌≤◌, List, [], ◌∷◌, ◌++◌, length, take, slice_index_or}
use Rattle.std.proofs.Common.{refl, sym, ap, ◌∙◌, arith, subst, add-one, length-append, ⊎_elim}
use Rattle.std.specs.Prelude.{Contains}
use Rattle.std.specs.List.{AllByRecursion}
use Rattle.std.proofs.lemmas.Bool.{cases_eq}
use Rattle.std.proofs.lemmas.List.{length-map, take_more}
use Rattle.design_cell.specs.declared.gate.Gate.{Gate}
use Rattle.design_cell.specs.declared.gate.Gate.TheVariants.{And, Nand, Or, Nor, Xor, Xnor, Buf, Not}
use Rattle.design_cell.specs.Gate.{FitsGate}
use Rattle.design_cell.specs.Table.{Table as Primitive}
use Rattle.design_circuit.specs.declared.design.Driver.{Driver}
use Rattle.design_circuit.specs.declared.design.Driver.TheVariants.{Input, Undriven, Constant, Copy, Cell, Register}
use Rattle.design_circuit.specs.declared.design.Pin.{Pin}
use Rattle.design_circuit.specs.declared.design.Pin.TheVariants.{Net, Bit, Dead}
use Rattle.design_circuit.specs.declared.design.Table.{Table}
use Rattle.design_circuit.specs.declared.design.Table.TheVariants.{Gate as GateTable, Udp}
use Rattle.design_circuit.specs.Fits.{Fits, FitsDriver, FitsTable}
use Rattle.design_circuit.specs.Job.{Job}
use Rattle.design_circuit.specs.Order.{arguments_of_driver, net_pins}
use Rattle.replay_due.specs.Readers.{AreReadersWithin, HasReadings, IsReaderTable, ReadersView, reading_at, readers_of}
use Rattle.replay_due.specs.declared.readings.Reading.{Reading}
use Rattle.replay_fans.specs.Readings.{AreReaders, readings_of, readings_to}
use Rattle.replay_fans.specs.Nets.{driver_on, looked_at}
use Rattle.replay_fans.proofs.Positions.{net_within}

-- What holds of each reading by its place holds of each.
pub each_all : (P : Reading → Type 0) (rs : List Reading) → ((i : ℕ) → i < length rs → P (reading_at rs i))
    → AllByRecursion P rs
each_all P [] each = tt
each_all P (r ∷ rs) each = (each zero (omega arith), each_all P rs (λ i less. each (suc i) (omega (arith, less))))

pub all_each : (P : Reading → Type 0) (rs : List Reading) (i : ℕ) → AllByRecursion P rs → i < length rs
    → P (reading_at rs i)
all_each P [] i all less = absurd (omega (arith, less))
all_each P (r ∷ rs) zero all less = all.0
all_each P (r ∷ rs) (suc i) all less = all_each P rs i all.1 (omega (arith, less))

pub all_front : (P : Reading → Type 0) (xs ys : List Reading) → AllByRecursion P (xs ++ ys) → AllByRecursion P xs
all_front P [] ys all = tt
all_front P (x ∷ xs) ys all = (all.0, all_front P xs ys all.1)

pub all_back : (P : Reading → Type 0) (xs ys : List Reading) → AllByRecursion P (xs ++ ys) → AllByRecursion P ys
all_back P [] ys all = all
all_back P (x ∷ xs) ys all = all_back P xs ys all.1

pub all_join : (P : Reading → Type 0) (xs ys : List Reading) → AllByRecursion P xs → AllByRecursion P ys
    → AllByRecursion P (xs ++ ys)
all_join P [] ys front back = back
all_join P (x ∷ xs) ys front back = (front.0, all_join P xs ys front.1 back)

pub all_of : (P : Reading → Type 0) (position : ℕ) (nets : List ℕ)
    → AllByRecursion (λ net. P record { net = net; position = position }) nets
    → AllByRecursion P (readings_of position nets)
all_of P position [] all = tt
all_of P position (net ∷ nets) all = (all.0, all_of P position nets all.1)

pub of_all : (P : Reading → Type 0) (position : ℕ) (nets : List ℕ) → AllByRecursion P (readings_of position nets)
    → AllByRecursion (λ net. P record { net = net; position = position }) nets
of_all P position [] all = tt
of_all P position (net ∷ nets) all = (all.0, of_all P position nets all.1)

-- One position more.
pub to_more : (j : Job) (nets_by : Driver → List ℕ) (n : ℕ)
    → readings_to j nets_by (n + 1) ≡ readings_to j nets_by n ++ readings_of n (nets_by (driver_on j n))
to_more j nets_by n = rw add-one refl

-- A driver reads and looks back at no more than ten nets.
few_nets : (pins : List Pin) → length (net_pins pins) ≤ length pins
few_nets [] = omega arith
few_nets (Net net ∷ pins) = let fewer = few_nets pins in omega (arith, fewer)
few_nets (Bit bit ∷ pins) = let fewer = few_nets pins in omega (arith, fewer)
few_nets (Dead ∷ pins) = let fewer = few_nets pins in omega (arith, fewer)

few_of_gate : (gate : Gate) (n : ℕ) → FitsGate gate n → n ≤ 10
few_of_gate And n fit = fit.1
few_of_gate Nand n fit = fit.1
few_of_gate Or n fit = fit.1
few_of_gate Nor n fit = fit.1
few_of_gate Xor n fit = fit.1
few_of_gate Xnor n fit = fit.1
few_of_gate Buf n fit = omega (arith, fit)
few_of_gate Not n fit = omega (arith, fit)

few_of_table : (udps : List Primitive) (table : Table) (n : ℕ) → FitsTable udps table n → n ≤ 10
few_of_table udps (GateTable gate) n fit = few_of_gate gate n fit
few_of_table udps (Udp number) n fit = fit.few

few_arguments : (udps : List Primitive) (width : ℕ) (driver : Driver) → FitsDriver udps width driver
    → length (arguments_of_driver driver) ≤ 10
few_arguments udps width Input fit = omega arith
few_arguments udps width Undriven fit = omega arith
few_arguments udps width (Constant bit) fit = omega arith
few_arguments udps width (Copy argument) fit = omega arith
few_arguments udps width (Cell table pins) fit = let nets = few_nets pins in
    let few = few_of_table udps table (length pins) fit in omega (arith, nets, few)
few_arguments udps width (Register latching) fit = omega arith

few_looked : (udps : List Primitive) (width : ℕ) (driver : Driver) → FitsDriver udps width driver
    → length (looked_at driver) ≤ 10
few_looked udps width Input fit = omega arith
few_looked udps width Undriven fit = omega arith
few_looked udps width (Constant bit) fit = omega arith
few_looked udps width (Copy argument) fit = omega arith
few_looked udps width (Cell table pins) fit = omega arith
few_looked udps width (Register latching) fit = let nets = few_nets latching.pins in let few = fit.primitive.few in
    omega (arith, nets, few)

-- Nets of each position that are few and the job's.
pub record AreNets (j : Job) (nets_by : Driver → List ℕ) : Type 0 where
  pub few : (p : ℕ) → p < j.width → length (nets_by (driver_on j p)) ≤ 10
  pub within : (p : ℕ) → p < j.width → AllByRecursion (λ net. net < j.width) (nets_by (driver_on j p))

pub few_readings : (j : Job) (nets_by : Driver → List ℕ) (n : ℕ) → n ≤ j.width → AreNets j nets_by
    → length (readings_to j nets_by n) ≤ 10 * n
few_readings j nets_by zero within are = omega arith
few_readings j nets_by (suc n) within are =
    let before = few_readings j nets_by n (omega (arith, within)) are in
    let few = are.few n (omega (arith, within)) in
    let nets = nets_by (driver_on j n) in
    let both = length-append (readings_to j nets_by n) (readings_of n (nets_by (driver_on j n))) in
    let count = length-map (nets_by (driver_on j n)) (λ (net : ℕ). let reading : Reading =
    record { net = net; position = n } in reading) in
    omega (arith, before, few, both, count)

-- A reading whose net and position are below a number.
abbrev pub IsWithin : ℕ → Reading → Type 0
IsWithin nets reading = (reading.net < nets) × (reading.position < nets)

below_all : (j : Job) (nets : List ℕ) (n : ℕ) → n < j.width → AllByRecursion (λ net. net < j.width) nets
    → AllByRecursion (λ net. (net < j.width) × (n < j.width)) nets
below_all j [] n low all = tt
below_all j (net ∷ nets) n low all = ((all.0, low), below_all j nets n low all.1)

within_by : (j : Job) (nets_by : Driver → List ℕ) (n : ℕ) → n ≤ j.width → AreNets j nets_by
    → AllByRecursion (IsWithin j.width) (readings_to j nets_by n)
within_by j nets_by zero within are = tt
within_by j nets_by (suc n) within are =
    all_join (IsWithin j.width) (readings_to j nets_by n) (readings_of n (nets_by (driver_on j n)))
    (within_by j nets_by n (omega (arith, within)) are) (all_of (IsWithin j.width) n (nets_by (driver_on j n))
    (below_all j (nets_by (driver_on j n)) n (omega (arith, within)) (are.within n (omega (arith, within)))))

pub readings_within : (j : Job) (nets_by : Driver → List ℕ) → AreNets j nets_by
    → AreReadersWithin j.width (readings_to j nets_by j.width)
readings_within j nets_by are =
    let all = within_by j nets_by j.width (omega arith) are in
    record {
      net = λ i less. (all_each (IsWithin j.width) (readings_to j nets_by j.width) i all less).0;
      position = λ i less. (all_each (IsWithin j.width) (readings_to j nets_by j.width) i all less).1;
    }

-- A reading's position is among the readers of its net.
abbrev pub IsAmong : ReadersView → Reading → Type 0
IsAmong readers reading = Contains (readers_of readers reading.net) reading.position

among_by : (j : Job) (nets_by : Driver → List ℕ) (readers : ReadersView) (n p : ℕ) → p < n
    → AllByRecursion (IsAmong readers) (readings_to j nets_by n)
    → AllByRecursion (λ net. Contains (readers_of readers net) p) (nets_by (driver_on j p))
among_by j nets_by readers zero p less all = absurd (omega (arith, less))
among_by j nets_by readers (suc n) p less all =
    ⊎_elim (λ same. (let P : ℕ
    → Type 0 = λ k. AllByRecursion (λ net. Contains (readers_of readers net) k) (nets_by (driver_on j k)) in
    subst P (sym same) (of_all (IsAmong readers) n (nets_by (driver_on j n))
    (all_back (IsAmong readers) (readings_to j nets_by n) (readings_of n (nets_by (driver_on j n))) all))))
    (λ differ. among_by j nets_by readers n p (omega (arith, less, differ))
    (all_front (IsAmong readers) (readings_to j nets_by n) (readings_of n (nets_by (driver_on j n))) all))
    (cases_eq p n)

pub are_readers : (j : Job) (nets_by : Driver → List ℕ) (readers : ReadersView) → IsReaderTable j.width readers
    → HasReadings (readings_to j nets_by j.width) readers → AreReaders j nets_by readers
are_readers j nets_by readers table has = record {
  table = table;
  has = λ p low. among_by j nets_by readers j.width p low (each_all (IsAmong readers) (readings_to j nets_by j.width)
      has);
}

pub arguments_nets : (j : Job) → Fits j
    → ((p : ℕ) → p < j.width → AllByRecursion (λ net. net < j.width) (arguments_of_driver (driver_on j p)))
    → AreNets j arguments_of_driver
arguments_nets j fits within = record {
  few = λ p low. few_arguments j.udps j.width (driver_on j p)
      (fits.pins (slice_index_or j.order p 0) (net_within j fits p low));
  within = within;
}

pub looked_nets : (j : Job) → Fits j
    → ((p : ℕ) → p < j.width → AllByRecursion (λ net. net < j.width) (looked_at (driver_on j p))) → AreNets j looked_at
looked_nets j fits within = record {
  few = λ p low. few_looked j.udps j.width (driver_on j p)
      (fits.pins (slice_index_or j.order p 0) (net_within j fits p low));
  within = within;
}

-- One pin more.
pins_append : (xs ys : List Pin) → net_pins (xs ++ ys) ≡ net_pins xs ++ net_pins ys
pins_append [] ys = refl
pins_append (Net net ∷ xs) ys = ap (λ (nets : List ℕ). net ∷ nets) (pins_append xs ys)
pins_append (Bit bit ∷ xs) ys = pins_append xs ys
pins_append (Dead ∷ xs) ys = pins_append xs ys

net_of_pin : (pins : List Pin) (i : ℕ) (d : Pin) → i < length pins
    → net_pins (take (i + 1) pins) ≡ net_pins (take i pins) ++ net_pins (slice_index_or pins i d ∷ [])
net_of_pin pins i d less = ap net_pins (take_more pins i d less)
    ∙ pins_append (take i pins) (slice_index_or pins i d ∷ [])

pub readings_append : (position : ℕ) (xs ys : List ℕ) → readings_of position (xs ++ ys) ≡ readings_of position xs
    ++ readings_of position ys
readings_append position [] ys = refl
readings_append position (x ∷ xs) ys =
    ap (λ (rs : List Reading). let reading : Reading = record { net = x; position = position } in
    reading ∷ rs) (readings_append position xs ys)

pub pin_more : (position : ℕ) (pins : List Pin) (i : ℕ) (d : Pin) → i < length pins
    → readings_of position (net_pins (take (i + 1) pins)) ≡ readings_of position (net_pins (take i pins))
    ++ readings_of position (net_pins (slice_index_or pins i d ∷ []))
pin_more position pins i d less = ap (readings_of position) (net_of_pin pins i d less)
    ∙ readings_append position (net_pins (take i pins)) (net_pins (slice_index_or pins i d ∷ []))
