-- What stands at a place, by its wiring: the nets that it reads by their positions, and where these keep.
use Rattle.std.proofs.Common.{◌≡◌, ℕ, zero, suc, ◌+◌, ◌-◌, ◌*◌, ◌%◌, ◌<◌, ◌≤◌, ◌^◌, Bool, List, [], ◌∷◌, length, map}
use Rattle.std.proofs.Common.{refl, sym, ap, ◌∙◌, arith, subst}
use Rattle.std.specs.List.{AllByRecursion, list_all}
use Rattle.std.proofs.lemmas.List.{get_or-map, length-map}
use Rattle.std.proofs.Math.Nat.{div-lt_iff_lt-mul}
use Rattle.design_cell.specs.declared.value.Value.{Value}
use Rattle.design_cell.specs.declared.gate.Gate.{Gate as AGate}
use Rattle.design_circuit.specs.declared.circuit.Circuit.{Circuit}
use Rattle.design_circuit.specs.declared.spot.Spot.{Spot}
use Rattle.design_circuit.specs.declared.design.Driver.{Driver}
use Rattle.design_circuit.specs.declared.design.Driver.TheVariants.{Input, Undriven, Constant, Copy, Cell, Register}
use Rattle.design_circuit.specs.declared.design.Latching.{Latching}
use Rattle.design_circuit.specs.declared.design.Pin.{Pin}
use Rattle.design_circuit.specs.declared.design.Pin.TheVariants.{Net, Bit, Dead}
use Rattle.design_circuit.specs.declared.design.Table.{Table}
use Rattle.design_circuit.specs.declared.design.Table.TheVariants.{Gate, Udp}
use Rattle.design_circuit.specs.Circuit.{IsSpot, Reach, job_in}
use Rattle.design_circuit.specs.Fits.{Fits}
use Rattle.design_circuit.specs.Job.{Job, at, driver_in, net_of, places_of, step_of}
use Rattle.design_circuit.specs.Order.{net_pins, position_of}
use Rattle.design_circuit.proofs.Rules.{spot}
use Rattle.design_wiring.specs.Wired.{Wire, kind_of, kind_of_table, pins_of, placed, wire_at, wire_of, wired}
use Rattle.design_wiring.specs.declared.wiring.Kind.{Kind}
use Rattle.design_wiring.specs.declared.wiring.Kind.TheVariants as kind
use Rattle.wave_class.specs.Facts.{AreFacts, Facts}
use Rattle.wave_class.specs.Keeps.{cell_chooses, nets_keep}
use Rattle.wave_class.specs.Wires.{AreWiresOf, Reaches, Stands, StandsCell, positions_keep}
use Rattle.wave_class.proofs.StepBefore.{keeps_at}

-- The wire at its position.
pub wire_there : (circuit : Circuit) → Fits (job_in circuit) → (wires : List Wire) (place position : ℕ)
    → AreWiresOf circuit wires → place < places_of (job_in circuit) → position ≡ place % (job_in circuit).width
    → wire_at wires position
    ≡ wire_of (job_in circuit).order ((job_in circuit).driver (net_of (job_in circuit) place))
wire_there circuit fits wires place position are within is =
    let j = job_in circuit in
    let low = (spot j fits place within).position in
    let all = fits.all in
    ap (λ (ws : List Wire). wire_at ws position) are ∙ ap (wire_at (wired circuit.design.now circuit.order.now)) is
    ∙ get_or-map (λ net. wire_of circuit.order.now (driver_in circuit.design.now net)) circuit.order.now
    (place % j.width) 0 _ (omega (arith, low, all))

pub position_there : (circuit : Circuit) → Fits (job_in circuit) → (wires : List Wire) (place position : ℕ)
    → AreWiresOf circuit wires → place < places_of (job_in circuit) → position ≡ place % (job_in circuit).width
    → position < length wires
position_there circuit fits wires place position are within is =
    let low = (spot (job_in circuit) fits place within).position in
    let all = fits.all in
    let long = length-map circuit.order.now (λ net. wire_of circuit.order.now (driver_in circuit.design.now net)) in
    let count = ap length are in
    omega (arith, low, all, long, count, is)

-- The spot of a place.
abbrev pub spot_here : Job → ℕ → Spot
spot_here j place = record { step = step_of j place; position = place % j.width; net = net_of j place }

pub is_spot : (j : Job) → Fits j → (place : ℕ) → place < places_of j → IsSpot j place (spot_here j place)
is_spot j fits place within =
    let s = spot j fits place within in
    let low = s.position in
    let steps : step_of j place < j.moments * j.rounds =
    (div-lt_iff_lt-mul {x = place} (omega (arith, low))).1 (omega (arith, within)) in
    record {
      step = refl;
      position = refl;
      net = refl;
      step_within = steps;
      position_within = s.position;
      net_within = s.net;
      place_is = s.whole;
      place_within = within;
    }

-- What reads pins as a cell does is a cell.
pub record IsCellHere (j : Job) (place : ℕ) (table : Table) (pins : List Pin) : Type 0 where
  pub own : List Pin
  pub driver : j.driver (net_of j place) ≡ Cell table own
  pub pins_are : pins ≡ map (placed j.order) own

same_table : (s t : Table) → kind_of_table s ≡ kind_of_table t → s ≡ t
same_table (Gate g) (Gate h) same = cc
same_table (Gate g) (Udp n) same = cc
same_table (Udp m) (Gate h) same = cc
same_table (Udp m) (Udp n) same = cc

no_table : (k : Kind) (table : Table) → k ≡ kind_of_table table → ((gate : AGate) → k ≡ kind.Gate gate → ⊥)
    → ((number : ℕ) → k ≡ kind.Udp number → ⊥) → ⊥
no_table k (Gate gate) is no_gate no_udp = no_gate gate is
no_table k (Udp number) is no_gate no_udp = no_udp number is

pub cell_here : (j : Job) (place : ℕ) (table : Table) (pins : List Pin) → StandsCell j place table pins
    → IsCellHere j place table pins
cell_here j place table pins stands = by (j.driver (net_of j place)) refl
    (ap (λ (w : Wire). w.kind) stands) (sym (ap (λ (w : Wire). w.pins) stands))
  where
    by : (driver : Driver) → j.driver (net_of j place) ≡ driver → kind_of driver ≡ kind_of_table table
        → pins ≡ map (placed j.order) (pins_of driver) → IsCellHere j place table pins
    by Input is k p = absurd (no_table kind.Input table k (λ g e. cc) (λ n e. cc))
    by Undriven is k p = absurd (no_table kind.Undriven table k (λ g e. cc) (λ n e. cc))
    by (Constant bit) is k p = absurd (no_table (kind.Constant bit) table k (λ g e. cc) (λ n e. cc))
    by (Copy net) is k p = absurd (no_table kind.Copy table k (λ g e. cc) (λ n e. cc))
    by (Cell own_table own) is k p =
        record { own = own; driver = is ∙ ap (λ t. Cell t own) (same_table own_table table k); pins_are = p }
    by (Register latching) is k p = absurd (no_table kind.Register table k (λ g e. cc) (λ n e. cc))

-- So for a copy, a register, an input and a constant.
pub record IsCopyHere (j : Job) (place : ℕ) (pins : List Pin) : Type 0 where
  pub net : ℕ
  pub driver : j.driver (net_of j place) ≡ Copy net
  pub pins_are : pins ≡ Net (position_of j.order net) ∷ []

pub copy_here : (j : Job) (place : ℕ) (pins : List Pin) → Stands j place kind.Copy pins → IsCopyHere j place pins
copy_here j place pins stands = by (j.driver (net_of j place)) refl
    (ap (λ (w : Wire). w.kind) stands) (sym (ap (λ (w : Wire). w.pins) stands))
  where
    by_table : (table : Table) → kind_of_table table ≡ kind.Copy → ⊥
    by_table (Gate gate) k = cc
    by_table (Udp number) k = cc

    by : (driver : Driver) → j.driver (net_of j place) ≡ driver → kind_of driver ≡ kind.Copy
        → pins ≡ map (placed j.order) (pins_of driver) → IsCopyHere j place pins
    by Input is k p = cc
    by Undriven is k p = cc
    by (Constant bit) is k p = cc
    by (Copy net) is k p = record { net = net; driver = is; pins_are = p }
    by (Cell table own) is k p = absurd (by_table table k)
    by (Register latching) is k p = cc

pub input_here : (j : Job) (place : ℕ) → kind_of (j.driver (net_of j place)) ≡ kind.Input
    → j.driver (net_of j place) ≡ Input
input_here j place = by (j.driver (net_of j place))
  where
    by_table : (table : Table) → kind_of_table table ≡ kind.Input → ⊥
    by_table (Gate gate) k = cc
    by_table (Udp number) k = cc

    by : (driver : Driver) → kind_of driver ≡ kind.Input → driver ≡ Input
    by Input k = refl
    by Undriven k = cc
    by (Constant bit) k = cc
    by (Copy net) k = cc
    by (Cell table own) k = absurd (by_table table k)
    by (Register latching) k = cc

pub constant_here : (j : Job) (place : ℕ) (bit : Bool) → kind_of (j.driver (net_of j place)) ≡ kind.Constant bit
    → j.driver (net_of j place) ≡ Constant bit
constant_here j place bit = by (j.driver (net_of j place))
  where
    by_table : (table : Table) → kind_of_table table ≡ kind.Constant bit → ⊥
    by_table (Gate gate) k = cc
    by_table (Udp number) k = cc

    by : (driver : Driver) → kind_of driver ≡ kind.Constant bit → driver ≡ Constant bit
    by Input k = cc
    by Undriven k = cc
    by (Constant b) k = cc
    by (Copy net) k = cc
    by (Cell table own) k = absurd (by_table table k)
    by (Register latching) k = cc

pub register_here : (j : Job) (place : ℕ) (pins : List Pin) → Stands j place kind.Register pins
    → (latching : Latching) × (j.driver (net_of j place) ≡ Register latching)
    × (pins ≡ map (placed j.order) latching.pins)
register_here j place pins stands = by (j.driver (net_of j place)) refl
    (ap (λ (w : Wire). w.kind) stands) (sym (ap (λ (w : Wire). w.pins) stands))
  where
    by_table : (table : Table) → kind_of_table table ≡ kind.Register → ⊥
    by_table (Gate gate) k = cc
    by_table (Udp number) k = cc

    by : (driver : Driver) → j.driver (net_of j place) ≡ driver → kind_of driver ≡ kind.Register
        → pins ≡ map (placed j.order) (pins_of driver)
        → (latching : Latching) × (j.driver (net_of j place) ≡ Register latching)
        × (pins ≡ map (placed j.order) latching.pins)
    by Input is k p = cc
    by Undriven is k p = cc
    by (Constant bit) is k p = cc
    by (Copy net) is k p = cc
    by (Cell table own) is k p = absurd (by_table table k)
    by (Register latching) is k p = (latching, is, p)

-- The nets of pins, by their positions.
pub nets_placed : (order : List ℕ) (own : List Pin)
    → net_pins (map (placed order) own) ≡ map (position_of order) (net_pins own)
nets_placed order [] = refl
nets_placed order (Net net ∷ own) = ap (λ (ns : List ℕ). position_of order net ∷ ns) (nets_placed order own)
nets_placed order (Bit bit ∷ own) = nets_placed order own
nets_placed order (Dead ∷ own) = nets_placed order own

-- A dead pin stays dead, so that a cell chooses by either.
pub chooses_placed : (order : List ℕ) (table : Table) (own : List Pin)
    → cell_chooses table (map (placed order) own) ≡ cell_chooses table own
chooses_placed order (Gate gate) own = dead own
  where
    dead : (ps : List Pin) → cell_chooses (Gate gate) (map (placed order) ps) ≡ cell_chooses (Gate gate) ps
    dead [] = refl
    dead (Net net ∷ ps) = dead ps
    dead (Bit bit ∷ ps) = dead ps
    dead (Dead ∷ ps) = refl
chooses_placed order (Udp number) own = refl

-- Nets whose places at a step stand before a place reach it from the step's first place.
pub nets_reach : (j : Job) (has : ℕ → Type 0) (place step first : ℕ) (nets : List ℕ) → first ≡ step * j.width
    → place ≤ 2 ^ 40 → ((k : ℕ) → k < place → has k) → AllByRecursion (Reach j (λ k. k < place) step) nets
    → AllByRecursion (Reaches has first) (map (position_of j.order) nets)
nets_reach j has place step first [] is few all reach = tt
nets_reach j has place step first (net ∷ nets) is few all reach =
    let less = reach.0.has_it in
    let there : first + position_of j.order net < place = omega (arith, less, is) in (
      record { small = omega (arith, there, few); has_it = all (first + position_of j.order net) there },
      nets_reach j has place step first nets is few all reach.1,
    )

-- They keep there as the nets do.
pub nets_keep_there : (j : Job) → Fits j → (c : ℕ → Value) (facts : ℕ → Facts) (place step first : ℕ) (nets : List ℕ)
    → AreFacts j c facts place → first ≡ step * j.width → AllByRecursion (Reach j (λ k. k < place) step) nets
    → list_all (λ position. (facts (first + position)).keeps) (map (position_of j.order) nets)
    ≡ nets_keep j c step nets
nets_keep_there j fits c facts place step first [] are is reach = refl
nets_keep_there j fits c facts place step first (net ∷ nets) are is reach =
    let here : first + position_of j.order net ≡ at j step net = ap (λ f. f + position_of j.order net) is in
    let one = ap (λ k. (facts k).keeps) here ∙ (are (at j step net) reach.0.has_it).keeps
    ∙ keeps_at j fits c step net reach.0.within in
    rw (one, nets_keep_there j fits c facts place step first nets are is reach.1) refl

-- The same of pins that are named by their positions.
pub pins_reach : (j : Job) (has : ℕ → Type 0) (place step first : ℕ) (pins own : List Pin)
    → pins ≡ map (placed j.order) own → first ≡ step * j.width → place ≤ 2 ^ 40 → ((k : ℕ) → k < place → has k)
    → AllByRecursion (Reach j (λ k. k < place) step) (net_pins own)
    → AllByRecursion (Reaches has first) (net_pins pins)
pins_reach j has place step first pins own are is few all reach =
    subst (AllByRecursion (Reaches has first)) (sym (ap net_pins are ∙ nets_placed j.order own))
    (nets_reach j has place step first (net_pins own) is few all reach)

pub pins_keep_there : (j : Job) → Fits j
    → (c : ℕ → Value) (facts : ℕ → Facts) (place step first : ℕ) (pins own : List Pin)
    → pins ≡ map (placed j.order) own → AreFacts j c facts place → first ≡ step * j.width
    → AllByRecursion (Reach j (λ k. k < place) step) (net_pins own)
    → positions_keep facts first pins ≡ nets_keep j c step (net_pins own)
pins_keep_there j fits c facts place step first pins own pins_are are is reach =
    ap (list_all (λ position. (facts (first + position)).keeps)) (ap net_pins pins_are ∙ nets_placed j.order own)
    ∙ nets_keep_there j fits c facts place step first (net_pins own) are is reach

-- The first place of the step, of the one before and of the one before that.
pub first_here : (j : Job) → Fits j → (place position : ℕ) → place < places_of j → position ≡ place % j.width
    → place - position ≡ step_of j place * j.width
first_here j fits place position within is =
    let whole = (spot j fits place within).whole in
    omega (arith, whole, is)

pub first_back : (w step : ℕ) → step * w - w ≡ (step - 1) * w
first_back w zero = let e : zero - 1 ≡ zero = omega arith in rw e (omega arith)
first_back w (suc t) = let e : suc t - 1 ≡ t = omega arith in rw e (omega arith)

pub steps_back : (w step : ℕ) → 0 < w → 3 * w ≤ step * w → 3 ≤ step
steps_back w zero some more = absurd (omega (arith, some, more))
steps_back w (suc zero) some more = absurd (omega (arith, some, more))
steps_back w (suc (suc zero)) some more = absurd (omega (arith, some, more))
steps_back w (suc (suc (suc t))) some more = omega arith

pub later_step : (w step position place : ℕ) → step * w + position ≡ place → position < w → w ≤ place → 0 < step
later_step w zero position place whole low more = absurd (omega (arith, whole, low, more))
later_step w (suc t) position place whole low more = omega arith
