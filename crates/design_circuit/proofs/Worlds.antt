-- Laws of the worlds of fillings.
use Rattle.std.proofs.Common.{◌≡◌, ℕ, zero, suc, ◌+◌, ◌-◌, ◌/◌, ◌%◌, ◌<◌, ◌≤◌, ◌==◌, ◌&&◌, Bool, true, false, List, [], ◌∷◌, ◌++◌, length, refl, sym, ap, ◌∙◌, arith, add-one, length-append, if◌then◌else◌, subst}
use Rattle.std.proofs.Math.ListN.{get_or-append}
use Rattle.std.proofs.Math.Seq.{get_or-append_seam}
use Rattle.std.proofs.Math.Bool.{and-true}
use Rattle.std.proofs.lemmas.List.{length-map}
use Rattle.std.specs.List.{AllByRecursion, list_any}
use Rattle.design_cell.specs.declared.value.Value.{Value}
use Rattle.design_cell.specs.declared.value.Value.TheVariants.{Zero, One, X, Z}
use Rattle.design_cell.specs.Value.{IsKnown, bit_value, is_unknown}
use Rattle.design_circuit.specs.declared.design.Pin.{Pin}
use Rattle.design_circuit.specs.declared.design.Pin.TheVariants.{Net, Bit, Dead}
use Rattle.design_circuit.specs.declared.design.Table.TheVariants.{Gate, Udp}
use Rattle.design_circuit.specs.declared.design.Driver.{Driver}
use Rattle.design_circuit.specs.declared.design.Driver.TheVariants.{Input, Undriven, Constant, Copy, Cell, Register}
use Rattle.design_circuit.specs.Job.{Job, at, step_of, net_of, places_of}
use Rattle.design_circuit.specs.Fits.{Fits, FitsDriver, is_dead, may_read_filling, chooses_of}
use Rattle.design_circuit.specs.Register.{pins_at}
use Rattle.design_circuit.specs.Rule.{rule, rule_of, known_or, as_values}
use Rattle.design_circuit.specs.World.{decided, bit_at, world, world_bit, IsWorld}
use Rattle.design_circuit.proofs.Gates.{gate_known}
use Rattle.design_circuit.proofs.Prefix.{prefix}
use Rattle.design_circuit.proofs.Rules.{AgreeBelow, rule_local, spot}

-- The world up to n has n bits.
pub world_length : (j : Job) (c : ℕ → Value) (f : ℕ → Bool) (n : ℕ) → length (world j c f n) ≡ n
unfolding world
world_length j c f zero = refl
world_length j c f (suc n) = let ih = world_length j c f n in simp length-append (omega arith)

kept : (j : Job) (c : ℕ → Value) (f : ℕ → Bool) (n i : ℕ) → i < n → bit_at (world j c f (suc n)) i ≡ bit_at (world j c f n) i
unfolding world
kept j c f n i within = let len = world_length j c f n in get_or-append (world j c f n) _ false i (omega (arith, len))

-- The world up to n has at i the bit of the place i.
pub world_prefix : (j : Job) (c : ℕ → Value) (f : ℕ → Bool) (n i : ℕ) → i < n → bit_at (world j c f n) i ≡ world_bit j c f i
world_prefix j c f n i within = prefix (world j c f) false (kept j c f) n i within

-- The bit of a place is its rule's where that is known, else the filling's.
pub world_rule : (j : Job) (c : ℕ → Value) (f : ℕ → Bool) (place : ℕ) → world_bit j c f place ≡ decided (rule j c (bit_at (world j c f place)) place) (f place)
unfolding world
world_rule j c f place =
    let bits = world j c f place in
    let bit = decided (rule j c (bit_at bits) place) (f place) in
    let here : length bits ≡ place = world_length j c f place in
    let seam : bit_at (bits ++ bit ∷ []) place ≡ bit = subst (λ n. bit_at (bits ++ bit ∷ []) n ≡ bit) here (get_or-append_seam bits bit [] false) in
    rw add-one seam

-- The world up to n reads the filling below n, and the certain values below the last of its places.
pub world_local : (j : Job) → Fits j → (c d : ℕ → Value) (f g : ℕ → Bool) (n : ℕ) → n ≤ places_of j → ((k : ℕ) → suc k < n → c k ≡ d k) → AgreeBelow f g n → world j c f n ≡ world j d g n
unfolding world
world_local j fits c d f g zero within certains fillings = refl
world_local j fits c d f g (suc n) within certains fillings =
    let ih = world_local j fits c d f g n (omega arith) (λ k less. certains k (omega arith)) (λ k less. fillings k (omega arith)) in
    let bits = world j d g n in
    let same : rule j c (bit_at bits) n ≡ rule j d (bit_at bits) n = rule_local j fits c d (bit_at bits) (bit_at bits) n (omega arith) (λ k less. certains k (omega arith)) (λ k less. refl) in
    rw (ih, same, fillings n (omega arith)) refl

-- The bit of a place reads the filling up to the place, and the certain values before it.
pub world_bit_local : (j : Job) → Fits j → (c d : ℕ → Value) (f g : ℕ → Bool) (place : ℕ) → place < places_of j → AgreeBelow c d place → AgreeBelow f g (place + 1) → world_bit j c f place ≡ world_bit j d g place
world_bit_local j fits c d f g place within certains fillings =
    ap (λ bits. bit_at bits place) (world_local j fits c d f g (place + 1) (omega arith) (λ k less. certains k (omega arith)) fillings)

-- The bits of all places are a world of the filling.
pub world_is : (j : Job) → Fits j → (c : ℕ → Value) (f : ℕ → Bool) → IsWorld j c f (places_of j) (world_bit j c f)
world_is j fits c f place within =
    let same : rule j c (bit_at (world j c f place)) place ≡ rule j c (world_bit j c f) place = rule_local j fits c c (bit_at (world j c f place)) (world_bit j c f) place within (λ k less. refl) (λ k less. world_prefix j c f place k less) in
    world_rule j c f place ∙ ap (λ v. decided v (f place)) same

-- It has no other: places of a world are those of every world of the filling.
pub world_once : (j : Job) → Fits j → (c : ℕ → Value) (f : ℕ → Bool) (w : ℕ → Bool) → IsWorld j c f (places_of j) w → (place : ℕ) → place < places_of j → w place ≡ world_bit j c f place
world_once j fits c f w is place within = below (suc place) place (omega arith) within
  where
    here : (place : ℕ) → place < places_of j → AgreeBelow w (world_bit j c f) place → w place ≡ world_bit j c f place
    here place within agree =
        is place within ∙ ap (λ (v : Value). decided v (f place)) (rule_local j fits c c w (world_bit j c f) place within (λ k less. refl) agree) ∙ sym (world_is j fits c f place within)

    below : (n place : ℕ) → place < n → place < places_of j → w place ≡ world_bit j c f place
    below zero place before within = absurd (omega arith)
    below (suc n) place before within = here place within (λ k less. below n k (omega arith) (omega arith))

born_known : (recorded : Value) (first : Bool) (bit : Bool) → first && is_unknown recorded ≡ false → IsKnown (known_or recorded (if first then X else bit_value bit))
born_known Zero first bit idle = tt
born_known One first bit idle = tt
born_known X true bit idle = cc
born_known X false false idle = tt
born_known X false true idle = tt
born_known Z true bit idle = cc
born_known Z false false idle = tt
born_known Z false true idle = tt

bit_known : (bit : Bool) → IsKnown (bit_value bit)
bit_known false = tt
bit_known true = tt

pins_known : (j : Job) (b : ℕ → Bool) (step : ℕ) (pins : List Pin) → list_any is_dead pins ≡ false → AllByRecursion IsKnown (pins_at j (as_values b) step pins)
pins_known j b step [] alive = tt
pins_known j b step (Net net ∷ pins) alive = (bit_known (b (at j step net)), pins_known j b step pins alive)
pins_known j b step (Bit bit ∷ pins) alive = (bit_known bit, pins_known j b step pins alive)
pins_known j b step (Dead ∷ pins) alive = cc

rule_of_known : (j : Job) (c : ℕ → Value) (b : ℕ → Bool) (step net : ℕ) (driver : Driver) → FitsDriver j.udps j.width driver → chooses_of j step net driver ≡ false → IsKnown (rule_of j c b step net driver)
rule_of_known j c b step net Input fits idle = born_known (j.recorded (step / j.rounds) net) (step % j.rounds == 0) (b (at j (step - 1) net)) idle
rule_of_known j c b step net Undriven fits idle = let first : (step % j.rounds == 0) && true ≡ false = rw (and-true (step % j.rounds == 0)) idle in born_known X (step % j.rounds == 0) (b (at j (step - 1) net)) first
rule_of_known j c b step net (Constant bit) fits idle = bit_known bit
rule_of_known j c b step net (Copy argument) fits idle = bit_known (b (at j step argument))
rule_of_known j c b step net (Cell (Gate gate) pins) fits idle =
    let values = pins_at j (as_values b) step pins in
    let many : length values ≡ length pins = length-map pins _ in
    gate_known gate values (rw many fits) (pins_known j b step pins idle)
rule_of_known j c b step net (Cell (Udp number) pins) fits idle = cc
rule_of_known j c b step net (Register latching) fits idle = cc

-- Where a world may not read its filling, the rule is known.
pub rule_known : (j : Job) (c : ℕ → Value) (f : ℕ → Bool) (place : ℕ) → Fits j → place < places_of j → may_read_filling j place ≡ false → IsKnown (rule j c f place)
unfolding rule
rule_known j c f place fits within idle =
    rule_of_known j c f (step_of j place) (net_of j place) (j.driver (net_of j place)) (fits.pins (net_of j place) (spot j fits place within).net) idle

pub decided_known : (v : Value) (x y : Bool) → IsKnown v → decided v x ≡ decided v y
decided_known Zero x y known = refl
decided_known One x y known = refl
decided_known X x y known = absurd known
decided_known Z x y known = absurd known

decided_agree : (v : Value) (x y choice : Bool) → (choice ≡ false → IsKnown v) → (choice ≡ true → x ≡ y) → decided v x ≡ decided v y
decided_agree v x y false known agree = decided_known v x y (known refl)
decided_agree v x y true known agree = ap (decided v) (agree refl)

-- Fillings that agree where a world may read them have the same world.
pub worlds_agree : (j : Job) (c : ℕ → Value) (f g : ℕ → Bool) (n : ℕ) → Fits j → n ≤ places_of j → ((i : ℕ) → i < n → may_read_filling j i ≡ true → f i ≡ g i) → world j c f n ≡ world j c g n
unfolding world
worlds_agree j c f g zero fits within agree = refl
worlds_agree j c f g (suc n) fits within agree =
    let earlier = worlds_agree j c f g n fits (omega arith) (λ i less. agree i (omega arith)) in
    let bits = world j c g n in
    let here : decided (rule j c (bit_at bits) n) (f n) ≡ decided (rule j c (bit_at bits) n) (g n) = decided_agree (rule j c (bit_at bits) n) (f n) (g n) (may_read_filling j n) (rule_known j c (bit_at bits) n fits (omega arith)) (agree n (omega arith)) in
    rw (earlier, here) refl

-- They have the same bit of each place.
pub world_bits_agree : (j : Job) (c : ℕ → Value) (f g : ℕ → Bool) (place : ℕ) → Fits j → place < places_of j → ((i : ℕ) → i ≤ place → may_read_filling j i ≡ true → f i ≡ g i) → world_bit j c f place ≡ world_bit j c g place
world_bits_agree j c f g place fits within agree = ap (λ bits. bit_at bits place) (worlds_agree j c f g (place + 1) fits (omega arith) (λ i less. agree i (omega arith)))
