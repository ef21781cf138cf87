-- The replay under forces, place by place.
use Rattle.std.proofs.Common.{◌≡◌, ℕ, zero, suc, ◌+◌, ◌-◌, ◌*◌, ◌%◌, ◌<◌, ◌==◌, Bool, true, false, Option, List, [], ◌∷◌, ◌++◌, length, map, slice_index_or, if◌then◌else◌, refl, sym, ap, ◌∙◌, arith, add-one, length-append, subst}
use Rattle.std.proofs.Math.ListN.{get_or-append}
use Rattle.std.proofs.Math.Seq.{get_or-append_seam}
use Rattle.std.specs.List.{AllByRecursion}
use Rattle.design_cell.specs.declared.value.Value.{Value}
use Rattle.design_circuit.specs.declared.design.Pin.{Pin}
use Rattle.design_circuit.specs.declared.design.Pin.TheVariants.{Net, Bit, Dead}
use Rattle.design_circuit.specs.declared.design.Driver.{Driver}
use Rattle.design_circuit.specs.declared.design.Driver.TheVariants.{Input, Undriven, Constant, Copy, Cell, Register}
use Rattle.design_circuit.specs.declared.design.Latching.{Latching}
use Rattle.design_circuit.specs.Fits.{Fits, FitsDriver, StandsBefore}
use Rattle.design_circuit.specs.Job.{Job, at, step_of, net_of, places_of}
use Rattle.design_circuit.specs.Order.{arguments_of_driver, net_pins, position_of}
use Rattle.design_circuit.specs.Register.{pin_of}
use Rattle.design_circuit.specs.Replay.{Held, blank, driven, held_at, replay_under, register_kept, table_of}
use Rattle.design_circuit.proofs.Prefix.{prefix}
use Rattle.design_circuit.proofs.Rules.{spot, position_in, back_one, old_below, new_below, agree_on, updated_reads}
use Rattle.replay_history.specs.Filled.{replayed}
use Rattle.design_circuit.proofs.DrivenLemmas.{kept_driven}

-- The replay up to n has n places.
replay_length : (j : Job) (forced : ℕ → Option Value) (n : ℕ) → length (replay_under j forced n) ≡ n
unfolding replay_under
replay_length j forced zero = refl
replay_length j forced (suc n) = let ih = replay_length j forced n in simp length-append (omega arith)

stays : (j : Job) (forced : ℕ → Option Value) (n i : ℕ) → i < n → slice_index_or (replay_under j forced (suc n)) i blank ≡ slice_index_or (replay_under j forced n) i blank
unfolding replay_under
stays j forced n i within = let len = replay_length j forced n in get_or-append (replay_under j forced n) _ blank i (omega (arith, len))

-- The replay up to n has at i what the replay up to i has.
pub replay_held : (j : Job) (forced : ℕ → Option Value) (n i : ℕ) → i < n → slice_index_or (replay_under j forced n) i blank ≡ slice_index_or (replay_under j forced (i + 1)) i blank
replay_held j forced n i within = prefix (replay_under j forced) blank (stays j forced) n i within

-- A place has what it is given by those before.
replay_next : (j : Job) (forced : ℕ → Option Value) (place : ℕ) → slice_index_or (replay_under j forced (place + 1)) place blank ≡ held_at j forced (λ k. slice_index_or (replay_under j forced place) k blank) place
unfolding replay_under
replay_next j forced place =
    let earlier = replay_under j forced place in
    let held = held_at j forced (λ k. slice_index_or earlier k blank) place in
    let here : length earlier ≡ place = replay_length j forced place in
    let seam : slice_index_or (earlier ++ held ∷ []) place blank ≡ held = subst (λ n. slice_index_or (earlier ++ held ∷ []) n blank ≡ held) here (get_or-append_seam earlier held [] blank) in
    ap (λ n. slice_index_or (replay_under j forced n) place blank) (add-one place) ∙ seam

-- Two functions of places agree below a place.
abbrev pub AgreeBelow : (ℕ → Held) → (ℕ → Held) → ℕ → Type 0
AgreeBelow f g n = (k : ℕ) → k < n → f k ≡ g k

-- The values of pins, from values that agree on their nets.
pub pins_same : (f g : ℕ → Value) (pins : List Pin) → AllByRecursion (λ net. f net ≡ g net) (net_pins pins) → map (pin_of f) pins ≡ map (pin_of g) pins
pins_same f g [] agree = refl
pins_same f g (Net net ∷ pins) agree = rw (agree.0, pins_same f g pins agree.1) refl
pins_same f g (Bit bit ∷ pins) agree = rw (pins_same f g pins agree) refl
pins_same f g (Dead ∷ pins) agree = rw (pins_same f g pins agree) refl

pub all_by : (P Q : ℕ → Type 0) (nets : List ℕ) → ((net : ℕ) → P net → Q net) → AllByRecursion P nets → AllByRecursion Q nets
all_by P Q [] from all = tt
all_by P Q (net ∷ nets) from all = (from net all.0, all_by P Q nets from all.1)

unless_first : (first : Bool) (start x y : Value) → (first ≡ false → x ≡ y) → (if first then start else x) ≡ (if first then start else y)
unless_first true start x y same = refl
unless_first false start x y same = same refl

register_local : (j : Job) → Fits j → (f g : ℕ → Held) (step p net : ℕ) → net < j.width → (latching : Latching) → FitsDriver j.udps j.width (Register latching) → AgreeBelow f g (step * j.width + p) → register_kept j f step net latching ≡ register_kept j g step net latching
register_local j fits f g step p net within latching driver agree =
    let n = step * j.width + p in
    let shown : (k : ℕ) → k < n → (f k).shown ≡ (g k).shown = λ k less. ap (λ (held : Held). held.shown) (agree k less) in
    let values : (ℕ → Held) → ℕ → Value = λ h k. (h k).shown in
    unless_first (step == 0) (j.start net) _ _ (λ later.
    updated_reads j (values f) (values g) (f (at j (step - 1) net)).kept (g (at j (step - 1) net)).kept step latching
    (agree_on (values f) (values g) n _ shown (old_below j fits step p latching driver later))
    (agree_on (values f) (values g) n _ shown (new_below j fits step p latching driver later))
    (ap (λ (held : Held). held.kept) (agree (at j (step - 1) net) (back_one j.width step (position_of j.order net) p later (position_in j fits net within)))))

-- What a driver gives depends on the places before alone.
driven_local : (j : Job) → Fits j → (f g : ℕ → Held) (step p net : ℕ) → net < j.width → (driver : Driver) → FitsDriver j.udps j.width driver → AllByRecursion (StandsBefore j p) (arguments_of_driver driver) → AgreeBelow f g (step * j.width + p) → driven j f step net driver ≡ driven j g step net driver
driven_local j fits f g step p net within Input driver before agree = refl
driven_local j fits f g step p net within Undriven driver before agree = refl
driven_local j fits f g step p net within (Constant bit) driver before agree = refl
driven_local j fits f g step p net within (Copy argument) driver before agree = ap (λ (held : Held). held.shown) (agree (at j step argument) (let less = before.0.before in omega (arith, less)))
driven_local j fits f g step p net within (Cell table pins) driver before agree =
    ap (table_of j.udps table) (pins_same (λ n. (f (at j step n)).shown) (λ n. (g (at j step n)).shown) pins (all_by (StandsBefore j p) _ (net_pins pins) (λ n stands. ap (λ (held : Held). held.shown) (agree (at j step n) (let less = stands.before in omega (arith, less)))) before))
driven_local j fits f g step p net within (Register latching) driver before agree = register_local j fits f g step p net within latching driver agree

-- So what a place has depends on the places before alone.
pub held_local : (j : Job) → Fits j → (forced : ℕ → Option Value) (f g : ℕ → Held) (place : ℕ) → place < places_of j → AgreeBelow f g place → held_at j forced f place ≡ held_at j forced g place
unfolding held_at
held_local j fits forced f g place within agree =
    let s = spot j fits place within in
    let driver = j.driver (net_of j place) in
    let same = driven_local j fits f g (step_of j place) (place % j.width) (net_of j place) s.net driver s.driver s.before (subst (AgreeBelow f g) (sym s.whole) agree) in
    rw (kept_driven j f (step_of j place) (net_of j place) driver, kept_driven j g (step_of j place) (net_of j place) driver, same) refl

-- The replay has at each place what the places before give.
pub replayed_is : (j : Job) → Fits j → (forced : ℕ → Option Value) (place : ℕ) → place < places_of j → replayed j forced place ≡ held_at j forced (replayed j forced) place
replayed_is j fits forced place within =
    let below : (k : ℕ) → k < place → slice_index_or (replay_under j forced place) k blank ≡ replayed j forced k = λ k less. replay_held j forced place k less ∙ sym (replay_held j forced (places_of j) k (omega arith)) in
    replay_held j forced (places_of j) place within ∙ (replay_next j forced place ∙ held_local j fits forced _ (replayed j forced) place within below)
