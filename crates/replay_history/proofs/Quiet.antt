-- A net that reads what it read one step before shows and keeps what it did there.
use Rattle.std.proofs.Common.{◌≡◌, ℕ, ◌-◌, ◌*◌, ◌/◌, ◌<◌, ◌==◌, false, Option, List, [], ◌∷◌, slice_index, unwrap_or, refl, sym, ap, ◌∙◌, arith}
use Rattle.std.proofs.lemmas.Grind.{common_steps}
use Rattle.std.specs.List.{AllByRecursion}
use Rattle.design_cell.specs.declared.value.Value.{Value}
use Rattle.design_cell.proofs.Nexts.{next_idle}
use Rattle.design_circuit.specs.declared.design.Driver.{Driver}
use Rattle.design_circuit.specs.declared.design.Driver.TheVariants.{Input, Undriven, Constant, Copy, Cell, Register}
use Rattle.design_circuit.specs.declared.design.Latching.{Latching}
use Rattle.design_circuit.specs.Fits.{Fits, StandsBefore}
use Rattle.design_circuit.specs.Job.{Job, at, primitive_of}
use Rattle.design_circuit.specs.Order.{arguments_of_driver, net_pins, position_of}
use Rattle.design_circuit.specs.Register.{old_pins, pins_at, updated}
use Rattle.design_circuit.specs.Replay.{Held, driven, held_at, kept, register_kept, table_of}
use Rattle.replay_fans.proofs.Positions.{net_within}
use Rattle.replay_history.specs.Filled.{replayed}
use Rattle.replay_history.specs.Still.{AreStillBefore, IsForcedSame, IsRecordedSame, IsStillAt, LooksSame, Stays}
use Rattle.replay_history.specs.Sweep.{Rests}
use Rattle.design_circuit.specs.Replay.{kept_by}
use Rattle.design_circuit.proofs.TwoBack.{old_later}
use Rattle.replay_history.proofs.Places.{net_there}
use Rattle.replay_history.proofs.Replays.{pins_same, replayed_is}
use Rattle.design_circuit.proofs.DrivenLemmas.{kept_driven}
use Rattle.replay_history.proofs.Writing.{net_at, place_within, step_there}
use Rattle.design_circuit.proofs.Rules.{position_in}

-- What a driver reads is what it read one step before.
abbrev pub ReadsSame : Job → (ℕ → Option Value) → ℕ → ℕ → Driver → Type 0
ReadsSame j forced step net Input = j.recorded (step / j.rounds) net ≡ j.recorded ((step - 1) / j.rounds) net
ReadsSame j forced step net Undriven = Unit {0}
ReadsSame j forced step net (Constant bit) = Unit {0}
ReadsSame j forced step net (Copy argument) = IsStillAt j forced step argument
ReadsSame j forced step net (Cell table pins) = AllByRecursion (IsStillAt j forced step) (net_pins pins)
ReadsSame j forced step net (Register latching) = (1 < step) × AllByRecursion (IsStillAt j forced (step - 1)) (net_pins latching.pins)

-- what the replay shows at a place
abbrev shown_by : Job → (ℕ → Option Value) → ℕ → Value
shown_by j forced place = (replayed j forced place).shown

-- What the replay has of a net at a step, by its driver.
has : (j : Job) → Fits j → (forced : ℕ → Option Value) (step net : ℕ) → step < j.moments * j.rounds → net < j.width → replayed j forced (at j step net) ≡ record { shown = unwrap_or (forced (at j step net)) (driven j (replayed j forced) step net (j.driver net)); kept = kept_by (j.driver net) (driven j (replayed j forced) step net (j.driver net)) }
unfolding held_at
has j fits forced step net less within =
    let position = position_of j.order net in
    let low = position_in j fits net within in
    let steps = step_there j step position low in
    let nets = net_at j step position low ∙ net_there j fits net within in
    replayed_is j fits forced (at j step net) (place_within j step position less low)
    ∙ rw (steps, nets, kept_driven j (replayed j forced) step net (j.driver net)) refl

-- A register that saw no change keeps what it kept.
pub later_kept : (j : Job) (values : ℕ → Value) (kept : Value) (step : ℕ) (latching : Latching) → 1 < step → pins_at j values (step - 2) latching.pins ≡ pins_at j values (step - 1) latching.pins → updated j values kept step latching ≡ kept
later_kept j values kept step latching later same =
    let old : old_pins j values step latching.pins ≡ pins_at j values (step - 1) latching.pins = old_later j values step latching.pins later ∙ same in
    rw old (next_idle (primitive_of j.udps latching.udp) latching.clocks (pins_at j values (step - 1) latching.pins) kept)

not_first : (step : ℕ) → 0 < step → (step == 0) ≡ false
not_first step later = grind (arith, common_steps)

register_same : (j : Job) → Fits j → (forced : ℕ → Option Value) (step net : ℕ) (latching : Latching) → step < j.moments * j.rounds → net < j.width → j.driver net ≡ Register latching → ReadsSame j forced step net (Register latching) → register_kept j (replayed j forced) step net latching ≡ register_kept j (replayed j forced) (step - 1) net latching
register_same j fits forced step net latching less within driver same =
    let later = same.0 in
    let back : (step - 1) - 1 ≡ step - 2 = omega arith in
    let before : step - 1 < j.moments * j.rounds = omega arith in
    let values = shown_by j forced in
    let still : pins_at j values (step - 1) latching.pins ≡ pins_at j values ((step - 1) - 1) latching.pins = pins_same (λ n. values (at j (step - 1) n)) (λ n. values (at j ((step - 1) - 1) n)) latching.pins same.1 in
    let idle = later_kept j values (replayed j forced (at j (step - 1) net)).kept step latching later (sym (rw back at still)) in
    let first : register_kept j (replayed j forced) step net latching ≡ updated j values (replayed j forced (at j (step - 1) net)).kept step latching = rw (not_first step (omega arith)) refl in
    let kept_before : (replayed j forced (at j (step - 1) net)).kept ≡ kept_by (j.driver net) (driven j (replayed j forced) (step - 1) net (j.driver net)) = ap (λ (held : Held). held.kept) (has j fits forced (step - 1) net before within) in
    first ∙ (idle ∙ rw driver at kept_before)

driven_same : (j : Job) → Fits j → (forced : ℕ → Option Value) (step net : ℕ) (driver : Driver) → step < j.moments * j.rounds → net < j.width → j.driver net ≡ driver → ReadsSame j forced step net driver → driven j (replayed j forced) step net driver ≡ driven j (replayed j forced) (step - 1) net driver
driven_same j fits forced step net Input less within is same = same
driven_same j fits forced step net Undriven less within is same = refl
driven_same j fits forced step net (Constant bit) less within is same = refl
driven_same j fits forced step net (Copy argument) less within is same = same
driven_same j fits forced step net (Cell table pins) less within is same =
    ap (table_of j.udps table) (pins_same (λ n. shown_by j forced (at j step n)) (λ n. shown_by j forced (at j (step - 1) n)) pins same)
driven_same j fits forced step net (Register latching) less within is same = register_same j fits forced step net latching less within is same

-- So the net has what it had, where it is forced as it was.
pub stays : (j : Job) → Fits j → (forced : ℕ → Option Value) (step net : ℕ) → step < j.moments * j.rounds → net < j.width → ReadsSame j forced step net (j.driver net) → IsForcedSame j forced step net → Stays j forced step net
stays j fits forced step net less within same forces =
    let value = driven_same j fits forced step net (j.driver net) less within refl same in
    has j fits forced step net less within ∙ rw (value, forces) refl ∙ sym (has j fits forced (step - 1) net (omega arith) within)

-- Each of the nets has what two facts about it give.
pub all_two : (P Q R : ℕ → Type 0) (nets : List ℕ) → ((net : ℕ) → P net → Q net → R net) → AllByRecursion P nets → AllByRecursion Q nets → AllByRecursion R nets
all_two P Q R [] both first second = tt
all_two P Q R (net ∷ nets) both first second = (both net first.0 second.0, all_two P Q R nets both first.1 second.1)

-- The nets that a driver reads stand before its position, so that all of them are still where those before it are.
all_still : (j : Job) (forced : ℕ → Option Value) (step position : ℕ) (nets : List ℕ) → AllByRecursion (StandsBefore j position) nets → AreStillBefore j forced step position nets → AllByRecursion (IsStillAt j forced step) nets
all_still j forced step position nets before still =
    all_two (StandsBefore j position) (λ net. position_of j.order net < position → IsStillAt j forced step net) (IsStillAt j forced step) nets (λ net stands rests. rests stands.before) before still

rests_reads : (j : Job) (forced : ℕ → Option Value) (step position net : ℕ) (driver : Driver) → AllByRecursion (StandsBefore j position) (arguments_of_driver driver) → IsRecordedSame j step net driver → LooksSame j forced step driver → AreStillBefore j forced step position (arguments_of_driver driver) → ReadsSame j forced step net driver
rests_reads j forced step position net Input before recorded looks still = recorded
rests_reads j forced step position net Undriven before recorded looks still = tt
rests_reads j forced step position net (Constant bit) before recorded looks still = tt
rests_reads j forced step position net (Copy argument) before recorded looks still = still.0 before.0.before
rests_reads j forced step position net (Cell table pins) before recorded looks still = all_still j forced step position (net_pins pins) before still
rests_reads j forced step position net (Register latching) before recorded looks still = looks

-- A net that rests once all before it are gone over stays.
pub resting_stays : (j : Job) → Fits j → (forced : ℕ → Option Value) (step position : ℕ) → step < j.moments * j.rounds → position < j.width → Rests j forced step position (slice_index j.order position) → Stays j forced step (slice_index j.order position)
resting_stays j fits forced step position less within rests =
    let net = slice_index j.order position in
    stays j fits forced step net less (net_within j fits position within) (rests_reads j forced step position net (j.driver net) (fits.arguments position within) rests.recorded rests.looks rests.reads) rests.forces
