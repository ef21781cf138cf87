-- What drives a net is a net that is there, or a constant.
use Rattle.std.proofs.Common.{ℕ, ◌+◌, ◌==◌, List, [], ◌∷◌, length, sym, subst, IfOk}
use Rattle.design_cell.specs.Table.{Table}
use Rattle.design_circuit.specs.declared.design.Pin.{Pin}
use Rattle.design_circuit.specs.declared.design.Pin.TheVariants.{Net, Bit, Dead}
use Rattle.design_circuit.specs.declared.design.Driver.{Driver}
use Rattle.design_circuit.specs.declared.name.Name.{Name}
use Rattle.elab_nets.specs.Outcome.{Outcome}
use Rattle.elab_nets.specs.State.{State, with_driver}
use Rattle.elab_bits.specs.declared.run.Lane.{Lane}
use Rattle.elab_bits.specs.Drive.{driver_from, driven_pin, driven_lane, all_driven, fed}
use Rattle.elab_gates.specs.Assigns.{drives}
use Rattle.elab_tree.specs.Sound.{DriverFits, IsSound}
use Rattle.elab_tree.proofs.Steps.{also, chosen, weaker, Drives, drives_same, drives_both}
use Rattle.elab_tree.proofs.Nets.{constant_fits, undriven_fits, with_driver_drives, driven_drives}
use Rattle.elab_tree.proofs.Bits.{FitsPin, FitLanes}

from_fits : (tables : List Table) (n : ℕ) (p : Pin) → FitsPin n p → DriverFits tables n (driver_from p)
from_fits tables n (Net net) fits = record { pins = tt; arguments = (fits, tt) }
from_fits tables n (Bit bit) fits = constant_fits tables n bit
from_fits tables n Dead fits = undriven_fits tables n

pub drives_later : (tables : List Table) (a b : State) → Drives tables a b → (r : Outcome State) → IfOk r (Drives tables b) → IfOk r (Drives tables a)
drives_later tables a b d r h = weaker _ _ r (λ (c : State) (e : Drives tables b c). drives_both tables a b c d e) h

-- The nets of these bits are there still.
pub lanes_driven : (tables : List Table) (a b : State) (ls : List Lane) → Drives tables a b → FitLanes (length a.names) ls → FitLanes (length b.names) ls
lanes_driven tables a b ls d fits = subst (λ (names : List Name). FitLanes (length names) ls) (sym d.same) fits

pin_drives : (tables : List Table) (at : ℕ) (p : Pin) (d : Driver) (s : State) → IsSound tables s → DriverFits tables (length s.names) d → IfOk (driven_pin at p d s) (Drives tables s)
pin_drives tables at (Net net) d s sound fits = driven_drives tables at net d s sound fits
pin_drives tables at (Bit bit) d s sound fits = tt
pin_drives tables at Dead d s sound fits = tt

lane_drives : (tables : List Table) (l r : Lane) (s : State) → IsSound tables s → FitsPin (length s.names) r.pin → IfOk (driven_lane l r s) (Drives tables s)
lane_drives tables l r s sound fits = pin_drives tables l.at l.pin (driver_from r.pin) s sound (from_fits tables _ r.pin fits)

pub all_drive : (tables : List Table) (ls rs : List Lane) (s : State) → IsSound tables s → FitLanes (length s.names) rs → IfOk (all_driven ls rs s) (Drives tables s)
all_drive tables [] rs s sound fits = drives_same tables s sound
all_drive tables (l ∷ ls) [] s sound fits = drives_same tables s sound
all_drive tables (l ∷ ls) (r ∷ rs) s sound fits =
    also _ _ (driven_lane l r s) _ (lane_drives tables l r s sound fits.0) (λ t d.
    drives_later tables s t d _ (all_drive tables ls rs t d.sound (lanes_driven tables s t rs d fits.1)))

pub fed_drives : (tables : List Table) (net : ℕ) (ls : List Lane) (s : State) → IsSound tables s → FitLanes (length s.names) ls → Drives tables s (fed net ls s)
fed_drives tables net [] s sound fits = drives_same tables s sound
fed_drives tables net (l ∷ ls) s sound fits =
    let d = with_driver_drives tables net (driver_from l.pin) s sound (from_fits tables _ l.pin fits.0) in
    drives_both tables s _ _ d (fed_drives tables (net + 1) ls (with_driver net (driver_from l.pin) s) d.sound fits.1)

pub drives_drive : (tables : List Table) (at : ℕ) (ls rs : List Lane) (s : State) → IsSound tables s → FitLanes (length s.names) rs → IfOk (drives at ls rs s) (Drives tables s)
drives_drive tables at ls rs s sound fits = chosen _ (length ls == length rs) _ _ (λ _. all_drive tables ls rs s sound fits) (λ _. tt)
