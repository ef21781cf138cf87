-- Instances of primitives fit.
use Rattle.std.proofs.Common.{◌≡◌, ℕ, ◌+◌, ◌<◌, ◌==◌, Bool, true, false, ◌&&◌, nat_le, List, [], ◌∷◌, ◌++◌, length, arith, IfOk, IfSome, leb-true, eqb-true}
use Rattle.std.specs.List.{AllByRecursion}
use Rattle.std.proofs.lemmas.Bool.{and_parts}
use Rattle.design_cell.specs.Table.{Table}
use Rattle.netlist_grammar.specs.Whole.{IsExpr, AreConnections, IsInstance}
use Rattle.netlist_grammar.specs.declared.tree.Connection.{Connection}
use Rattle.netlist_grammar.specs.declared.tree.Connections.{Connections}
use Rattle.netlist_grammar.specs.declared.tree.Connections.TheVariants.{Positional, Named}
use Rattle.netlist_grammar.specs.declared.tree.InstanceItem.{InstanceItem}
use Rattle.design_circuit.specs.Job.{primitive_of, no_primitive}
use Rattle.design_circuit.specs.Fits.{FitsPrimitive, FitsRegister}
use Rattle.design_circuit.specs.declared.design.Pin.{Pin}
use Rattle.elab_nets.specs.declared.fault.ElabErr.TheVariants.{PortMismatch}
use Rattle.elab_nets.specs.State.{with_driver}
use Rattle.elab_names.specs.Here.{Here}
use Rattle.elab_prims.specs.Pins.{live_count}
use Rattle.elab_prims.proofs.PinLemmas.{clocks_fit}
use Rattle.elab_gates.specs.Terminals.{one_net, one_pin}
use Rattle.elab_gates.specs.Primitives.{are_there, terminal_of, connected_pins, latching, udp_driver, connected_terminals, connected_udp, udp_of, udp_item}
use Rattle.elab_tree.specs.Sound.{Within, DriverFits, StandsWell}
use Rattle.elab_tree.proofs.Steps.{also, there_or, chosen, Stays, stays_same, stays_both, stays_driven}
use Rattle.elab_tree.proofs.Lists.{all_by, all_at}
use Rattle.elab_tree.proofs.Nets.{with_driver_drives}
use Rattle.elab_tree.proofs.Terminals.{FitPins, pins_fit, HasPins, pins_later, one_more, no_more, with_pin, net_stays, pin_stays}
use Rattle.elab_tree.proofs.Tables.{TableFits, TablesFit}

-- ---- drivers

table_at : (tables : List Table) (count number : ℕ) → TablesFit count tables → number < count → TableFits (primitive_of tables number)
table_at tables count number fit within = all_at TableFits tables number no_primitive fit.each (let long = fit.long in omega (arith, long, within))

primitive_fits : (tables : List Table) (count number : ℕ) (pins : List Pin) (sequential : Bool) → TablesFit count tables → number < count → (primitive_of tables number).sequential ≡ sequential
    → (primitive_of tables number).inputs ≡ length pins → FitsPrimitive tables sequential number (length pins)
primitive_fits tables count number pins sequential fit within kind many = record {
  within = (let long = fit.long in omega (arith, long, within));
  kind = kind;
  inputs = many;
  few = (let few = (table_at tables count number fit within).few in omega (arith, few, many));
}

register_fits : (tables : List Table) (n count number : ℕ) (pins : List Pin) → TablesFit count tables → number < count → (primitive_of tables number).sequential ≡ true → (primitive_of tables number).inputs ≡ length pins
    → nat_le (live_count pins) 6 ≡ true → FitPins n pins → FitsRegister tables n (latching number (primitive_of tables number) pins)
register_fits tables n count number pins fit within sequential many few fits = record {
  primitive = primitive_fits tables count number pins true fit within sequential many;
  live = leb-true (live_count pins) 6 few;
  nets = pins_fit n pins fits;
  clocks = (clocks_fit (primitive_of tables number) pins).each;
  start = (table_at tables count number fit within).start;
}

udp_driver_fits : (tables : List Table) (n count number at : ℕ) (pins : List Pin) → TablesFit count tables → number < count → (primitive_of tables number).inputs ≡ length pins → FitPins n pins
    → IfOk (udp_driver number (primitive_of tables number) at pins) (DriverFits tables n)
udp_driver_fits tables n count number at pins fit within many fits =
    chosen _ (primitive_of tables number).sequential _ _
    (λ sequential. chosen _ (nat_le (live_count pins) 6) _ _ (λ few. record { pins = register_fits tables n count number pins fit within sequential many few fits; arguments = tt }) (λ _. tt))
    (λ combinational. record { pins = primitive_fits tables count number pins false fit within combinational many; arguments = pins_fit n pins fits })

-- ---- terminals

abbrev pub AreValues : List Connection → Type 0
AreValues cs = AllByRecursion (λ (c : Connection). IfSome c.value IsExpr) cs

terminal_is : (at : ℕ) (c : Connection) → IfSome c.value IsExpr → IfOk (terminal_of at c) IsExpr
terminal_is at c is = there_or IsExpr c.value (PortMismatch at) is

connected_stay : (tables : List Table) (at : ℕ) (before : List Pin) (cs : List Connection) (here : Here) → StandsWell tables here → AreValues cs → FitPins (length here.state.names) before
    → IfOk (connected_pins at before cs here) (HasPins tables (length before + length cs) here)
connected_stay tables at before [] here well all fits = record { stays = stays_same tables Within here well; fits = fits; many = no_more (length before) }
connected_stay tables at before (c ∷ cs) here well all fits =
    also _ _ (terminal_of at c) _ (terminal_is at c all.0) (λ e is.
    also _ _ (one_pin e here) _ (pin_stays tables e here well is) (λ p has.
    pins_later tables (length before + length (c ∷ cs)) (length (before ++ p.0 ∷ []) + length cs) here p.1 (let more = one_more before p.0 (length cs) in omega (arith, more)) has.stays _
    (connected_stay tables at (before ++ p.0 ∷ []) cs p.1 has.stays.well all.1 (with_pin tables before here p fits has))))

-- The net of the output, and so many pins.
pub record HasTerminals (tables : List Table) (count : ℕ) (old : Here) (t : (ℕ × List Pin) × Here) : Type 0 where
  pub stays : Stays tables Within old t.1
  pub fits : FitPins (length t.1.state.names) t.0.1
  pub many : count ≡ length t.0.1

terminals_stay : (tables : List Table) (count at : ℕ) (cs : List Connection) (here : Here) → StandsWell tables here → AreValues cs → length cs ≡ count + 1
    → IfOk (connected_terminals at cs here) (HasTerminals tables count here)
terminals_stay tables count at [] here well all many = tt
terminals_stay tables count at (c ∷ cs) here well all many =
    also _ _ (terminal_of at c) _ (terminal_is at c all.0) (λ e is.
    also _ _ (one_net e here) _ (net_stays tables e here well is) (λ n stays.
    also _ _ (connected_pins at [] cs n.1) _ (connected_stay tables at [] cs n.1 stays.well all.1 tt) (λ p has.
    record { stays = stays_both tables Within here n.1 p.1 stays has.stays; fits = has.fits; many = (let so = has.many in omega (arith, so, many)) })))

-- ---- instances

connected_udp_stays : (tables : List Table) (count number at : ℕ) (cs : List Connection) (here : Here) → TablesFit count tables → number < count → StandsWell tables here → AreValues cs
    → length cs ≡ (primitive_of tables number).inputs + 1 → IfOk (connected_udp number (primitive_of tables number) at cs here) (Stays tables Within here)
connected_udp_stays tables count number at cs here fit within well all many =
    also _ _ (connected_terminals at cs here) _ (terminals_stay tables (primitive_of tables number).inputs at cs here well all many) (λ t has.
    also _ _ (udp_driver number (primitive_of tables number) at t.0.1) _ (udp_driver_fits tables (length t.1.state.names) count number at t.0.1 fit within has.many has.fits) (λ d fits.
    stays_both tables Within here t.1 _ has.stays (stays_driven tables Within t.1 (with_driver t.0.0 d t.1.state) has.stays.well (with_driver_drives tables t.0.0 d t.1.state has.stays.well.sound fits))))

udp_by : (tables : List Table) (count number at : ℕ) (c : Connections) (here : Here) → TablesFit count tables → number < count → StandsWell tables here → AreConnections c
    → IfOk (udp_of number (primitive_of tables number) at c here) (Stays tables Within here)
udp_by tables count number at (Named cs) here fit within well is = tt
udp_by tables count number at (Positional cs) here fit within well is =
    chosen _ (are_there cs && (length cs == (primitive_of tables number).inputs + 1)) _ _
    (λ both. connected_udp_stays tables count number at cs here fit within well (all_by _ cs is)
    (eqb-true _ _ (and_parts (are_there cs) (length cs == (primitive_of tables number).inputs + 1) both).1))
    (λ _. tt)

pub udp_stays : (tables : List Table) (count number : ℕ) (i : InstanceItem) (here : Here) → TablesFit count tables → number < count → StandsWell tables here → IsInstance i
    → IfOk (udp_item number (primitive_of tables number) i here) (Stays tables Within here)
udp_stays tables count number i here fit within well is = udp_by tables count number i.definition.at i.connections here fit within well is.connections
