-- Gates, pullups and pulldowns fit.
use Rattle.std.proofs.Common.{◌≡◌, ℕ, zero, suc, ◌+◌, ◌-◌, ◌≤◌, Bool, true, false, ◌&&◌, nat_le, List, [], ◌∷◌, length, take, drop, subst, arith, IfOk, leb-true, length-drop}
use Rattle.std.specs.List.{AllByRecursion}
use Rattle.std.proofs.lemmas.Bool.{and_parts}
use Rattle.design_cell.specs.Table.{Table}
use Rattle.design_cell.specs.Gate.{FitsGate}
use Rattle.design_cell.specs.declared.gate.Gate.{Gate}
use Rattle.design_cell.specs.declared.gate.Gate.TheVariants as logic
use Rattle.netlist_grammar.specs.Whole.{IsExpr, IsGate}
use Rattle.netlist_grammar.specs.declared.tree.Expr.{Expr}
use Rattle.netlist_grammar.specs.declared.tree.GateKind.{GateKind}
use Rattle.netlist_grammar.specs.declared.tree.GateKind.TheVariants.{Logic, Pullup, Pulldown}
use Rattle.netlist_grammar.specs.declared.tree.GateItem.{GateItem}
use Rattle.design_circuit.specs.declared.design.Pin.{Pin}
use Rattle.design_circuit.specs.declared.design.Driver.{Driver}
use Rattle.design_circuit.specs.declared.design.Driver.TheVariants.{Constant}
use Rattle.elab_nets.specs.State.{State, with_driver}
use Rattle.elab_names.specs.Here.{Here}
use Rattle.elab_gates.specs.Terminals.{one_net, output_nets, input_pins}
use Rattle.elab_gates.specs.Gates.{output_count, takes, cell, each_with, connected_gate, logic_gate, pull, gate_of, gate_item}
use Rattle.elab_tree.specs.Sound.{Within, DriverFits, IsSound, StandsWell}
use Rattle.elab_tree.proofs.Steps.{also, chosen, Stays, stays_both, stays_driven, Drives, drives_same, drives_both}
use Rattle.elab_tree.proofs.Lists.{all_by}
use Rattle.elab_tree.proofs.Nets.{constant_fits, with_driver_drives}
use Rattle.elab_tree.proofs.Terminals.{FitPins, pins_fit, AreExprs, net_stays, outputs_stay, inputs_stay}

all_take : {A : Type 0} (P : A → Type 0) (n : ℕ) (xs : List A) → AllByRecursion P xs → AllByRecursion P (take n xs)
all_take P zero xs h = tt
all_take P (suc n) [] h = tt
all_take P (suc n) (x ∷ xs) h = (h.0, all_take P n xs h.1)

all_drop : {A : Type 0} (P : A → Type 0) (n : ℕ) (xs : List A) → AllByRecursion P xs → AllByRecursion P (drop n xs)
all_drop P zero xs h = h
all_drop P (suc n) [] h = tt
all_drop P (suc n) (x ∷ xs) h = all_drop P n xs h.1

each_drives : (tables : List Table) (nets : List ℕ) (d : Driver) (s : State) → IsSound tables s → DriverFits tables (length s.names) d → Drives tables s (each_with nets d s)
each_drives tables [] d s sound fits = drives_same tables s sound
each_drives tables (net ∷ nets) d s sound fits =
    let first = with_driver_drives tables net d s sound fits in
    drives_both tables s _ _ first (each_drives tables nets d (with_driver net d s) first.sound fits)

-- ---- how many terminals

last_one : (terminals : List Expr) → nat_le 2 (length terminals) ≡ true → length (drop (length terminals - 1) terminals) ≡ 1
last_one terminals is = let two = leb-true 2 (length terminals) is in let rest = length-drop (length terminals - 1) terminals in omega (arith, two, rest)

all_but_one : (terminals : List Expr) → (nat_le 2 (length terminals) && nat_le (length terminals) 11) ≡ true → (1 ≤ length (drop 1 terminals)) × (length (drop 1 terminals) ≤ 10)
all_but_one terminals is =
    let parts = and_parts (nat_le 2 (length terminals)) (nat_le (length terminals) 11) is in
    let two = leb-true 2 (length terminals) parts.0 in
    let few = leb-true (length terminals) 11 parts.1 in
    let rest = length-drop 1 terminals in
    (omega (arith, two, rest), omega (arith, few, rest))

takes_fits : (g : Gate) (terminals : List Expr) → takes g (length terminals) ≡ true → FitsGate g (length (drop (output_count g (length terminals)) terminals))
takes_fits logic.And terminals is = all_but_one terminals is
takes_fits logic.Nand terminals is = all_but_one terminals is
takes_fits logic.Or terminals is = all_but_one terminals is
takes_fits logic.Nor terminals is = all_but_one terminals is
takes_fits logic.Xor terminals is = all_but_one terminals is
takes_fits logic.Xnor terminals is = all_but_one terminals is
takes_fits logic.Buf terminals is = last_one terminals is
takes_fits logic.Not terminals is = last_one terminals is

-- ---- gates

cell_fits : (tables : List Table) (n : ℕ) (g : Gate) (count : ℕ) (pins : List Pin) → FitsGate g count → length pins ≡ 0 + count → FitPins n pins → DriverFits tables n (cell g pins)
cell_fits tables n g count pins takes many fits =
    let same : count ≡ length pins = omega arith in
    record { pins = subst (FitsGate g) same takes; arguments = pins_fit n pins fits }

connected_stays : (tables : List Table) (g : Gate) (outputs inputs : List Expr) (here : Here) → StandsWell tables here → AreExprs outputs → AreExprs inputs → FitsGate g (length inputs)
    → IfOk (connected_gate g outputs inputs here) (Stays tables Within here)
connected_stays tables g outputs inputs here well outs ins takes =
    also _ _ (output_nets [] outputs here) _ (outputs_stay tables [] outputs here well outs) (λ o stays.
    also _ _ (input_pins [] inputs o.1) _ (inputs_stay tables [] inputs o.1 stays.well ins tt) (λ p has.
    stays_both tables Within here p.1 _ (stays_both tables Within here o.1 p.1 stays has.stays)
    (stays_driven tables Within p.1 (each_with o.0 (cell g p.0) p.1.state) has.stays.well
    (each_drives tables o.0 (cell g p.0) p.1.state has.stays.well.sound (cell_fits tables _ g (length inputs) p.0 takes has.many has.fits)))))

logic_stays : (tables : List Table) (g : Gate) (at : ℕ) (terminals : List Expr) (here : Here) → StandsWell tables here → AreExprs terminals → IfOk (logic_gate g at terminals here) (Stays tables Within here)
logic_stays tables g at terminals here well all =
    chosen _ (takes g (length terminals)) _ _
    (λ is. connected_stays tables g _ _ here well (all_take IsExpr (output_count g (length terminals)) terminals all) (all_drop IsExpr (output_count g (length terminals)) terminals all) (takes_fits g terminals is))
    (λ _. tt)

pull_stays : (tables : List Table) (bit : Bool) (at : ℕ) (terminals : List Expr) (here : Here) → StandsWell tables here → AreExprs terminals → IfOk (pull bit at terminals here) (Stays tables Within here)
pull_stays tables bit at [] here well all = tt
pull_stays tables bit at (e ∷ []) here well all =
    also _ _ (one_net e here) _ (net_stays tables e here well all.0) (λ n stays.
    stays_both tables Within here n.1 _ stays (stays_driven tables Within n.1 (with_driver n.0 (Constant bit) n.1.state) stays.well
    (with_driver_drives tables n.0 (Constant bit) n.1.state stays.well.sound (constant_fits tables _ bit))))
pull_stays tables bit at (_ ∷ _ ∷ _) here well all = tt

gate_by : (tables : List Table) (kind : GateKind) (at : ℕ) (terminals : List Expr) (here : Here) → StandsWell tables here → AreExprs terminals → IfOk (gate_of kind at terminals here) (Stays tables Within here)
gate_by tables (Logic g) at terminals here well all = logic_stays tables g at terminals here well all
gate_by tables Pullup at terminals here well all = pull_stays tables true at terminals here well all
gate_by tables Pulldown at terminals here well all = pull_stays tables false at terminals here well all

pub gate_stays : (tables : List Table) (g : GateItem) (here : Here) → StandsWell tables here → IsGate g → IfOk (gate_item g here) (Stays tables Within here)
gate_stays tables g here well is = gate_by tables g.kind g.at g.terminals here well (all_by IsExpr g.terminals is.terminals)
