-- The terminals of gates and primitives, and assignments.
use Rattle.std.proofs.Common.{◌≡◌, ℕ, ◌+◌, ◌<◌, ◌≤◌, Bool, List, [], ◌∷◌, ◌++◌, length, ◌∙◌, arith, Option, Some, None, IfOk, IfSome, length-append}
use Rattle.std.specs.List.{AllByRecursion}
use Rattle.design_cell.specs.Table.{Table}
use Rattle.netlist_grammar.specs.Whole.{IsName, IsExpr, IsValue, IsDeclare}
use Rattle.netlist_grammar.specs.Trees.{takes_value}
use Rattle.netlist_grammar.specs.declared.tree.Word.{Word}
use Rattle.netlist_grammar.specs.declared.tree.Declare.{Declare}
use Rattle.netlist_grammar.specs.declared.tree.Expr.{Expr}
use Rattle.design_circuit.specs.Order.{net_pins}
use Rattle.design_circuit.specs.declared.design.Pin.{Pin}
use Rattle.design_circuit.specs.declared.design.Pin.TheVariants as pin
use Rattle.design_circuit.specs.declared.design.Driver.TheVariants.{Undriven}
use Rattle.elab_nets.specs.declared.fault.ElabErr.TheVariants.{PortMismatch, Width}
use Rattle.elab_nets.specs.Outcome.{Outcome, or_refuse}
use Rattle.elab_nets.specs.State.{driven}
use Rattle.elab_names.specs.Here.{Here}
use Rattle.elab_bits.specs.declared.run.Lane.{Lane}
use Rattle.elab_bits.specs.declared.expression.Role.TheVariants.{Driven, Taken, Terminal}
use Rattle.elab_bits.specs.Lanes.{single}
use Rattle.elab_bits.specs.Bits.{bits_of, whole_name}
use Rattle.elab_gates.specs.Terminals.{with_state, single_net, single_pin, one_net, one_pin, output_nets, input_pins}
use Rattle.elab_gates.specs.Assigns.{drives, assigned, assign_item, value_of, value_item}
use Rattle.elab_tree.specs.Sound.{Within, StandsWell}
use Rattle.elab_tree.proofs.Steps.{also, there_or, any_ok, weaker, Stays, stays_same, stays_both, still, stays_driven}
use Rattle.elab_tree.proofs.Lists.{all_append, all_more}
use Rattle.elab_tree.proofs.Nets.{undriven_fits, driven_drives}
use Rattle.elab_tree.proofs.Bits.{FitsPin, pin_more, FitLanes, AreParts, bits_stay, parts_of}
use Rattle.elab_tree.proofs.Driving.{drives_drive}

-- ---- pins

abbrev pub FitPins : ℕ → List Pin → Type 0
FitPins n pins = AllByRecursion (FitsPin n) pins

pins_more : (n m : ℕ) → n ≤ m → (pins : List Pin) → FitPins n pins → FitPins m pins
pins_more n m more pins fits = all_more _ _ (pin_more n m more) pins fits

pub pins_fit : (n : ℕ) (pins : List Pin) → FitPins n pins → AllByRecursion (λ a. a < n) (net_pins pins)
pins_fit n [] fits = tt
pins_fit n (pin.Net net ∷ pins) fits = (fits.0, pins_fit n pins fits.1)
pins_fit n (pin.Bit bit ∷ pins) fits = pins_fit n pins fits.1
pins_fit n (pin.Dead ∷ pins) fits = pins_fit n pins fits.1

single_fits : (n : ℕ) (ls : List Lane) → FitLanes n ls → IfSome (single_pin (single ls)) (FitsPin n)
single_fits n [] fits = tt
single_fits n (l ∷ []) fits = fits.0
single_fits n (_ ∷ _ ∷ _) fits = tt

-- ---- output terminals

abbrev pub AreExprs : List Expr → Type 0
AreExprs es = AllByRecursion IsExpr es

-- What comes with an answer stands well.
abbrev pub StaysWith : {A : Type 0} → List Table → Here → A × Here → Type 0
StaysWith tables old a = Stays tables Within old a.1

pub stays_later : {A : Type 0} (tables : List Table) (a b : Here) → Stays tables Within a b → (r : Outcome (A × Here)) → IfOk r (StaysWith tables b) → IfOk r (StaysWith tables a)
stays_later tables a b s r h = weaker _ _ r (λ c (t : StaysWith tables b c). stays_both tables Within a b c.1 s t) h

pub net_stays : (tables : List Table) (e : Expr) (here : Here) → StandsWell tables here → IsExpr e → IfOk (one_net e here) (StaysWith tables here)
net_stays tables e here well is =
    also _ _ (bits_of Terminal e here) _ (bits_stay tables Terminal e here well (parts_of e is)) (λ b has.
    also (λ _. Unit {0}) _ (or_refuse (single_net (single b.0)) (PortMismatch e.at)) _ (any_ok _) (λ n _.
    also _ _ (driven n.0 n.1 Undriven b.1.state) _ (driven_drives tables n.0 n.1 Undriven b.1.state has.stays.well.sound (undriven_fits tables _)) (λ s d.
    stays_both tables Within here b.1 (with_state b.1 s) has.stays (stays_driven tables Within b.1 s has.stays.well d))))

pub outputs_stay : (tables : List Table) (before : List ℕ) (es : List Expr) (here : Here) → StandsWell tables here → AreExprs es → IfOk (output_nets before es here) (StaysWith tables here)
outputs_stay tables before [] here well all = stays_same tables Within here well
outputs_stay tables before (e ∷ es) here well all =
    also _ _ (one_net e here) _ (net_stays tables e here well all.0) (λ n stays.
    stays_later tables here n.1 stays _ (outputs_stay tables (before ++ n.0 ∷ []) es n.1 stays.well all.1))

-- ---- input terminals

pub record HasPin (tables : List Table) (old : Here) (p : Pin × Here) : Type 0 where
  pub stays : Stays tables Within old p.1
  pub fits : FitsPin (length p.1.state.names) p.0

pub pin_stays : (tables : List Table) (e : Expr) (here : Here) → StandsWell tables here → IsExpr e → IfOk (one_pin e here) (HasPin tables here)
pin_stays tables e here well is =
    also _ _ (bits_of Terminal e here) _ (bits_stay tables Terminal e here well (parts_of e is)) (λ b has.
    also _ _ (or_refuse (single_pin (single b.0)) (Width e.at)) _ (there_or _ (single_pin (single b.0)) _ (single_fits (length b.1.state.names) b.0 has.fits)) (λ p fits.
    record { stays = has.stays; fits = fits }))

-- So many pins, whose nets are there.
pub record HasPins (tables : List Table) (count : ℕ) (old : Here) (p : List Pin × Here) : Type 0 where
  pub stays : Stays tables Within old p.1
  pub fits : FitPins (length p.1.state.names) p.0
  pub many : length p.0 ≡ count

pub pins_later : (tables : List Table) (n m : ℕ) (a b : Here) → m ≡ n → Stays tables Within a b → (r : Outcome (List Pin × Here)) → IfOk r (HasPins tables m b) → IfOk r (HasPins tables n a)
pins_later tables n m a b same s r h = weaker _ _ r (λ (p : List Pin × Here) (t : HasPins tables m b p). by p t) h
  where
    by : (p : List Pin × Here) → HasPins tables m b p → HasPins tables n a p
    by p t = record { stays = stays_both tables Within a b p.1 s t.stays; fits = t.fits; many = t.many ∙ same }

pub one_more : (before : List Pin) (p : Pin) (n : ℕ) → length (before ++ p ∷ []) + n ≡ length before + (n + 1)
one_more before p n = let long = length-append before (p ∷ []) in omega (arith, long)

pub with_pin : (tables : List Table) (before : List Pin) (a : Here) (p : Pin × Here) → FitPins (length a.state.names) before → HasPin tables a p → FitPins (length p.1.state.names) (before ++ p.0 ∷ [])
with_pin tables before a p fits has = all_append _ before (p.0 ∷ []) (pins_more _ _ has.stays.keeps.grows.longer before fits) (has.fits, tt)

pub no_more : (n : ℕ) → n ≡ n + 0
no_more n = omega arith

pub inputs_stay : (tables : List Table) (before : List Pin) (es : List Expr) (here : Here) → StandsWell tables here → AreExprs es → FitPins (length here.state.names) before
    → IfOk (input_pins before es here) (HasPins tables (length before + length es) here)
inputs_stay tables before [] here well all fits = record { stays = stays_same tables Within here well; fits = fits; many = no_more (length before) }
inputs_stay tables before (e ∷ es) here well all fits =
    also _ _ (one_pin e here) _ (pin_stays tables e here well all.0) (λ p has.
    pins_later tables (length before + length (e ∷ es)) (length (before ++ p.0 ∷ []) + length es) here p.1 (let more = one_more before p.0 (length es) in omega (arith, more)) has.stays _
    (inputs_stay tables (before ++ p.0 ∷ []) es p.1 has.stays.well all.1 (with_pin tables before here p fits has)))

-- ---- assignments

assigned_stays : (tables : List Table) (ls : List Lane) (right : Expr) (here : Here) → StandsWell tables here → IsExpr right → IfOk (assigned ls right here) (Stays tables Within here)
assigned_stays tables ls right here well is =
    also _ _ (bits_of Taken right here) _ (bits_stay tables Taken right here well (parts_of right is)) (λ r has.
    also _ _ (drives right.at ls r.0 r.1.state) _ (drives_drive tables right.at ls r.0 r.1.state has.stays.well.sound has.fits) (λ s d.
    stays_both tables Within here r.1 (with_state r.1 s) has.stays (stays_driven tables Within r.1 s has.stays.well d)))

assign_by : (tables : List Table) (left right : Expr) (here : Here) → StandsWell tables here → AreParts left.parts → IsExpr right → IfOk (assign_item left right here) (Stays tables Within here)
assign_by tables left right here well parts is =
    also _ _ (bits_of Driven left here) _ (bits_stay tables Driven left here well parts) (λ l has.
    still tables Within here l.1 has.stays _ (assigned_stays tables l.0 right l.1 has.stays.well is))

pub assign_stays : (tables : List Table) (left right : Expr) (here : Here) → StandsWell tables here → IsExpr left → IsExpr right → IfOk (assign_item left right here) (Stays tables Within here)
assign_stays tables left right here well first second = assign_by tables left right here well (parts_of left first) second

value_by : (tables : List Table) (can : Bool) (w : Word) (v : Option Expr) (here : Here) → StandsWell tables here → IsName w → IsValue can v → IfOk (value_of w v here) (Stays tables Within here)
value_by tables can w None here well name is = stays_same tables Within here well
value_by tables can w (Some right) here well name is = assign_by tables (whole_name w) right here well (name, tt) is.1

pub value_stays : (tables : List Table) (d : Declare) (here : Here) → StandsWell tables here → IsDeclare d → IfOk (value_item d here) (Stays tables Within here)
value_stays tables d here well is = value_by tables (takes_value d.what) d.name d.value here well is.name is.value
