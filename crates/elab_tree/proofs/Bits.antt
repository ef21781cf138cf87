-- The bits of an expression are nets that are there.
use Rattle.std.proofs.Common.{◌≡◌, ℕ, zero, suc, ◌+◌, ◌<◌, ◌≤◌, Bool, true, false, ◌&&◌, nat_le, List, [], ◌∷◌, length, refl, arith, Option, Some, None, IfOk, IfSome, if◌then◌else◌, leb-true}
use Rattle.std.specs.List.{AllByRecursion}
use Rattle.std.proofs.lemmas.Bool.{and_parts}
use Rattle.std.proofs.lemmas.Bool.Decides.{nat_tests}
use Rattle.design_cell.specs.Table.{Table}
use Rattle.netlist_grammar.specs.Trees.{Range}
use Rattle.netlist_grammar.specs.Whole.{IsName, IsPart, IsExpr}
use Rattle.netlist_grammar.specs.declared.tree.Word.{Word}
use Rattle.netlist_grammar.specs.declared.tree.Part.{Part}
use Rattle.netlist_grammar.specs.declared.tree.PartKind.{PartKind}
use Rattle.netlist_grammar.specs.declared.tree.PartKind.TheVariants.{Whole, Bit, Slice, Literal}
use Rattle.netlist_grammar.specs.declared.tree.Expr.{Expr}
use Rattle.netlist_grammar.specs.declared.tree.NetKind.{NetKind}
use Rattle.netlist_grammar.specs.declared.tree.NetKind.TheVariants as kind
use Rattle.design_circuit.specs.declared.design.Pin.{Pin}
use Rattle.design_circuit.specs.declared.design.Pin.TheVariants as pin
use Rattle.elab_nets.specs.declared.fault.ElabErr.TheVariants.{BadName}
use Rattle.elab_nets.specs.Outcome.{Outcome, or_refuse}
use Rattle.elab_nets.specs.Ranges.{width_of, offset, within}
use Rattle.elab_nets.specs.State.{net_count}
use Rattle.elab_names.specs.declared.scope.Entry.{Entry}
use Rattle.elab_names.specs.Scope.{entry_of}
use Rattle.elab_names.specs.Here.{Here}
use Rattle.elab_bits.specs.declared.expression.Role.{Role}
use Rattle.elab_bits.specs.declared.expression.Role.TheVariants.{Driven, Taken, Terminal}
use Rattle.elab_bits.specs.declared.run.Lane.{Lane}
use Rattle.elab_bits.specs.Lanes.{lanes_in, literal_lanes}
use Rattle.elab_bits.specs.Bits.{known_or_wire, name_lanes, whole_lanes, net_range, between, select_lanes, literal_bits, part_kind_lanes, part_lanes, lanes_of, bits_of}
use Rattle.elab_tree.specs.Sound.{Within, IsMade, StandsWell, Knows}
use Rattle.elab_tree.proofs.Steps.{also, there_or, weaker, Stays, stays_same, stays_both}
use Rattle.elab_tree.proofs.Lists.{all_append, all_by, all_more}
use Rattle.elab_tree.proofs.Names.{IsKnown, introduced_stays}

-- A pin that is a net is one of so many.
abbrev pub FitsPin : ℕ → Pin → Type 0
FitsPin n (pin.Net net) = net < n
FitsPin n (pin.Bit bit) = Unit {0}
FitsPin n pin.Dead = Unit {0}

pub pin_more : (n m : ℕ) → n ≤ m → (p : Pin) → FitsPin n p → FitsPin m p
pin_more n m more (pin.Net net) fits = omega arith
pin_more n m more (pin.Bit bit) fits = tt
pin_more n m more pin.Dead fits = tt

abbrev pub FitLanes : ℕ → List Lane → Type 0
FitLanes n ls = AllByRecursion (λ (l : Lane). FitsPin n l.pin) ls

pub lanes_more : (n m : ℕ) → n ≤ m → (ls : List Lane) → FitLanes n ls → FitLanes m ls
lanes_more n m more ls fits = all_more _ _ (λ (l : Lane) (h : FitsPin n l.pin). pin_more n m more l.pin h) ls fits

pub run_fits : (n at first count : ℕ) → first + count ≤ n → FitLanes n (lanes_in at first count)
run_fits n at first zero fits = tt
run_fits n at first (suc count) fits = (omega arith, run_fits n at (first + 1) count (omega arith))

literal_fits : (n at size value : ℕ) → FitLanes n (literal_lanes at size value)
literal_fits n at zero value = tt
literal_fits n at (suc size) value = (tt, literal_fits n at size value)

-- ---- names

found_made : (here : Here) → Knows here.scope here.state.names → (name : List ℕ) (o : Option Entry) → entry_of here.scope name ≡ o → IfSome o (IsMade (length here.state.names))
found_made here knows name None at = tt
found_made here knows name (Some e) at = knows.nets name e at

known_stays : (tables : List Table) (w : Word) (here : Here) → StandsWell tables here → IsName w → (o : Option Entry) → entry_of here.scope w.text ≡ o → IfOk (known_or_wire o w here) (IsKnown tables here)
known_stays tables w here well name (Some e) at = record { stays = stays_same tables Within here well; made = well.knows.nets w.text e at }
known_stays tables w here well name None at = introduced_stays tables kind.Wire None w here well name tt at

-- The bits before fit, and so do those of the name.
name_fits : (n : ℕ) (role : Role) (before : List Lane) (at : ℕ) (w : Word) (e : Entry) → FitLanes n before → (what : NetKind) → e.base + net_count what e.range ≤ n → IfOk (name_lanes role before at w what e) (FitLanes n)
name_fits n role before at w e fits kind.Input made = all_append _ before _ fits (run_fits n at e.base (width_of e.range) made)
name_fits n role before at w e fits kind.Output made = all_append _ before _ fits (run_fits n at e.base (width_of e.range) made)
name_fits n role before at w e fits kind.Wire made = all_append _ before _ fits (run_fits n at e.base (width_of e.range) made)
name_fits n role before at w e fits kind.Supply0 made = all_append _ before _ fits (run_fits n at e.base (width_of e.range) made)
name_fits n role before at w e fits kind.Supply1 made = all_append _ before _ fits (run_fits n at e.base (width_of e.range) made)
name_fits n Driven before at w e fits kind.Reg made = tt
name_fits n Taken before at w e fits kind.Reg made = tt
name_fits n Terminal before at w e fits kind.Reg made = all_append _ before _ fits (tt, tt)

-- ---- what bits are behind a step

-- Elaboration stands well, and the nets of the bits are there.
pub record HasBits (tables : List Table) (old : Here) (l : List Lane × Here) : Type 0 where
  pub stays : Stays tables Within old l.1
  pub fits : FitLanes (length l.1.state.names) l.0

pub bits_later : (tables : List Table) (a b : Here) → Stays tables Within a b → (r : Outcome (List Lane × Here)) → IfOk r (HasBits tables b) → IfOk r (HasBits tables a)
bits_later tables a b s r h = weaker _ _ r (λ (l : List Lane × Here) (t : HasBits tables b l). by l t) h
  where
    by : (l : List Lane × Here) → HasBits tables b l → HasBits tables a l
    by l t = record { stays = stays_both tables Within a b l.1 s t.stays; fits = t.fits }

whole_stay : (tables : List Table) (role : Role) (before : List Lane) (at : ℕ) (w : Word) (here : Here) → StandsWell tables here → IsName w → FitLanes (length here.state.names) before
    → IfOk (whole_lanes role before at w here) (HasBits tables here)
whole_stay tables role before at w here well name fits =
    also _ _ (known_or_wire (entry_of here.scope w.text) w here) _ (known_stays tables w here well name (entry_of here.scope w.text) refl) (λ k known.
    also _ _ (name_lanes role before at w k.0.what k.0) _
    (name_fits (length k.1.state.names) role before at w k.0 (lanes_more _ _ known.stays.keeps.grows.longer before fits) k.0.what known.made) (λ ls all.
    record { stays = known.stays; fits = all }))

-- ---- selects

some_if : (b : Bool) (P : ℕ × ℕ → Type 0) (r : ℕ × ℕ) → (b ≡ true → P r) → IfSome (if b then Some r else None) P
some_if true P r h = h refl
some_if false P r h = tt

within_far : (r : ℕ × ℕ) (j : ℕ) → within r j ≡ true → offset r j ≤ offset r r.1
within_far r j inside = grind (arith, nat_tests)

-- The nets of a select are among those of the name.
between_fits : (base : ℕ) (range : Range) (i j : ℕ) → IfSome (between base range i j) (λ (r : ℕ × ℕ). r.0 + r.1 ≤ base + width_of range)
between_fits base None i j = tt
between_fits base (Some r) i j =
    some_if (within r i && within r j && nat_le (offset r i) (offset r j)) _ _ (λ both. (
    let parts = and_parts (within r i && within r j) (nat_le (offset r i) (offset r j)) both in
    let inside = and_parts (within r i) (within r j) parts.0 in
    let ordered : offset r i ≤ offset r j = leb-true _ _ parts.1 in
    let far : offset r j ≤ offset r r.1 = within_far r j inside.1 in
    omega (arith, ordered, far)))

select_by : (n base : ℕ) (range : Range) (i j : ℕ) → base + width_of range ≤ n → IfSome (between base range i j) (λ (r : ℕ × ℕ). r.0 + r.1 ≤ n)
select_by n base range i j made = by (between base range i j) (between_fits base range i j)
  where
    by : (o : Option (ℕ × ℕ)) → IfSome o (λ (r : ℕ × ℕ). r.0 + r.1 ≤ base + width_of range) → IfSome o (λ (r : ℕ × ℕ). r.0 + r.1 ≤ n)
    by None h = tt
    by (Some r) h = omega arith

select_fits : (n base : ℕ) (what : NetKind) (range : Range) (i j : ℕ) → base + net_count what range ≤ n → IfSome (between base (net_range what range) i j) (λ (r : ℕ × ℕ). r.0 + r.1 ≤ n)
select_fits n base kind.Input range i j made = select_by n base range i j made
select_fits n base kind.Output range i j made = select_by n base range i j made
select_fits n base kind.Wire range i j made = select_by n base range i j made
select_fits n base kind.Supply0 range i j made = select_by n base range i j made
select_fits n base kind.Supply1 range i j made = select_by n base range i j made
select_fits n base kind.Reg range i j made = tt

lanes_select : (before : List Lane) (at : ℕ) (w : Word) (i j : ℕ) (here : Here) → Knows here.scope here.state.names → FitLanes (length here.state.names) before
    → IfOk (select_lanes before at w i j here.scope) (FitLanes (length here.state.names))
lanes_select before at w i j here knows fits =
    also (IsMade (length here.state.names)) _ (or_refuse (entry_of here.scope w.text) (BadName w.at)) _ (there_or _ (entry_of here.scope w.text) _ (found_made here knows w.text (entry_of here.scope w.text) refl)) (λ e made.
    also (λ (r : ℕ × ℕ). r.0 + r.1 ≤ length here.state.names) _ (or_refuse (between e.base (net_range e.what e.range) i j) (BadName w.at)) _
    (there_or _ (between e.base (net_range e.what e.range) i j) _ (select_fits (length here.state.names) e.base e.what e.range i j made)) (λ r small.
    all_append _ before (lanes_in at r.0 r.1) fits (run_fits (length here.state.names) at r.0 r.1 small)))

-- ---- expressions

literal_stay : (n : ℕ) (role : Role) (before : List Lane) (at size value : ℕ) → FitLanes n before → IfOk (literal_bits role before at size value) (FitLanes n)
literal_stay n Driven before at size value fits = tt
literal_stay n Taken before at size value fits = all_append _ before _ fits (literal_fits n at size value)
literal_stay n Terminal before at size value fits = all_append _ before _ fits (literal_fits n at size value)

same_bits : (tables : List Table) (here : Here) → StandsWell tables here → (ls : List Lane) → FitLanes (length here.state.names) ls → HasBits tables here (ls, here)
same_bits tables here well ls fits = record { stays = stays_same tables Within here well; fits = fits }

part_stay : (tables : List Table) (role : Role) (before : List Lane) (at : ℕ) (p : PartKind) (here : Here) → StandsWell tables here → IsPart p → FitLanes (length here.state.names) before
    → IfOk (part_kind_lanes role before at p here) (HasBits tables here)
part_stay tables role before at (Whole w) here well is fits = whole_stay tables role before at w here well is fits
part_stay tables role before at (Bit w i) here well is fits =
    also _ _ (select_lanes before at w i i here.scope) _ (lanes_select before at w i i here well.knows fits) (λ ls all. same_bits tables here well ls all)
part_stay tables role before at (Slice w i j) here well is fits =
    also _ _ (select_lanes before at w i j here.scope) _ (lanes_select before at w i j here well.knows fits) (λ ls all. same_bits tables here well ls all)
part_stay tables role before at (Literal size value) here well is fits =
    also _ _ (literal_bits role before at size value) _ (literal_stay (length here.state.names) role before at size value fits) (λ ls all. same_bits tables here well ls all)

-- Its parts are those of a text.
abbrev pub AreParts : List Part → Type 0
AreParts ps = AllByRecursion (λ (p : Part). IsPart p.what) ps

lanes_stay : (tables : List Table) (role : Role) (before : List Lane) (ps : List Part) (here : Here) → StandsWell tables here → AreParts ps → FitLanes (length here.state.names) before
    → IfOk (lanes_of role before ps here) (HasBits tables here)
lanes_stay tables role before [] here well is fits = same_bits tables here well before fits
lanes_stay tables role before (p ∷ ps) here well is fits =
    also _ _ (part_lanes role before p here) _ (part_stay tables role before p.at p.what here well is.0 fits) (λ l has.
    bits_later tables here l.1 has.stays (lanes_of role l.0 ps l.1) (lanes_stay tables role l.0 ps l.1 has.stays.well is.1 has.fits))

pub bits_stay : (tables : List Table) (role : Role) (e : Expr) (here : Here) → StandsWell tables here → AreParts e.parts → IfOk (bits_of role e here) (HasBits tables here)
bits_stay tables role e here well is = lanes_stay tables role [] e.parts here well is tt

pub parts_of : (e : Expr) → IsExpr e → AreParts e.parts
parts_of e is = all_by _ e.parts is.parts
