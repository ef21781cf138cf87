-- A net that has a driver keeps it, while nets are made and driven.
use Rattle.std.proofs.Common.{◌≡◌, ◌⊎◌, inl, inr, ℕ, zero, suc, ◌+◌, ◌<◌, ◌≤◌, ltb, Bool, true, false, true≢false, not, ◌&&◌, List, [], ◌∷◌, length, get_or, refl, sym, ◌∙◌, ap, ap₂, subst, arith, Option, Some, None, is_some, IfOk, length-append, length-set, ltb-true, ltb-false, get_or-set_other, eqb-true, eq-eqb, eqb}
use Rattle.std.proofs.lemmas.List.{get_or_append_left, get_or_past}
use Rattle.netlist_grammar.specs.Trees.{Range}
use Rattle.netlist_grammar.specs.declared.tree.Word.{Word}
use Rattle.netlist_grammar.specs.declared.tree.Part.{Part}
use Rattle.netlist_grammar.specs.declared.tree.PartKind.{PartKind}
use Rattle.netlist_grammar.specs.declared.tree.PartKind.TheVariants.{Whole, Bit, Slice, Literal}
use Rattle.netlist_grammar.specs.declared.tree.Expr.{Expr}
use Rattle.netlist_grammar.specs.declared.tree.NetKind.{NetKind}
use Rattle.netlist_grammar.specs.declared.tree.NetKind.TheVariants as kind
use Rattle.netlist_grammar.specs.declared.tree.Declare.{Declare}
use Rattle.netlist_grammar.specs.declared.tree.Item.{Item}
use Rattle.netlist_grammar.specs.declared.tree.Item.TheVariants as item
use Rattle.design_circuit.specs.declared.design.Driver.{Driver}
use Rattle.design_circuit.specs.declared.design.Driver.TheVariants.{Undriven}
use Rattle.design_circuit.specs.declared.design.Pin.{Pin}
use Rattle.design_circuit.specs.declared.design.Pin.TheVariants as pin
use Rattle.design_circuit.specs.declared.name.NamePart.{NamePart}
use Rattle.elab_nets.specs.State.{State, net_count, made, has_driver, with_driver, driven, with_nets}
use Rattle.elab_names.specs.declared.scope.Entry.{Entry}
use Rattle.elab_names.specs.Sets.{is_among}
use Rattle.elab_names.specs.Scope.{Scope, entry_of}
use Rattle.elab_names.specs.Here.{Here, entry, introduced}
use Rattle.elab_names.specs.Names.{is_directed, repeats, declared_again, declared, all_declared, ports_checked, opened}
use Rattle.elab_bits.specs.declared.expression.Role.{Role}
use Rattle.elab_bits.specs.declared.run.Lane.{Lane}
use Rattle.elab_bits.specs.Bits.{known_or_wire, name_lanes, select_lanes, literal_bits, part_kind_lanes, part_lanes, lanes_of, bits_of}
use Rattle.elab_bits.specs.Drive.{driver_from, driven_pin, driven_lane, all_driven, fed}
use Rattle.elab_tree.specs.Staying.{driver_at, DriversStay}
use Rattle.elab_tree.proofs.Steps.{also, chosen, any_ok}
use Rattle.elab_tree.proofs.Lists.{length_upto}
use Rattle.elab_tree.proofs.Nets.{made_are, count_made}
use Rattle.elab_tree.proofs.Naming.{found_in}

-- ---- nets

-- No driver of the first state is lost, and there are as many drivers as names, no fewer than at first.
pub record Kept (a b : State) : Type 0 where
  pub drivers : DriversStay a b
  pub as_many : length b.drivers ≡ length b.names
  pub longer : length a.drivers ≤ length b.names

-- At first the net had no driver.
pub record IsFree (a : State) (net : ℕ) : Type 0 where
  pub free : (d : Driver) → driver_at a net ≡ Some d → ⊥

none_some : (d : Driver) → None ≡ Some d → ⊥
none_some d is = absurd cc

-- A net that has a driver is there.
driver_within : (s : State) (net : ℕ) (d : Driver) → driver_at s net ≡ Some d → net < length s.drivers
driver_within s net d is = by (ltb net (length s.drivers)) refl
  where
    by : (b : Bool) → ltb net (length s.drivers) ≡ b → net < length s.drivers
    by true at = ltb-true _ _ at
    by false at = absurd (none_some d (sym (get_or_past s.drivers net None (ltb-false _ _ at)) ∙ is))

pub free_new : (a : State) (net : ℕ) → length a.drivers ≤ net → IsFree a net
free_new a net new = record { free = λ d is. (let within = driver_within a net d is in omega (arith, within, new)) }

driven_by : (o : Option Driver) (d : Driver) → is_some o ≡ false → o ≡ Some d → ⊥
driven_by o d none is = true≢false (sym (ap is_some is) ∙ none)

at_default : (s : State) (net : ℕ) (d : Driver) → driver_at s net ≡ Some d → get_or s.drivers net (Some Undriven) ≡ Some d
at_default s net d is = by s.drivers net is
  where
    by : (ds : List (Option Driver)) (net : ℕ) → get_or ds net None ≡ Some d → get_or ds net (Some Undriven) ≡ Some d
    by [] net is = absurd (none_some d is)
    by (x ∷ xs) zero is = is
    by (x ∷ xs) (suc n) is = by xs n is

-- A net that has no driver now had none at first.
pub free_now : (a b : State) (net : ℕ) → Kept a b → has_driver b net ≡ false → IsFree a net
free_now a b net kept none = record { free = λ d is. driven_by (get_or b.drivers net (Some Undriven)) d none (at_default b net d (kept.drivers.stay net d is)) }

set_stays : (a b : State) (net : ℕ) (driver : Driver) → Kept a b → IsFree a net → DriversStay a (with_driver net driver b)
set_stays a b net driver kept free = record { stay = λ n d is. by n d is (eqb n net) refl }
  where
    by : (n : ℕ) (d : Driver) → driver_at a n ≡ Some d → (e : Bool) → eqb n net ≡ e → driver_at (with_driver net driver b) n ≡ Some d
    by n d is true at = absurd (free.free d (ap (driver_at a) (sym (eqb-true n net at)) ∙ is))
    by n d is false at = get_or-set_other b.drivers net n (Some driver) None (λ same. true≢false (sym (eq-eqb n net same) ∙ at)) ∙ kept.drivers.stay n d is

pub with_kept : (a b : State) (net : ℕ) (driver : Driver) → Kept a b → IsFree a net → Kept a (with_driver net driver b)
with_kept a b net driver kept free = record { drivers = set_stays a b net driver kept free; as_many = length-set b.drivers net (Some driver) ∙ kept.as_many; longer = kept.longer }

pub driven_kept : (a : State) (at net : ℕ) (d : Driver) (b : State) → Kept a b → IfOk (driven at net d b) (Kept a)
driven_kept a at net d b kept = chosen _ (has_driver b net) _ _ (λ _. tt) (λ none. with_kept a b net d kept (free_now a b net kept none))

made_kept : (a : State) (prefix : List NamePart) (what : NetKind) (range : Range) (w : Word) (b : State) → Kept a b → Kept a (with_nets prefix what range w b)
made_kept a prefix what range w b kept = record {
  drivers = record { stay = λ net d is. (let there = kept.drivers.stay net d is in get_or_append_left b.drivers _ None net (driver_within b net d there) ∙ there) };
  as_many = length-append b.drivers _ ∙ ap₂ ◌+◌ kept.as_many (length_upto _ (net_count what range)) ∙ sym (count_made prefix what range w b);
  longer = (let longer = kept.longer in let many = count_made prefix what range w b in omega (arith, longer, many));
}

-- ---- names

-- The nets of the scope's names came behind the first state.
pub record IsAbove (a : State) (c : Scope) : Type 0 where
  pub nets : (name : List ℕ) (e : Entry) → entry_of c name ≡ Some e → length a.drivers ≤ e.base

-- What comes with an answer is kept.
abbrev pub KeptWith : {A : Type 0} → State → A × Here → Type 0
KeptWith a x = Kept a x.1.state

-- So it is in a scope whose nets came behind the first state.
pub record KeptAbove (a : State) (here : Here) : Type 0 where
  pub kept : Kept a here.state
  pub above : IsAbove a here.scope

introduced_kept : (a : State) (what : NetKind) (range : Range) (w : Word) (here : Here) → Kept a here.state → IfOk (introduced what range w here) (KeptWith a)
introduced_kept a what range w here kept =
    also _ _ (made here.scope.prefix what range w here.state) _ (made_are here.scope.prefix what range w here.state) (λ m are.
    subst (Kept a) (sym are.state) (made_kept a here.scope.prefix what range w here.state kept))

introduced_above : (a : State) (what : NetKind) (range : Range) (w : Word) (here : Here) → KeptAbove a here → IfOk (introduced what range w here) (λ (m : Entry × Here). KeptAbove a m.1)
introduced_above a what range w here k =
    also _ _ (made here.scope.prefix what range w here.state) _ (made_are here.scope.prefix what range w here.state) (λ m are. record {
      kept = subst (Kept a) (sym are.state) (made_kept a here.scope.prefix what range w here.state k.kept);
      above = record { nets = λ name e found. above_by a here.scope (entry what range m.0) e name k.above (let longer = k.kept.longer in let base = are.base in omega (arith, longer, base)) (found_in here.scope.names w.text (entry what range m.0) name e found) };
    })
  where
    above_by : (a : State) (c : Scope) (x e : Entry) (name : List ℕ) → IsAbove a c → length a.drivers ≤ x.base → (entry_of c name ≡ Some e) ⊎ (x ≡ e) → length a.drivers ≤ e.base
    above_by a c x e name above new (inl is) = above.nets name e is
    above_by a c x e name above new (inr same) = subst (λ (f : Entry). length a.drivers ≤ f.base) same new

again_above : (a : State) (o : Option Entry) (d : Declare) (here : Here) → KeptAbove a here → IfOk (declared_again o d here) (KeptAbove a)
again_above a (Some e) d here k = chosen _ (repeats e d) _ _ (λ _. k) (λ _. tt)
again_above a None d here k = also _ _ (introduced d.what d.range d.name here) _ (introduced_above a d.what d.range d.name here k) (λ m more. more)

all_declared_above : (a : State) (ports : List Word) (is : List Item) (here : Here) → KeptAbove a here → IfOk (all_declared ports is here) (KeptAbove a)
all_declared_above a ports [] here k = k
all_declared_above a ports (item.Declare d ∷ is) here k =
    also _ _ (declared ports d here) _
    (chosen _ (is_directed d.what && not (is_among ports d.name.text)) _ _ (λ _. tt) (λ _. again_above a (entry_of here.scope d.name.text) d here k)) (λ h more.
    all_declared_above a ports is h more)
all_declared_above a ports (item.Gate _ ∷ is) here k = all_declared_above a ports is here k
all_declared_above a ports (item.Instance _ ∷ is) here k = all_declared_above a ports is here k
all_declared_above a ports (item.Assign _ _ ∷ is) here k = all_declared_above a ports is here k

pub opened_above : (a : State) (ports : List Word) (is : List Item) (here : Here) → KeptAbove a here → IfOk (opened ports is here) (KeptAbove a)
opened_above a ports is here k =
    also _ _ (all_declared ports is here) _ (all_declared_above a ports is here k) (λ h more.
    also (λ _. Unit {0}) _ (ports_checked h.scope [] ports) _ (any_ok (ports_checked h.scope [] ports)) (λ _ _. more))

-- ---- bits

known_kept : (a : State) (o : Option Entry) (w : Word) (here : Here) → Kept a here.state → IfOk (known_or_wire o w here) (KeptWith a)
known_kept a (Some e) w here kept = kept
known_kept a None w here kept = introduced_kept a kind.Wire None w here kept

part_kept : (a : State) (role : Role) (before : List Lane) (at : ℕ) (p : PartKind) (here : Here) → Kept a here.state → IfOk (part_kind_lanes role before at p here) (KeptWith a)
part_kept a role before at (Whole w) here kept =
    also _ _ (known_or_wire (entry_of here.scope w.text) w here) _ (known_kept a (entry_of here.scope w.text) w here kept) (λ k more.
    also (λ _. Unit {0}) _ (name_lanes role before at w k.0.what k.0) _ (any_ok _) (λ ls _. more))
part_kept a role before at (Bit w i) here kept = also (λ _. Unit {0}) _ (select_lanes before at w i i here.scope) _ (any_ok _) (λ ls _. kept)
part_kept a role before at (Slice w i j) here kept = also (λ _. Unit {0}) _ (select_lanes before at w i j here.scope) _ (any_ok _) (λ ls _. kept)
part_kept a role before at (Literal size value) here kept = also (λ _. Unit {0}) _ (literal_bits role before at size value) _ (any_ok _) (λ ls _. kept)

lanes_kept : (a : State) (role : Role) (before : List Lane) (ps : List Part) (here : Here) → Kept a here.state → IfOk (lanes_of role before ps here) (KeptWith a)
lanes_kept a role before [] here kept = kept
lanes_kept a role before (p ∷ ps) here kept = also _ _ (part_lanes role before p here) _ (part_kept a role before p.at p.what here kept) (λ l more. lanes_kept a role l.0 ps l.1 more)

pub bits_kept : (a : State) (role : Role) (e : Expr) (here : Here) → Kept a here.state → IfOk (bits_of role e here) (KeptWith a)
bits_kept a role e here kept = lanes_kept a role [] e.parts here kept

-- ---- what is driven

pin_kept : (a : State) (at : ℕ) (p : Pin) (d : Driver) (b : State) → Kept a b → IfOk (driven_pin at p d b) (Kept a)
pin_kept a at (pin.Net net) d b kept = driven_kept a at net d b kept
pin_kept a at (pin.Bit bit) d b kept = tt
pin_kept a at pin.Dead d b kept = tt

pub all_kept : (a : State) (ls rs : List Lane) (b : State) → Kept a b → IfOk (all_driven ls rs b) (Kept a)
all_kept a [] rs b kept = kept
all_kept a (l ∷ ls) [] b kept = kept
all_kept a (l ∷ ls) (r ∷ rs) b kept = also _ _ (driven_lane l r b) _ (pin_kept a l.at l.pin (driver_from r.pin) b kept) (λ t more. all_kept a ls rs t more)

pub fed_kept : (a : State) (net : ℕ) (ls : List Lane) (b : State) → length a.drivers ≤ net → Kept a b → Kept a (fed net ls b)
fed_kept a net [] b new kept = kept
fed_kept a net (l ∷ ls) b new kept = fed_kept a (net + 1) ls (with_driver net (driver_from l.pin) b) (omega arith) (with_kept a b net (driver_from l.pin) kept (free_new a net new))
