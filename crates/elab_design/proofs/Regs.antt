-- Declarations of `reg` make no net.
use Rattle.std.proofs.Common.{◌≡◌, ℕ, ◌+◌, ◌≤◌, ◌^◌, Bool, true, false, true≢false, not, Option, Some, None, List, [], ◌∷◌, ◌++◌, length, bytes_eq, is_some, cond, refl, sym, arith, Ok}
use Rattle.std.specs.Map.{lookup}
use Rattle.std.proofs.lemmas.Bool.{and_parts, le-leb}
use Rattle.std.proofs.lemmas.List.{append-nil}
use Rattle.design_circuit.specs.declared.name.NamePart.{NamePart}
use Rattle.netlist_grammar.specs.Trees.{Range}
use Rattle.netlist_grammar.specs.declared.tree.Word.{Word}
use Rattle.netlist_grammar.specs.declared.tree.NetKind.{NetKind}
use Rattle.netlist_grammar.specs.declared.tree.NetKind.TheVariants.{Input, Output, Wire, Supply0, Supply1, Reg}
use Rattle.netlist_grammar.specs.declared.tree.Declare.{Declare}
use Rattle.netlist_grammar.specs.declared.tree.Expr.{Expr}
use Rattle.elab_nets.specs.Outcome.{Outcome}
use Rattle.elab_nets.specs.State.{State, made}
use Rattle.elab_names.specs.declared.scope.Entry.{Entry}
use Rattle.elab_names.specs.Scope.{Scope, scope_of, entry_of}
use Rattle.elab_names.specs.Here.{Here, here_of, entry}
use Rattle.elab_names.specs.Names.{declared, declared_again, is_directed}
use Rattle.elab_gates.specs.Assigns.{value_of}
use Rattle.elab_design.specs.Quiet.{is_reg_net, is_quiet_declare}

-- a `reg` without a range
pub record IsReg (e : Entry) : Type 0 where
  pub what : e.what ≡ Reg
  pub range : e.range ≡ None

-- Every name so far is a `reg`.
pub data AreRegs : List (List ℕ × Entry) → Type 0 where
  none : AreRegs []
  more : {name : List ℕ} {e : Entry} {rest : List (List ℕ × Entry)} → IsReg e → AreRegs rest → AreRegs ((name, e) ∷ rest)

is_reg_by : (what : NetKind) → is_reg_net what ≡ true → what ≡ Reg
is_reg_by Reg is = refl
is_reg_by Input is = absurd (true≢false (sym is))
is_reg_by Output is = absurd (true≢false (sym is))
is_reg_by Wire is = absurd (true≢false (sym is))
is_reg_by Supply0 is = absurd (true≢false (sym is))
is_reg_by Supply1 is = absurd (true≢false (sym is))

none_by : (r : Range) → not (is_some r) ≡ true → r ≡ None
none_by None is = refl
none_by (Some _) is = absurd (true≢false (sym is))

no_value : (v : Option Expr) → not (is_some v) ≡ true → v ≡ None
no_value None is = refl
no_value (Some _) is = absurd (true≢false (sym is))

pub quiet_is_reg : (d : Declare) → is_quiet_declare d ≡ true → (d.what ≡ Reg) × (d.range ≡ None) × (d.value ≡ None)
quiet_is_reg d quiet =
    let parts = and_parts _ _ quiet in
    let first = and_parts _ _ parts.0 in
    (is_reg_by d.what first.0, none_by d.range first.1, no_value d.value parts.1)

regs_behind : (names : List (List ℕ × Entry)) (name : List ℕ) (e : Entry) → AreRegs names → IsReg e → AreRegs (names ++ (name, e) ∷ [])
regs_behind [] name e none reg = more reg none
regs_behind (_ ∷ rest) name e (more first regs) reg = more first (regs_behind rest name e regs reg)

reg_by : (b : Bool) (x e : Entry) (o : Option Entry) → IsReg x → (o ≡ Some e → IsReg e) → ◌≡◌ {A = Option Entry} (cond b (Some x) o) (Some e) → IsReg e
reg_by true x e o reg rest is = (let same : x ≡ e = cc in rw (sym same) reg)
reg_by false x e o reg rest is = rest is

lookup_reg : (name : List ℕ) (names : List (List ℕ × Entry)) (e : Entry) → AreRegs names → lookup (bytes_eq name) names ≡ Some e → IsReg e
lookup_reg name [] e none found = absurd cc
lookup_reg name ((key, x) ∷ rest) e (more reg regs) found =
    reg_by (bytes_eq name key) x e (lookup (bytes_eq name) rest) reg (lookup_reg name rest e regs) found

-- A `reg` makes no net.
made_reg : (prefix : List NamePart) (w : Word) (s : State) → length s.names ≤ 2 ^ 20 → made prefix Reg None w s ≡ Ok (length s.names, s)
unfolding made
made_reg prefix w s few = rw (le-leb (length s.names + 0) (2 ^ 20) (omega (arith, few)), append-nil s.names, append-nil s.drivers) refl

-- Elaboration stands at the same nets, with names that are `reg`s.
pub record StandsStill (c : Scope) (s : State) (r : Outcome Here) : Type 0 where
  pub names : List (List ℕ × Entry)
  pub regs : AreRegs names
  pub is : r ≡ Ok (here_of (scope_of c.prefix names c.instances) s)

again_by : (d : Declare) (c : Scope) (s : State) (o : Option Entry) → entry_of c d.name.text ≡ o → d.what ≡ Reg → d.range ≡ None → length s.names ≤ 2 ^ 20
    → AreRegs c.names → StandsStill c s (declared_again o d (here_of c s))
again_by d c s (Some e) known what range few regs =
    let reg = lookup_reg d.name.text c.names e regs known in
    record { names = c.names; regs = regs; is = rw (reg.what, what, reg.range, range) refl }
again_by d c s None known what range few regs = record {
  names = c.names ++ (d.name.text, entry Reg None (length s.names)) ∷ [];
  regs = regs_behind c.names d.name.text (entry Reg None (length s.names)) regs (record { what = refl; range = refl });
  is = rw (what, range, made_reg c.prefix d.name s few) refl;
}

undirected : (what : NetKind) → what ≡ Reg → is_directed what ≡ false
undirected what is = rw is refl

-- Declaring a `reg` leaves the nets as they are.
pub declares_reg : (ports : List Word) (d : Declare) (c : Scope) (s : State) → is_quiet_declare d ≡ true → length s.names ≤ 2 ^ 20 → AreRegs c.names
    → StandsStill c s (declared ports d (here_of c s))
declares_reg ports d c s quiet few regs =
    let reg = quiet_is_reg d quiet in
    let again = again_by d c s (entry_of c d.name.text) refl reg.0 reg.1 few regs in
    record { names = again.names; regs = again.regs; is = rw (undirected d.what reg.0) again.is }

-- A declaration without a value assigns nothing.
pub no_value_item : (w : Word) (v : Option Expr) (here : Here) → v ≡ None → value_of w v here ≡ Ok here
no_value_item w v here is = rw is refl
