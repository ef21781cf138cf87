-- A netlist's text comes to one outcome.
use Rattle.std.proofs.Common.{◌≡◌, ℕ, List, Some, Result, Ok, Err, length, map, IfOk, IfErr, refl, sym, ap, subst, ◌∙◌}
use Rattle.netlist_grammar.specs.Source.{IsTree, IsRefused}
use Rattle.netlist_grammar.specs.declared.fault.NetlistFault.{NetlistFault}
use Rattle.netlist_grammar.specs.declared.tree.Source.{Source}
use Rattle.elab_nets.specs.Fault.{fault_in}
use Rattle.elab_nets.specs.Outcome.{Outcome}
use Rattle.elab_nets.specs.declared.fault.ElabErr.{ElabErr}
use Rattle.elab_nets.specs.declared.fault.ElabFault.{ElabFault}
use Rattle.elab_tree.specs.Text.{Elaborates}
use Rattle.elab_tree.proofs.Outcomes.{one_of}
use Rattle.design_circuit.specs.Job.{driver_in}
use Rattle.design_circuit.specs.declared.design.Design.{Design}
use Rattle.cmd_job.specs.Names.{net_name}
use Rattle.design_circuit.specs.Design.{FitsDesign}
use Rattle.cmd_job.specs.Netlist.{FitsNetlist, IfNetlistRefused, IsDesignAlone, IsDesignOf, IsLooped, IsOrdered}
use Rattle.cmd_job.specs.Netlist.{IsNetlistAnswer, IsRefusedNetlist, IsTreeAlone, NetlistComes}
use Rattle.cmd_job.specs.declared.netlist.Netlist.{Netlist}
use Rattle.cmd_job.specs.declared.netlist_refusal.NetlistErr.{NetlistErr}
use Rattle.cmd_job.specs.declared.netlist_refusal.NetlistErr.TheVariants.{Refused, Memory}
use Rattle.cmd_job.specs.declared.netlist_refusal.NetlistRefusal.{NetlistRefusal}
use Rattle.cmd_job.specs.declared.netlist_refusal.NetlistRefusal.TheVariants.{Grammar, Design as NoDesign, Loop}
use Rattle.cmd_job.proofs.OneLoop.{one_loop, one_order, order_or_loop}
use Rattle.cmd_job.proofs.OneText.{one_netlist_fault, one_tree, tree_unrefused}

ok_same : (a b : Design) (x y : Outcome Design) → x ≡ Ok a → y ≡ Ok b → x ≡ y → a ≡ b
ok_same a b x y first second same = cc

err_same : (e f : ElabErr) (x y : Outcome Design) → x ≡ Err e → y ≡ Err f → x ≡ y → e ≡ f
err_same e f x y first second same = cc

ok_err : (a : Design) (e : ElabErr) (x y : Outcome Design) → x ≡ Ok a → y ≡ Err e → x ≡ y → ⊥
ok_err a e x y first second same = cc

some_same : (a b : ElabFault) → Some a ≡ Some b → a ≡ b
some_same a b same = cc

-- Two readings of a text's tree give one outcome.
one_elaborated : (text top : List ℕ) (s t : Source) (a b : Outcome Design) → IsTree text s → IsTree text t → Elaborates s top a → Elaborates t top b → a ≡ b
one_elaborated text top s t a b first second here there =
    one_of s top a b here (subst (λ (tree : Source). Elaborates tree top b) (one_tree text t s second first) there)

pub one_design : (text top : List ℕ) (a b : Design) → IsDesignOf text top a → IsDesignOf text top b → a ≡ b
one_design text top a b first second =
    ok_same a b (Ok a) (Ok b) refl refl (one_elaborated text top first.tree second.tree (Ok a) (Ok b) first.parsed second.parsed first.is second.is)

one_undesigned : (text top : List ℕ) (a b : ElabFault) → IsTreeAlone text top a → IsTreeAlone text top b → a ≡ b
one_undesigned text top a b first second =
    let causes = err_same first.none.cause second.none.cause (Err first.none.cause) (Err second.none.cause) refl refl
    (one_elaborated text top first.tree second.tree (Err first.none.cause) (Err second.none.cause)
    first.parsed second.parsed first.none.refused second.none.refused) in
    some_same a b (sym first.none.says ∙ (ap fault_in causes ∙ second.none.says))

not_both_designed : (text top : List ℕ) (design : Design) (fault : ElabFault) → IsDesignOf text top design → IsTreeAlone text top fault → ⊥
not_both_designed text top design fault is alone =
    ok_err design alone.none.cause (Ok design) (Err alone.none.cause) refl refl
    (one_elaborated text top is.tree alone.tree (Ok design) (Err alone.none.cause)
    is.parsed alone.parsed is.is alone.none.refused)

looped_in : (a b : Design) (names : List (List ℕ)) → a ≡ b → IsLooped a names → IsLooped b names
looped_in a b names same looped = subst (λ (d : Design). IsLooped d names) same looped

one_looped : (design : Design) (a b : List (List ℕ)) → IsLooped design a → IsLooped design b → a ≡ b
one_looped design a b first second =
    first.named
    ∙ (ap (map (net_name design)) (one_loop (driver_in design) (length design.nets) first.nets second.nets first.reported second.reported) ∙ sym second.named)

one_alone : (text top : List ℕ) (a b : List (List ℕ)) → IsDesignAlone text top a → IsDesignAlone text top b → a ≡ b
one_alone text top a b first second =
    one_looped first.design a b first.looped
    (looped_in second.design first.design b
    (one_design text top second.design first.design second.is first.is) second.looped)

ordered_or_alone : (text top : List ℕ) (netlist : Netlist) (names : List (List ℕ))
    → IsOrdered text top netlist.design netlist.order → IsDesignAlone text top names → ⊥
ordered_or_alone text top netlist names is alone =
    let looped = looped_in alone.design netlist.design names (one_design text top alone.design netlist.design alone.is is.is) alone.looped in
    order_or_loop (driver_in netlist.design) (length netlist.design.nets) netlist.order looped.nets is.ordered looped.reported

netlist_by : Design → List ℕ → Netlist
netlist_by design order = record { design = design; order = order }

netlist_is : (n : Netlist) → netlist_by n.design n.order ≡ n
unfolding netlist_by
netlist_is n = refl

one_ordered : (text top : List ℕ) (a b : Netlist) → IsOrdered text top a.design a.order → IsOrdered text top b.design b.order → a ≡ b
one_ordered text top a b first second =
    let design = one_design text top a.design b.design first.is second.is in
    let there = subst (λ (d : Design). IsOrdered text top d b.order) (sym design) second in
    let order = one_order (driver_in a.design) (length a.design.nets) a.order b.order first.ordered there.ordered in
    let here = netlist_is a in
    let other = netlist_is b in cc

tree_of : (text top : List ℕ) (design : Design) (fault : NetlistFault) → IsDesignOf text top design → IsRefused text fault → ⊥
tree_of text top design fault is refused = tree_unrefused text is.tree fault is.parsed refused

-- The law.
pub one_outcome : (text top : List ℕ) (a b : Result Netlist NetlistRefusal) → NetlistComes text top a → NetlistComes text top b → a ≡ b
one_outcome text top (Ok a) (Ok b) first second = ap Ok (one_ordered text top a b first second)
one_outcome text top (Ok a) (Err (Grammar fault)) first second = absurd (tree_of text top a.design fault first.is second)
one_outcome text top (Ok a) (Err (NoDesign fault)) first second = absurd (not_both_designed text top a.design fault first.is second)
one_outcome text top (Ok a) (Err (Loop names)) first second = absurd (ordered_or_alone text top a names first second)
one_outcome text top (Err (Grammar fault)) (Ok b) first second = absurd (tree_of text top b.design fault second.is first)
one_outcome text top (Err (Grammar a)) (Err (Grammar b)) first second = ap (λ (f : NetlistFault). Err (Grammar f)) (one_netlist_fault text a b first second)
one_outcome text top (Err (Grammar a)) (Err (NoDesign b)) first second = absurd (tree_unrefused text second.tree a second.parsed first)
one_outcome text top (Err (Grammar a)) (Err (Loop b)) first second = absurd (tree_of text top second.design a second.is first)
one_outcome text top (Err (NoDesign fault)) (Ok b) first second = absurd (not_both_designed text top b.design fault second.is first)
one_outcome text top (Err (NoDesign a)) (Err (Grammar b)) first second = absurd (tree_unrefused text first.tree b first.parsed second)
one_outcome text top (Err (NoDesign a)) (Err (NoDesign b)) first second = ap (λ (f : ElabFault). Err (NoDesign f)) (one_undesigned text top a b first second)
one_outcome text top (Err (NoDesign a)) (Err (Loop b)) first second = absurd (not_both_designed text top second.design a second.is first)
one_outcome text top (Err (Loop names)) (Ok b) first second = absurd (ordered_or_alone text top b names second first)
one_outcome text top (Err (Loop a)) (Err (Grammar b)) first second = absurd (tree_of text top first.design b first.is second)
one_outcome text top (Err (Loop a)) (Err (NoDesign b)) first second = absurd (not_both_designed text top first.design b first.is second)
one_outcome text top (Err (Loop a)) (Err (Loop b)) first second = ap (λ (n : List (List ℕ)). Err (Loop n)) (one_alone text top a b first second)

-- What a call answers, but for memory, is what the text comes to.
pub answer_is : (text top : List ℕ) (result : Result Netlist NetlistErr)
    → IfOk result (λ (n : Netlist). IsOrdered text top n.design n.order)
    → IfErr result (IfNetlistRefused (IsRefusedNetlist text top)) → IsNetlistAnswer text top result
answer_is text top (Ok netlist) is refused = λ outcome comes. one_outcome text top (Ok netlist) outcome is comes
answer_is text top (Err (Refused refusal)) is refused = λ outcome comes. one_outcome text top (Err refusal) outcome refused comes
answer_is text top (Err Memory) is refused = λ outcome comes. tt

-- A netlist that is read fits.
pub netlist_fits : (text top : List ℕ) (result : Result Netlist NetlistErr)
    → IfOk result (λ (n : Netlist). IsOrdered text top n.design n.order)
    → IfOk result (λ (n : Netlist). FitsDesign n.design) → IfOk result FitsNetlist
netlist_fits text top (Ok netlist) is fits = record { design = fits; order = is.ordered }
netlist_fits text top (Err e) is fits = tt
