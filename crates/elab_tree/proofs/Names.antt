-- Declarations and ports keep what elaboration needs.
use Rattle.std.proofs.Common.{◌≡◌, ℕ, ◌+◌, ◌≤◌, not, ◌&&◌, List, [], ◌∷◌, ◌++◌, length, refl, sym, subst, arith, Option, Some, None, IfOk}
use Rattle.std.specs.List.{AllByRecursion}
use Rattle.design_cell.specs.Table.{Table}
use Rattle.netlist_grammar.specs.Trees.{Range}
use Rattle.netlist_grammar.specs.Whole.{IsName, IsRange, IsDeclare, IsItem}
use Rattle.netlist_grammar.specs.declared.tree.Word.{Word}
use Rattle.netlist_grammar.specs.declared.tree.NetKind.{NetKind}
use Rattle.netlist_grammar.specs.declared.tree.Declare.{Declare}
use Rattle.netlist_grammar.specs.declared.tree.Item.{Item}
use Rattle.netlist_grammar.specs.declared.tree.Item.TheVariants as item
use Rattle.elab_nets.specs.Ranges.{bit_at}
use Rattle.elab_nets.specs.State.{State, net_count, made, with_nets}
use Rattle.elab_names.specs.declared.scope.Entry.{Entry}
use Rattle.elab_names.specs.Sets.{is_among}
use Rattle.elab_names.specs.Scope.{entry_of, with_name}
use Rattle.elab_names.specs.Here.{Here, here_of, entry, introduced}
use Rattle.elab_names.specs.Names.{is_directed, repeats, declared_again, declared, all_declared, ports_checked, opened}
use Rattle.elab_tree.specs.Sound.{part_texts, Within, IsMade, StandsWell, Grows}
use Rattle.elab_tree.proofs.Steps.{also, chosen, any_ok, still, Stays, stays_same, grows_more}
use Rattle.elab_tree.proofs.Lists.{all_upto, grows_append}
use Rattle.elab_tree.proofs.Nets.{AreMade, made_are, made_sound, texts_of_name, count_made}
use Rattle.elab_tree.proofs.Naming.{Is, new_of, knows_named}

-- A name of the module is there behind a step, and its nets are.
pub record IsKnown (tables : List Table) (old : Here) (k : Entry × Here) : Type 0 where
  pub stays : Stays tables Within old k.1
  pub made : IsMade (length k.1.state.names) k.0

new_are : (what : NetKind) (range : Range) (w : Word) (here : Here) → Grows (Is (part_texts here.scope.prefix ++ w.text ∷ [])) here.state.names (with_nets here.scope.prefix what range w here.state).names
new_are what range w here = grows_append _ here.state.names _ (all_upto _ _ (net_count what range) (λ k less. texts_of_name here.scope.prefix w (bit_at range k)))

is_within : (here : Here) (name : List ℕ) (texts : List (List ℕ)) → Is (part_texts here.scope.prefix ++ name ∷ []) texts → Within here.scope.prefix texts
is_within here name texts is = (name, is)

introduced_by : (tables : List Table) (what : NetKind) (range : Range) (w : Word) (here : Here) → StandsWell tables here → IsName w → IsRange range → entry_of here.scope w.text ≡ None → (base : ℕ) (s : State)
    → AreMade here.scope.prefix what range w here.state (base, s) → IsKnown tables here (entry what range base, here_of (with_name w.text (entry what range base) here.scope) s)
introduced_by tables what range w here well name fits none base s made =
    subst (λ (t : State). IsKnown tables here (entry what range base, here_of (with_name w.text (entry what range base) here.scope) t)) (sym made.state) (record {
      stays = record {
        well = record {
          sound = made_sound tables here.scope.prefix what range w here.state well.sound well.knows.parts name fits (new_of here.scope w here.state.names well.knows none) made.few;
          knows = knows_named here.scope w.text (entry what range base) here.state.names _ well.knows (new_are what range w here) there;
        };
        keeps = record { prefix = refl; instances = λ q h. h; grows = grows_more _ _ _ _ (is_within here w.text) (new_are what range w here) };
      };
      made = there;
    })
  where
    there : base + net_count what range ≤ length (with_nets here.scope.prefix what range w here.state).names
    there = let many = count_made here.scope.prefix what range w here.state in let first = made.base in omega (arith, many, first)

pub introduced_stays : (tables : List Table) (what : NetKind) (range : Range) (w : Word) (here : Here) → StandsWell tables here → IsName w → IsRange range → entry_of here.scope w.text ≡ None
    → IfOk (introduced what range w here) (IsKnown tables here)
introduced_stays tables what range w here well name fits none =
    also _ _ (made here.scope.prefix what range w here.state) _ (made_are here.scope.prefix what range w here.state) (λ m are. introduced_by tables what range w here well name fits none m.0 m.1 are)

-- ---- declarations

again_stays : (tables : List Table) (d : Declare) (here : Here) → StandsWell tables here → IsDeclare d → (o : Option Entry) → entry_of here.scope d.name.text ≡ o → IfOk (declared_again o d here) (Stays tables Within here)
again_stays tables d here well is (Some e) at = chosen _ (repeats e d) _ _ (λ _. stays_same tables Within here well) (λ _. tt)
again_stays tables d here well is None at =
    also _ _ (introduced d.what d.range d.name here) _ (introduced_stays tables d.what d.range d.name here well is.name is.range at) (λ m known. known.stays)

declared_stays : (tables : List Table) (ports : List Word) (d : Declare) (here : Here) → StandsWell tables here → IsDeclare d → IfOk (declared ports d here) (Stays tables Within here)
declared_stays tables ports d here well is =
    chosen _ (is_directed d.what && not (is_among ports d.name.text)) _ _ (λ _. tt) (λ _. again_stays tables d here well is (entry_of here.scope d.name.text) refl)

all_declared_stay : (tables : List Table) (ports : List Word) (is : List Item) (here : Here) → StandsWell tables here → AllByRecursion IsItem is → IfOk (all_declared ports is here) (Stays tables Within here)
all_declared_stay tables ports [] here well all = stays_same tables Within here well
all_declared_stay tables ports (item.Declare d ∷ is) here well all =
    also _ _ (declared ports d here) _ (declared_stays tables ports d here well all.0) (λ h stays. still tables Within here h stays _ (all_declared_stay tables ports is h stays.well all.1))
all_declared_stay tables ports (item.Gate _ ∷ is) here well all = all_declared_stay tables ports is here well all.1
all_declared_stay tables ports (item.Instance _ ∷ is) here well all = all_declared_stay tables ports is here well all.1
all_declared_stay tables ports (item.Assign _ _ ∷ is) here well all = all_declared_stay tables ports is here well all.1

-- A module that is opened stands well.
pub opened_stays : (tables : List Table) (ports : List Word) (is : List Item) (here : Here) → StandsWell tables here → AllByRecursion IsItem is → IfOk (opened ports is here) (Stays tables Within here)
opened_stays tables ports is here well all =
    also _ _ (all_declared ports is here) _ (all_declared_stay tables ports is here well all) (λ h stays.
    also (λ _. Unit {0}) _ (ports_checked h.scope [] ports) _ (any_ok (ports_checked h.scope [] ports)) (λ _ _. stays))
