-- What is made where a module's items lead is what an instance of it, or the top, comes to.
use Rattle.std.proofs.Common.{◌≡◌, ◌∙◌, ℕ, List, [], ◌∷◌, ◌++◌, Option, Some, IfOk, IsErrAnd, Ok, Err, ◌≢◌, sym, ap, subst}
use Rattle.netlist_grammar.specs.declared.tree.InstanceItem.{InstanceItem}
use Rattle.netlist_grammar.specs.declared.tree.Module.{Module}
use Rattle.design_circuit.specs.Job.{primitive_of}
use Rattle.elab_nets.specs.declared.fault.ElabErr.{ElabErr}
use Rattle.elab_nets.specs.declared.fault.ElabErr.TheVariants.{Memory}
use Rattle.elab_nets.specs.Outcome.{Outcome, after, Gives}
use Rattle.elab_nets.specs.State.{State, nothing_made, finished}
use Rattle.elab_names.specs.Names.{opened}
use Rattle.elab_names.specs.Scope.{Scope}
use Rattle.elab_names.specs.Here.{Here, here_of}
use Rattle.elab_prims.specs.declared.definitions.Definition.{Definition}
use Rattle.elab_prims.specs.declared.definitions.Definition.TheVariants as definition
use Rattle.elab_prims.specs.Definitions.{definition_of}
use Rattle.elab_gates.specs.Primitives.{udp_item}
use Rattle.elab_joins.specs.Joined.{joined}
use Rattle.elab_tree.specs.Library.{Library, module_of}
use Rattle.elab_tree.specs.Elaborate.{entered, filled, instance_of, instance_item, body, at_top, whole}
use Rattle.elab_design.specs.Busy.{state_of}
use Rattle.elab_design.proofs.Framing.{joined_new, opened_new, IsNew}

-- ---- what follows from the state alone

made_by : {B : Type 0} (r : Outcome Here) (f : State → B) (s : State) → state_of r ≡ Ok s → after r (λ d. Ok (f d.state)) ≡ Ok (f s)
made_by (Ok h) f s is = (let same : h.state ≡ s = cc in ap (λ (t : State). Ok (f t)) same)
made_by (Err e) f s is = absurd cc

refused_by : {B : Type 0} (r : Outcome Here) (f : State → B) (e : ElabErr) → state_of r ≡ Err e → after r (λ d. Ok (f d.state)) ≡ Err e
refused_by (Ok h) f e is = absurd cc
refused_by (Err x) f e is = (let same : x ≡ e = cc in ap (λ (y : ElabErr). Err y) same)

-- A refusal that is handed on is what is wanted.
pub gives_refused : {A B : Type 0} (wanted : Outcome B) (r : Outcome A) (e : ElabErr) (seen : A → B) → IsErrAnd r (λ f. f ≡ e) → (e ≢ Memory → wanted ≡ Err e) → Gives wanted r seen
gives_refused wanted (Ok x) e seen is told = absurd is
gives_refused wanted (Err f) e seen is told = subst (λ (g : ElabErr). g ≢ Memory → wanted ≡ Err g) (sym is) told

-- ---- an instance

-- The module of an instance is open without instances.
pub inner_new : (i : InstanceItem) (m : Module) (here : Here) (outer inner : Scope) (s : State) → joined i m here ≡ Ok (outer, here_of inner s) → inner.instances ≡ []
inner_new i m here outer inner s joint = subst (λ (r : Outcome (Scope × Here)). IfOk r (λ (j : Scope × Here). j.1.scope.instances ≡ [])) joint (joined_new i m here)

module _ (l : Library) (path : List ℕ) (room k : ℕ) (i : InstanceItem) (here : Here) (outer inner : Scope) (s : State) where
  joins : definition_of l.source i.definition.text ≡ Some (definition.Module k) → entered path room i.definition.text k ≡ Ok k → joined i (module_of l k) here ≡ Ok (outer, here_of inner s)
      → instance_item l path room i here ≡ after (body l room (path ++ k ∷ []) (module_of l k).items (here_of inner s)) (λ d. Ok (here_of outer d.state))
  joins found enters joint =
      ap (λ (o : Option Definition). instance_of l path room (body l room) o i here) found
      ∙ ap (λ (r : Outcome ℕ). after r (λ n. filled l path (body l room) n i here)) enters
      ∙ ap (λ (r : Outcome (Scope × Here)). after r (λ j. after (body l room (path ++ k ∷ []) (module_of l k).items j.1) (λ d. Ok (here_of j.0 d.state)))) joint

  instance_made : definition_of l.source i.definition.text ≡ Some (definition.Module k) → entered path room i.definition.text k ≡ Ok k → joined i (module_of l k) here ≡ Ok (outer, here_of inner s)
      → (t : State) → state_of (body l room (path ++ k ∷ []) (module_of l k).items (here_of inner s)) ≡ Ok t → instance_item l path room i here ≡ Ok (here_of outer t)
  instance_made found enters joint t is = joins found enters joint ∙ made_by _ (λ (u : State). here_of outer u) t is

  instance_refused : definition_of l.source i.definition.text ≡ Some (definition.Module k) → entered path room i.definition.text k ≡ Ok k → joined i (module_of l k) here ≡ Ok (outer, here_of inner s)
      → (e : ElabErr) → state_of (body l room (path ++ k ∷ []) (module_of l k).items (here_of inner s)) ≡ Err e → instance_item l path room i here ≡ Err e
  instance_refused found enters joint e is = joins found enters joint ∙ refused_by _ (λ (u : State). here_of outer u) e is

  -- What its items give, the instance gives.
  pub instance_gives : {A : Type 0} → definition_of l.source i.definition.text ≡ Some (definition.Module k) → entered path room i.definition.text k ≡ Ok k → joined i (module_of l k) here ≡ Ok (outer, here_of inner s)
      → (t : State) (r : Outcome A) → Gives (state_of (body l room (path ++ k ∷ []) (module_of l k).items (here_of inner s))) r (λ _. t) → Gives (instance_item l path room i here) r (λ _. here_of outer t)
  instance_gives found enters joint t (Ok x) given = instance_made found enters joint t given
  instance_gives found enters joint t (Err e) given = λ told. instance_refused found enters joint e (given told)

-- What a primitive gives, an instance of it gives.
pub primitive_gives : {A : Type 0} (l : Library) (path : List ℕ) (room k : ℕ) (i : InstanceItem) (here : Here) (r : Outcome A) (seen : A → Here) → definition_of l.source i.definition.text ≡ Some (definition.Primitive k)
    → Gives (udp_item k (primitive_of l.tables k) i here) r seen → Gives (instance_item l path room i here) r seen
primitive_gives l path room k i here r seen found given =
    subst (λ (wanted : Outcome Here). Gives wanted r seen) (sym (ap (λ (o : Option Definition). instance_of l path room (body l room) o i here) found)) given

-- ---- the top

module _ (l : Library) (k : ℕ) (scope : Scope) (s : State) where
  -- The top is open without instances.
  pub top_new : opened (module_of l k).ports (module_of l k).items at_top ≡ Ok (here_of scope s) → scope.instances ≡ []
  top_new is = subst (λ (r : Outcome Here). IfOk r IsNew) is (opened_new (module_of l k).ports (module_of l k).items [] [] nothing_made)

  opens : opened (module_of l k).ports (module_of l k).items at_top ≡ Ok (here_of scope s) → whole l k ≡ after (body l 32 (k ∷ []) (module_of l k).items (here_of scope s)) (λ d. Ok (finished l.tables d.state))
  opens is = ap (λ (r : Outcome Here). after r (λ h. after (body l 32 (k ∷ []) (module_of l k).items h) (λ d. Ok (finished l.tables d.state)))) is

  top_made : opened (module_of l k).ports (module_of l k).items at_top ≡ Ok (here_of scope s) → (t : State) → state_of (body l 32 (k ∷ []) (module_of l k).items (here_of scope s)) ≡ Ok t → whole l k ≡ Ok (finished l.tables t)
  top_made is t done = opens is ∙ made_by _ (λ (u : State). finished l.tables u) t done

  top_refused : opened (module_of l k).ports (module_of l k).items at_top ≡ Ok (here_of scope s) → (e : ElabErr) → state_of (body l 32 (k ∷ []) (module_of l k).items (here_of scope s)) ≡ Err e → whole l k ≡ Err e
  top_refused is e done = opens is ∙ refused_by _ (λ (u : State). finished l.tables u) e done

  -- What its items give, the top gives.
  pub top_gives : {A : Type 0} → opened (module_of l k).ports (module_of l k).items at_top ≡ Ok (here_of scope s) → (t : State) (r : Outcome A) → Gives (state_of (body l 32 (k ∷ []) (module_of l k).items (here_of scope s))) r (λ _. t)
      → Gives (whole l k) r (λ _. finished l.tables t)
  top_gives is t (Ok x) given = top_made is t given
  top_gives is t (Err e) given = λ told. top_refused is e (given told)
