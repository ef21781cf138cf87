-- A text's tree comes to one outcome.
use Rattle.std.proofs.Common.{◌≡◌, ℕ, List, Option, Some, None, refl, sym, ◌∙◌, ap, Ok, Err}
use Rattle.design_cell.specs.Table.{Table}
use Rattle.netlist_grammar.specs.declared.tree.Source.{Source}
use Rattle.design_circuit.specs.declared.design.Design.{Design}
use Rattle.elab_nets.specs.declared.fault.ElabErr.{ElabErr}
use Rattle.elab_nets.specs.declared.fault.ElabErr.TheVariants.{TwoModules}
use Rattle.elab_nets.specs.Outcome.{Outcome}
use Rattle.elab_prims.specs.Definitions.{repeated}
use Rattle.elab_prims.specs.Built.{AreBuilt}
use Rattle.elab_prims.proofs.BuiltLemmas.{one_outcome}
use Rattle.elab_tree.specs.Library.{library_of}
use Rattle.elab_tree.specs.Elaborate.{design_of}
use Rattle.elab_tree.specs.Text.{Elaborates}
use Rattle.elab_tree.specs.Text.Elaborates.{twice, refused, built}

some_same : (a b : List ℕ) → Some a ≡ Some b → a ≡ b
some_same a b is = cc

some_none : (a : List ℕ) → Some a ≡ None → ⊥
some_none a is = absurd cc

ok_err : (tables : List Table) (e : ElabErr) → ◌≡◌ {A = Outcome (List Table)} (Ok tables) (Err e) → ⊥
ok_err tables e is = absurd cc

ok_same : (a b : List Table) → ◌≡◌ {A = Outcome (List Table)} (Ok a) (Ok b) → a ≡ b
ok_same a b is = cc

err_same : (a b : ElabErr) → ◌≡◌ {A = Outcome (List Table)} (Err a) (Err b) → a ≡ b
err_same a b is = cc

pub one_of : (source : Source) (top : List ℕ) (a b : Outcome Design) → Elaborates source top a → Elaborates source top b → a ≡ b
one_of source top _ _ (twice {name = n} x) (twice {name = m} y) = ap (λ (name : List ℕ). Err (TwoModules name)) (some_same n m (sym x ∙ y))
one_of source top _ _ (twice {name = n} x) (refused y _) = absurd (some_none n (sym x ∙ y))
one_of source top _ _ (twice {name = n} x) (built _ y _) = absurd (some_none n (sym x ∙ y))
one_of source top _ _ (refused x _) (twice {name = m} y) = absurd (some_none m (sym y ∙ x))
one_of source top _ _ (refused {e = e} x a) (refused {e = f} y b) = ap Err (err_same e f (one_outcome source.primitives (Err e) (Err f) a b))
one_of source top _ _ (refused {e = e} x a) (built t y b) = absurd (ok_err t e (one_outcome source.primitives (Ok t) (Err e) b a))
one_of source top _ _ (built _ x _) (twice {name = m} y) = absurd (some_none m (sym y ∙ x))
one_of source top _ _ (built t x a) (refused {e = e} y b) = absurd (ok_err t e (one_outcome source.primitives (Ok t) (Err e) a b))
one_of source top _ _ (built t x a) (built u y b) = ap (λ (tables : List Table). design_of (library_of source tables) top) (ok_same t u (one_outcome source.primitives (Ok t) (Ok u) a b))

pub some_of : (source : Source) (top : List ℕ) (tables : Outcome (List Table)) → AreBuilt source.primitives tables → (outcome : Outcome Design) × Elaborates source top outcome
some_of source top tables is = by (repeated source) refl tables is
  where
    by : (o : Option (List ℕ)) → repeated source ≡ o → (tables : Outcome (List Table)) → AreBuilt source.primitives tables → (outcome : Outcome Design) × Elaborates source top outcome
    by (Some name) at tables is = (Err (TwoModules name), twice at)
    by None at (Ok tables) is = (design_of (library_of source tables) top, built tables at is)
    by None at (Err e) is = (Err e, refused at is)
