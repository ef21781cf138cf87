-- The design of a text fits.
use Rattle.std.proofs.Common.{◌≡◌, ℕ, suc, ◌<◌, List, [], ◌∷◌, length, map, refl, sym, ◌∙◌, ap, subst, arith, Option, Some, None, IfOk, Ok}
use Rattle.std.specs.List.{AllByRecursion, zip}
use Rattle.std.proofs.lemmas.List.{length-map}
use Rattle.design_cell.specs.Table.{Table}
use Rattle.netlist_grammar.specs.Whole.{IsWhole}
use Rattle.netlist_grammar.specs.declared.tree.Source.{Source}
use Rattle.design_circuit.specs.Design.{FitsDesign, FitsName, spelling_of, no_name, name_in}
use Rattle.design_circuit.specs.Job.{driver_in}
use Rattle.design_circuit.specs.declared.design.Design.{Design}
use Rattle.design_circuit.specs.declared.design.Net.{Net}
use Rattle.design_circuit.specs.declared.design.Driver.{Driver}
use Rattle.design_circuit.specs.declared.design.Driver.TheVariants.{Undriven}
use Rattle.design_circuit.specs.declared.name.Name.{Name}
use Rattle.elab_nets.specs.Outcome.{Outcome, after}
use Rattle.elab_nets.specs.State.{State, nothing_made, net_of, finished}
use Rattle.elab_names.specs.declared.scope.Entry.{Entry}
use Rattle.elab_names.specs.Names.{opened}
use Rattle.elab_prims.specs.Built.{AreBuilt}
use Rattle.elab_prims.specs.Definitions.{definition_of}
use Rattle.elab_tree.specs.Library.{Library, library_of, module_of}
use Rattle.elab_tree.specs.Elaborate.{at_top, body, top_of, design_of}
use Rattle.elab_tree.specs.Sound.{name_at, DriverFits, MaybeFits, IsSound, StandsWell}
use Rattle.elab_tree.proofs.Steps.{also, any_ok}
use Rattle.elab_tree.proofs.Lists.{all_at}
use Rattle.elab_tree.proofs.Nets.{undriven_fits}
use Rattle.elab_tree.proofs.Names.{opened_stays}
use Rattle.elab_tree.proofs.Tables.{tables_fit}
use Rattle.elab_tree.proofs.Items.{LibraryFits, module_items, body_stays}

-- ---- what is finished

abbrev finished_nets : List Name → List (Option Driver) → List Net
finished_nets names ds = map net_of (zip names ds)

suc_same : (m n : ℕ) → suc m ≡ suc n → m ≡ n
suc_same m n same = omega arith

nets_many : (names : List Name) (ds : List (Option Driver)) → length ds ≡ length names → length (finished_nets names ds) ≡ length names
nets_many [] ds same = refl
nets_many (x ∷ xs) [] same = same
nets_many (x ∷ xs) (d ∷ ds) same = ap suc (nets_many xs ds (suc_same _ _ same))

no_driver : (x : Name) (xs : List Name) → 0 ≡ length (x ∷ xs) → ⊥
no_driver x xs same = omega arith

nets_named : (names : List Name) (ds : List (Option Driver)) → length ds ≡ length names → map (λ (n : Net). n.path) (finished_nets names ds) ≡ names
nets_named [] ds same = refl
nets_named (x ∷ xs) [] same = absurd (no_driver x xs same)
nets_named (x ∷ xs) (d ∷ ds) same = ap (λ (l : List Name). x ∷ l) (nets_named xs ds (suc_same _ _ same))

abbrev drivers_of : List Net → List Driver
drivers_of nets = map (λ (n : Net). n.driver) nets

nets_fit : (tables : List Table) (n : ℕ) (names : List Name) (ds : List (Option Driver)) → AllByRecursion (MaybeFits tables n) ds → AllByRecursion (DriverFits tables n) (drivers_of (finished_nets names ds))
nets_fit tables n [] ds fits = tt
nets_fit tables n (x ∷ xs) [] fits = tt
nets_fit tables n (x ∷ xs) (Some d ∷ ds) fits = (fits.0, nets_fit tables n xs ds fits.1)
nets_fit tables n (x ∷ xs) (None ∷ ds) fits = (undriven_fits tables n, nets_fit tables n xs ds fits.1)

name_is : (tables : List Table) (s : State) → IsSound tables s → (net : ℕ) → name_in (finished tables s) net ≡ name_at s.names net
name_is tables s sound net = ap (λ (l : List Name). name_at l net) (nets_named s.names s.drivers sound.as_many)

driver_fits : (tables : List Table) (s : State) → IsSound tables s → (net : ℕ) → net < length (finished tables s).nets → DriverFits tables (length (finished tables s).nets) (driver_in (finished tables s) net)
driver_fits tables s sound net within =
    let many = nets_many s.names s.drivers sound.as_many in
    subst (λ (n : ℕ). DriverFits tables n (driver_in (finished tables s) net)) (sym many)
    (all_at (DriverFits tables (length s.names)) (drivers_of (finished tables s).nets) net Undriven (nets_fit tables (length s.names) s.names s.drivers sound.drivers)
    (let long = length-map (finished tables s).nets (λ (n : Net). n.driver) in omega (arith, long, within)))

pub finished_fits : (tables : List Table) (s : State) → IsSound tables s → FitsDesign (finished tables s)
finished_fits tables s sound = record {
  few = (let many = many in let few = sound.few in omega (arith, many, few));
  names = λ net within. subst FitsName (sym (name_is tables s sound net)) (all_at FitsName s.names net no_name sound.names (there net within));
  distinct = λ net other net_in other_in same. sound.distinct net other (there net net_in) (there other other_in) (ap spelling_of (sym (name_is tables s sound net)) ∙ same ∙ ap spelling_of (name_is tables s sound other));
  arguments = λ net within. (driver_fits tables s sound net within).arguments;
  drivers = λ net within. (driver_fits tables s sound net within).pins;
}
  where
    many : length (finished tables s).nets ≡ length s.names
    many = nets_many s.names s.drivers sound.as_many

    there : (net : ℕ) → net < length (finished tables s).nets → net < length s.names
    there net within = let same = many in omega (arith, same, within)

-- ---- the top

nothing_sound : (tables : List Table) → IsSound tables nothing_made
nothing_sound tables = record { as_many = refl; few = omega arith; drivers = tt; names = tt; distinct = λ net other net_in other_in same. absurd (omega arith) }

none_known : (e : Entry) → None ≡ Some e → ⊥
none_known e is = absurd cc

top_well : (tables : List Table) → StandsWell tables at_top
top_well tables = record {
  sound = nothing_sound tables;
  knows = record { parts = refl; nets = λ name e found. absurd (none_known e found); own = λ net text within is. absurd (omega arith); below = λ net text next rest within is. absurd (omega arith) };
}

top_fits : (l : Library) (room k : ℕ) → LibraryFits l
    → IfOk (after (opened (module_of l k).ports (module_of l k).items at_top) (λ here. after (body l room (k ∷ []) (module_of l k).items here) (λ done. Ok (finished l.tables done.state)))) FitsDesign
top_fits l room k fits =
    also _ _ (opened (module_of l k).ports (module_of l k).items at_top) _ (opened_stays l.tables (module_of l k).ports (module_of l k).items at_top (top_well l.tables) (module_items l k fits.whole)) (λ here stays.
    also _ _ (body l room (k ∷ []) (module_of l k).items here) _ ((body_stays l room fits).stays (k ∷ []) (module_of l k).items here stays.well (module_items l k fits.whole)) (λ done kept.
    finished_fits l.tables done.state kept.well.sound))

-- The design of a library fits.
pub design_fits : (l : Library) (top : List ℕ) → LibraryFits l → IfOk (design_of l top) FitsDesign
unfolding design_of
design_fits l top fits = also (λ _. Unit {0}) _ (top_of (definition_of l.source top) top) _ (any_ok _) (λ k _. top_fits l _ k fits)

-- The tree of a text with the tables of its primitives is a library.
pub library_fits : (source : Source) (tables : List Table) → IsWhole source → AreBuilt source.primitives (Ok tables) → LibraryFits (library_of source tables)
library_fits source tables is built = record { whole = is; tables = tables_fit source.primitives tables built }

-- The design of a text fits.
pub fits_of : (source : Source) (tables : List Table) (top : List ℕ) (design : Design) → IsWhole source → AreBuilt source.primitives (Ok tables) → design_of (library_of source tables) top ≡ Ok design → FitsDesign design
fits_of source tables top design is built at = subst (λ (r : Outcome Design). IfOk r FitsDesign) at (design_fits (library_of source tables) top (library_fits source tables is built))
