-- The design of a job fits where the netlist's does.
use Rattle.std.proofs.Common.{◌≡◌, ◌∙◌, ℕ, zero, suc, ◌+◌, ◌<◌, ◌≤◌, ◌^◌, Bool, true, false, List, [], ◌∷◌, ◌++◌, Option, None, Some, length, map, set, take, drop, refl, sym, ap, subst, arith, All, append-nil, append_assoc, slice_index, slice_index_or, if◌then◌else◌}
use Rattle.std.specs.List.{AllByRecursion, Contains}
use Rattle.std.proofs.lemmas.List.{drop_all, drop_more, get_or_at, get_or_default, get_or_read, length-take-le, set-get_or, set_at, take_all, take_more}
use Rattle.design_cell.specs.Table.{Table as Primitive}
use Rattle.design_cell.specs.declared.value.Value.TheVariants.{X}
use Rattle.design_circuit.specs.Design.{FitsDesign, FitsName, name_in, no_name, spelling_of}
use Rattle.design_circuit.specs.Fits.{FitsDriver}
use Rattle.design_circuit.specs.Job.{driver_in}
use Rattle.design_circuit.specs.Order.{IsOrder, arguments_of_driver}
use Rattle.design_circuit.specs.declared.design.Design.{Design}
use Rattle.design_circuit.specs.declared.design.Net.{Net}
use Rattle.design_circuit.specs.declared.name.Name.{Name}
use Rattle.design_circuit.specs.declared.design.Driver.{Driver}
use Rattle.design_circuit.specs.declared.design.Driver.TheVariants.{Input, Undriven, Constant, Copy, Cell, Register}
use Rattle.design_circuit.specs.declared.stim.RegisterRules.{RegisterRules}
use Rattle.design_circuit.specs.declared.stim.Stim.{Stim}
use Rattle.recording_reader.specs.Recording.{Recording}
use Rattle.recording_binding.specs.Binding.{FitsBinding, FitsBound}
use Rattle.recording_binding.specs.JobDesign.{becomes_input, holder_by, input_where, job_design, net_where, nets_where, with_inputs}
use Rattle.recording_binding.specs.Laws.{JobDesignFits}
use Rattle.recording_binding.specs.StimOf.{IsStimOf, input_by, start_of}
use Rattle.recording_binding.specs.declared.binding.Binding.{Binding}
use Rattle.recording_binding.specs.declared.binding.Bound.{Bound}
use Rattle.recording_binding.specs.declared.inputs.Holder.{Holder}
use Rattle.recording_binding.specs.declared.rule.UndrivenRule.{UndrivenRule}
use Rattle.recording_binding.specs.declared.rule.UndrivenRule.TheVariants.{Released, Recorded}

-- ---- a driver

-- neither an input nor a net without a driver has arguments
input_arguments : (o : Option Holder) (d : Driver) → arguments_of_driver (input_where o d) ≡ arguments_of_driver d
input_arguments None d = refl
input_arguments (Some h) Input = refl
input_arguments (Some h) Undriven = refl
input_arguments (Some h) (Constant bit) = refl
input_arguments (Some h) (Copy argument) = refl
input_arguments (Some h) (Cell table pins) = refl
input_arguments (Some h) (Register latching) = refl

input_fits : (udps : List Primitive) (width : ℕ) (o : Option Holder) (d : Driver) → FitsDriver udps width d → FitsDriver udps width (input_where o d)
input_fits udps width None d fits = fits
input_fits udps width (Some h) Input fits = tt
input_fits udps width (Some h) Undriven fits = tt
input_fits udps width (Some h) (Constant bit) fits = tt
input_fits udps width (Some h) (Copy argument) fits = tt
input_fits udps width (Some h) (Cell table pins) fits = fits
input_fits udps width (Some h) (Register latching) fits = fits

-- a net of a list is given its input, or stays
pub put_then : (nets : List Net) (place : ℕ) (o : Option Holder) (net again other : Net) → place < length nets → net ≡ slice_index_or nets place net → becomes_input o (slice_index_or nets place net).driver ≡ true
    → set nets place (record { path = (slice_index_or nets place again).path; driver = Input }) ≡ set nets place (net_where o (slice_index_or nets place other))
put_then nets place o net again other within is becomes =
    let seen : slice_index_or nets place again ≡ net = get_or_default nets place again net within ∙ sym is in
    let there : net ≡ slice_index_or nets place other = get_or_read nets place net within is other in
    let here : record { path = net.path; driver = Input } ≡ net_where o net = λ i. record { path = net.path; driver = sym (ap (λ (b : Bool). if b then Input else net.driver) (ap (λ (n : Net). becomes_input o n.driver) is ∙ becomes)) i } in
    ap (λ (n : Net). set nets place (record { path = n.path; driver = Input })) seen ∙ ap (set nets place) here ∙ ap (λ (n : Net). set nets place (net_where o n)) there

pub put_else : (nets : List Net) (place : ℕ) (o : Option Holder) (net other : Net) → place < length nets → net ≡ slice_index_or nets place net → becomes_input o (slice_index_or nets place net).driver ≡ false
    → nets ≡ set nets place (net_where o (slice_index_or nets place other))
put_else nets place o net other within is stays =
    let there : net ≡ slice_index_or nets place other = get_or_read nets place net within is other in
    let here : net ≡ net_where o net = λ i. record { path = net.path; driver = sym (ap (λ (b : Bool). if b then Input else net.driver) (ap (λ (n : Net). becomes_input o n.driver) is ∙ stays)) i } in
    sym (set-get_or nets place net) ∙ ap (set nets place) (sym is ∙ here) ∙ ap (λ (n : Net). set nets place (net_where o n)) there

-- ---- the nets from a number on

pub nets_long : (holder : ℕ → Option Holder) (from : ℕ) (nets : List Net) → length (nets_where holder from nets) ≡ length nets
nets_long holder from [] = refl
nets_long holder from (net ∷ nets) = ap suc (nets_long holder (from + 1) nets)

paths_same : (holder : ℕ → Option Holder) (from : ℕ) (nets : List Net) → map (λ (n : Net). n.path) (nets_where holder from nets) ≡ map (λ (n : Net). n.path) nets
paths_same holder from [] = refl
paths_same holder from (net ∷ nets) = ap (λ (l : List Name). net.path ∷ l) (paths_same holder (from + 1) nets)

abbrev driver_at : List Net → ℕ → Driver
driver_at nets i = slice_index_or (map (λ (n : Net). n.driver) nets) i Undriven

drivers_where : (holder : ℕ → Option Holder) (from : ℕ) (nets : List Net) (i : ℕ) → i < length nets → driver_at (nets_where holder from nets) i ≡ input_where (holder (from + i)) (driver_at nets i)
drivers_where holder from [] i within = absurd (omega arith)
drivers_where holder from (net ∷ nets) zero within =
    let same : from ≡ from + 0 = omega arith in ap (λ (k : ℕ). input_where (holder k) net.driver) same
drivers_where holder from (net ∷ nets) (suc i) within =
    let same : (from + 1) + i ≡ from + suc i = omega arith in
    drivers_where holder (from + 1) nets i (omega arith) ∙ ap (λ (k : ℕ). input_where (holder k) (driver_at nets i)) same

at_first : (f g : ℕ → Option Holder) (from : ℕ) → f (from + 0) ≡ g (from + 0) → f from ≡ g from
at_first f g from same = (let e : from + 0 ≡ from = omega arith in subst (λ (k : ℕ). f k ≡ g k) e same)

at_next : (f g : ℕ → Option Holder) (from i : ℕ) → f (from + suc i) ≡ g (from + suc i) → f ((from + 1) + i) ≡ g ((from + 1) + i)
at_next f g from i same = (let e : from + suc i ≡ (from + 1) + i = omega arith in subst (λ (k : ℕ). f k ≡ g k) e same)

nets_same : (f g : ℕ → Option Holder) (from : ℕ) (nets : List Net) → ((i : ℕ) → i < length nets → f (from + i) ≡ g (from + i)) → nets_where f from nets ≡ nets_where g from nets
nets_same f g from [] same = refl
nets_same f g from (net ∷ nets) same =
    let first : f from ≡ g from = at_first f g from (same zero (omega arith)) in
    let rest : nets_where f (from + 1) nets ≡ nets_where g (from + 1) nets = nets_same f g (from + 1) nets (λ i within. at_next f g from i (same (suc i) (omega arith))) in
    λ i. net_where (first i) net ∷ rest i

-- one net more
where_more : (holder : ℕ → Option Holder) (from : ℕ) (nets : List Net) (net : Net) → nets_where holder from (nets ++ net ∷ []) ≡ nets_where holder from nets ++ net_where (holder (from + length nets)) net ∷ []
where_more holder from [] net = (let same : from ≡ from + 0 = omega arith in ap (λ (k : ℕ). net_where (holder k) net ∷ []) same)
where_more holder from (first ∷ nets) net =
    let same : (from + 1) + length nets ≡ from + suc (length nets) = omega arith in
    ap (λ (l : List Net). net_where (holder from) first ∷ l)
    (where_more holder (from + 1) nets net ∙ ap (λ (k : ℕ). nets_where holder (from + 1) nets ++ net_where (holder k) net ∷ []) same)

pub put_more : (holder : ℕ → Option Holder) (nets old new : List Net) (n : ℕ) (other : Net) → n < length nets → old ≡ nets_where holder 0 (take n nets) ++ drop n nets
    → new ≡ set old n (net_where (holder n) (slice_index_or old n other)) → new ≡ nets_where holder 0 (take (n + 1) nets) ++ drop (n + 1) nets
put_more holder nets old new n other within is put =
    let front : List Net = nets_where holder 0 (take n nets) in
    let net : Net = slice_index_or nets n other in
    let short : length (take n nets) ≡ n = length-take-le n nets (omega (arith, within)) in
    let long : length (nets_where holder 0 (take n nets)) ≡ n = nets_long holder 0 (take n nets) ∙ short in
    let split : old ≡ nets_where holder 0 (take n nets) ++ slice_index_or nets n other ∷ drop (n + 1) nets = is ∙ ap (λ (l : List Net). nets_where holder 0 (take n nets) ++ l) (drop_more nets n other within) in
    let at : slice_index_or old n other ≡ slice_index_or nets n other = ap (λ (l : List Net). slice_index_or l n other) split ∙ get_or_at front net (drop (n + 1) nets) other n long in
    let number : 0 + length (take n nets) ≡ n = omega (arith, short) in
    put ∙ ap (λ (x : Net). set old n (net_where (holder n) x)) at ∙ ap (λ (l : List Net). set l n (net_where (holder n) net)) split
    ∙ set_at front net (drop (n + 1) nets) (net_where (holder n) net) n long
    ∙ sym (ap (λ (l : List Net). nets_where holder 0 l ++ drop (n + 1) nets) (take_more nets n other within)
    ∙ ap (λ (l : List Net). l ++ drop (n + 1) nets) (where_more holder 0 (take n nets) net)
    ∙ ap (λ (k : ℕ). (nets_where holder 0 (take n nets) ++ net_where (holder k) net ∷ []) ++ drop (n + 1) nets) number
    ∙ append_assoc front (net_where (holder n) net ∷ []) (drop (n + 1) nets))

pub put_all : (holder : ℕ → Option Holder) (nets new : List Net) (n : ℕ) → length nets ≤ n → new ≡ nets_where holder 0 (take n nets) ++ drop n nets → new ≡ nets_where holder 0 nets
put_all holder nets new n all is =
    is ∙ ap (λ (l : List Net). nets_where holder 0 l ++ drop n nets) (take_all n nets all)
    ∙ ap (λ (l : List Net). nets_where holder 0 nets ++ l) (drop_all n nets all) ∙ append-nil (nets_where holder 0 nets)

-- ---- the design

module _ (holder : ℕ → Option Holder) (design : Design) where
  pub inputs_long : length (with_inputs holder design).nets ≡ length design.nets
  inputs_long = nets_long holder 0 design.nets

  pub inputs_driver : (net : ℕ) → net < length design.nets → driver_in (with_inputs holder design) net ≡ input_where (holder net) (driver_in design net)
  inputs_driver net within =
      let same : 0 + net ≡ net = omega arith in
      drivers_where holder 0 design.nets net within ∙ ap (λ (k : ℕ). input_where (holder k) (driver_in design net)) same

  pub inputs_names : (net : ℕ) → name_in (with_inputs holder design) net ≡ name_in design net
  inputs_names net = ap (λ (l : List Name). slice_index_or l net no_name) (paths_same holder 0 design.nets)

  arguments_same : (net : ℕ) → net < length design.nets → arguments_of_driver (driver_in (with_inputs holder design) net) ≡ arguments_of_driver (driver_in design net)
  arguments_same net within = ap arguments_of_driver (inputs_driver net within) ∙ input_arguments (holder net) (driver_in design net)

  down : (net : ℕ) → net < length (with_inputs holder design).nets → net < length design.nets
  down net within = subst (λ (n : ℕ). net < n) inputs_long within

  pub inputs_fit : FitsDesign design → FitsDesign (with_inputs holder design)
  inputs_fit fits = record {
    few = subst (λ (n : ℕ). n ≤ 2 ^ 20) (sym inputs_long) fits.few;
    names = λ net within. subst FitsName (sym (inputs_names net)) (fits.names net (down net within));
    distinct = λ net other within inside same. fits.distinct net other (down net within) (down other inside)
        (ap spelling_of (sym (inputs_names net)) ∙ same ∙ ap spelling_of (inputs_names other));
    arguments = λ net within. subst (λ (n : ℕ). AllByRecursion (λ a. a < n) (arguments_of_driver (driver_in (with_inputs holder design) net))) (sym inputs_long)
        (subst (λ (l : List ℕ). AllByRecursion (λ a. a < length design.nets) l) (sym (arguments_same net (down net within))) (fits.arguments net (down net within)));
    drivers = λ net within. subst (λ (n : ℕ). FitsDriver design.udps n (driver_in (with_inputs holder design) net)) (sym inputs_long)
        (subst (λ (d : Driver). FitsDriver design.udps (length design.nets) d) (sym (inputs_driver net (down net within)))
        (input_fits design.udps (length design.nets) (holder net) (driver_in design net) (fits.drivers net (down net within))));
  }

  ordered : (order : List ℕ) → IsOrder (driver_in design) (length design.nets) order → IsOrder (driver_in (with_inputs holder design)) (length design.nets) order
  ordered order is = record {
    all = is.all;
    next = λ p inside. (let next = is.next p inside in record {
      within = next.within;
      unlisted = next.unlisted;
      ready = subst (λ (l : List ℕ). AllByRecursion (Contains (take p order)) l) (sym (arguments_same (slice_index order p) next.within)) next.ready;
      least = λ other less unlisted ready. (let low = next.within in next.least other less unlisted
          (subst (λ (l : List ℕ). AllByRecursion (Contains (take p order)) l) (arguments_same other (omega (arith, less, low))) ready));
    });
  }

  pub inputs_ordered : (order : List ℕ) → IsOrder (driver_in design) (length design.nets) order → IsOrder (driver_in (with_inputs holder design)) (length (with_inputs holder design).nets) order
  inputs_ordered order is = subst (λ (n : ℕ). IsOrder (driver_in (with_inputs holder design)) n order) (sym inputs_long) (ordered order is)

  bound_fits : (b : Bound) → FitsBound design b → FitsBound (with_inputs holder design) b
  bound_fits b fits = record {
    some = fits.some;
    few = fits.few;
    nets = subst (λ (n : ℕ). All (λ (net : ℕ). net < n) b.bits) (sym inputs_long) fits.nets;
  }

  pub inputs_bound : (binding : Binding) → FitsBinding design binding → FitsBinding (with_inputs holder design) binding
  inputs_bound binding fits = record {
    each = λ k b within. bound_fits (slice_index_or binding.bound k b) (fits.each k b within);
    few = fits.few;
  }

-- Inputs by functions that hold alike are the same.
pub inputs_same : (f g : ℕ → Option Holder) (design : Design) → ((net : ℕ) → net < length design.nets → f net ≡ g net) → with_inputs f design ≡ with_inputs g design
inputs_same f g design same =
    let nets : nets_where f 0 design.nets ≡ nets_where g 0 design.nets = nets_same f g 0 design.nets (λ i within. (let e : i ≡ 0 + i = omega arith in subst (λ (k : ℕ). f k ≡ g k) e (same i within))) in
    λ i. record { nets = nets i; udps = design.udps }

-- So are stimuli.
pub stim_same : (design : Design) (recording : Recording) (f g : ℕ → Option Holder) (rounds : ℕ) (rules : RegisterRules) (stim : Stim) → ((net : ℕ) → net < length design.nets → f net ≡ g net)
    → IsStimOf design recording f rounds rules stim → IsStimOf design recording g rounds rules stim
stim_same design recording f g rounds rules stim same is = record {
  times = is.times;
  as_many = is.as_many;
  ruled = is.ruled;
  many = is.many;
  rows = λ moment within. (let row = is.rows moment within in record {
    long = row.long;
    values = λ net inside. row.values net inside ∙ ap (λ (o : Option Holder). input_by recording moment X o (driver_in design net)) (same net inside);
  });
  starts = (let row = is.starts in record {
    long = row.long;
    values = λ net inside. row.values net inside ∙ ap (λ (o : Option Holder). start_of recording o rules.start (driver_in design net)) (same net inside);
  });
}

-- ---- a job's

pub made_fits : (rule : UndrivenRule) (design : Design) (bound : List Bound) → JobDesignFits design (job_design rule design bound)
made_fits Released design bound = record {
  fits = λ fits. fits;
  ordered = λ order is. is;
  bound = λ binding fits. fits;
  as_many = refl;
}
made_fits Recorded design bound = record {
  fits = inputs_fit (holder_by Recorded design bound) design;
  ordered = inputs_ordered (holder_by Recorded design bound) design;
  bound = inputs_bound (holder_by Recorded design bound) design;
  as_many = inputs_long (holder_by Recorded design bound) design;
}
