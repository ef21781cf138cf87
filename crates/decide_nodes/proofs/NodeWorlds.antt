-- The bits of nodes in worlds, where they read the roots of what their places rest on.
use Rattle.std.proofs.Common.{◌≡◌, ℕ, zero, suc, ◌<◌, ◌≤◌, not, Bool, false, List, [], ◌∷◌, length, map, refl, sym, ap, ◌∙◌, subst, arith, slice_index, slice_index_or}
use Rattle.std.specs.List.{AllByRecursion}
use Rattle.std.proofs.lemmas.Bool.{and_parts}
use Rattle.std.proofs.lemmas.List.{length-map}
use Rattle.design_cell.specs.declared.value.Value.{Value}
use Rattle.design_cell.specs.declared.value.Value.TheVariants.{X}
use Rattle.design_circuit.specs.Fits.{Fits}
use Rattle.design_circuit.specs.Job.{Job}
use Rattle.design_circuit.specs.Waveform.{certain}
use Rattle.design_circuit.specs.World.{decided}
use Rattle.law_model.specs.Class.{class_of, flipped}
use Rattle.law_model.specs.Cone.{essentials, in_cone, is_carried}
use Rattle.law_model.specs.Mask.{mask_of}
use Rattle.law_model.specs.Node.{IsBody, NodeBody, carried, node_bit, ruled}
use Rattle.law_model.specs.Root.{Root, root_of}
use Rattle.law_model.specs.declared.class.ClassByNumber.{ClassByNumber}
use Rattle.law_model.specs.declared.class.ClassByNumber.TheVariants.{Local, Free, Carried as IsCarried, Line}
use Rattle.law_model.proofs.CarryLaw.{TrueWorld, carry}
use Rattle.law_model.proofs.ConeWorlds.{world_up}
use Rattle.law_model.proofs.Cones.{essentials_below}
use Rattle.law_model.proofs.EssentialArguments.{world_table}
use Rattle.law_model.proofs.MetClauses.{flipped_twice}
use Rattle.law_model.proofs.Roots.{carried_below, root_carried, root_own}
use Rattle.wave_proved.specs.Contents.{job}
use Rattle.decide_nodes.specs.declared.node.NodeBody.{NodeBody as Body}
use Rattle.decide_nodes.specs.declared.node.NodeBody.TheVariants.{Carried, Rule}
use Rattle.decide_nodes.specs.Nodes.{StandsAt, body_at, body_of}
use Rattle.decide_nodes.specs.Traced.{IsBodyOver, WholeLaw, cone_in, turned_root}
use Rattle.decide_nodes.proofs.NodeSources.{flipped_back, turned_table}

-- In a world a place has the bit of its root, or its complement where the way there inverts.
module _ (j : Job) (fits : Fits j) (c : ℕ → Value) (f w : ℕ → Bool) (root : ℕ) (seen : TrueWorld j c f w root) where
  own_bit : (k : ℕ) → is_carried (class_of j c k) ≡ false
      → w k ≡ flipped (root_of j c k).inverted (w (root_of j c k).place)
  own_bit k free = subst (λ (r : Root). w k ≡ flipped r.inverted (w r.place)) (sym (root_own j c k free)) refl

  class_bit : (k : ℕ) (class : ClassByNumber) → k ≤ root → class_of j c k ≡ class
      → ((from : ℕ) → from < k → w from ≡ flipped (root_of j c from).inverted (w (root_of j c from).place))
      → w k ≡ flipped (root_of j c k).inverted (w (root_of j c k).place)
  class_bit k (Local bit) up is before = own_bit k (ap is_carried is)
  class_bit k Free up is before = own_bit k (ap is_carried is)
  class_bit k Line up is before = own_bit k (ap is_carried is)
  class_bit k (IsCarried from inverted) up is before =
      let here = world_up j c f w k root up seen in
      subst (λ (r : Root). w k ≡ flipped r.inverted (w r.place))
      (sym (root_carried j fits c k from inverted here.within is))
      (carry j fits c f w k from inverted here is
      ∙ ap (flipped inverted) (before from (carried_below j fits c k from inverted here.within is))
      ∙ sym (flipped_twice inverted (root_of j c from).inverted (w (root_of j c from).place)))

  bit_below : (n k : ℕ) → k < n → k ≤ root → w k ≡ flipped (root_of j c k).inverted (w (root_of j c k).place)
  bit_below zero k less up = absurd (omega arith)
  bit_below (suc n) k less up = class_bit k (class_of j c k) up refl
      (λ from low. bit_below n from (omega (arith, low, less)) (omega (arith, low, up)))

  pub root_bit_is : (k : ℕ) → k ≤ root → w k ≡ flipped (root_of j c k).inverted (w (root_of j c k).place)
  root_bit_is k up = bit_below (suc k) k (omega arith) up

  -- A place whose root is that of another, turned, has its bit, turned.
  pub turned_bit : (k other : ℕ) (turned : Bool) → k ≤ root → other ≤ root
      → root_of j c k ≡ turned_root turned (root_of j c other) → w other ≡ flipped turned (w k)
  turned_bit k other turned up near is =
      sym (flipped_back turned (w other))
      ∙ ap (flipped turned) (ap (flipped turned) (root_bit_is other near)
      ∙ sym (flipped_twice turned (root_of j c other).inverted (w (root_of j c other).place))
      ∙ ap (λ (r : Root). flipped r.inverted (w r.place)) (sym is) ∙ sym (root_bit_is k up))

pub all_at : (P : ℕ → Type 0) (xs : List ℕ) (i : ℕ) → AllByRecursion P xs → i < length xs → P (slice_index xs i)
all_at P [] i all less = absurd (omega arith)
all_at P (x ∷ xs) zero all less = all.0
all_at P (x ∷ xs) (suc i) all less = all_at P xs i all.1 (omega arith)

pub at_map : (f : ℕ → ℕ) (xs : List ℕ) (i : ℕ) → i < length xs → slice_index (map f xs) i ≡ f (slice_index xs i)
at_map f [] i less = absurd (omega arith)
at_map f (x ∷ xs) zero less = refl
at_map f (x ∷ xs) (suc i) less = at_map f xs i (omega arith)

-- Numbers whose bits are the same, one after another.
pub mask_pairs : (xs ys : List ℕ) (f g : ℕ → Bool) → length xs ≡ length ys
    → ((k : ℕ) → k < length xs → f (slice_index xs k) ≡ g (slice_index ys k)) → mask_of xs f ≡ mask_of ys g
mask_pairs [] [] f g long same = refl
mask_pairs [] (y ∷ ys) f g long same = absurd (omega arith)
mask_pairs (x ∷ xs) [] f g long same = absurd (omega arith)
mask_pairs (x ∷ xs) (y ∷ ys) f g long same =
    rw (same 0 (omega arith), mask_pairs xs ys f g (omega arith) (λ k less. same (suc k) (omega arith))) refl

-- The bit of a node in a world, from the bits of the nodes before it.
pub node_over : (j : Job) → Fits j → (c : ℕ → Value) (f w : ℕ → Bool) (root place position : ℕ) (places : List ℕ)
    (body : Body) (bits : ℕ → Bool) → TrueWorld j c f w root → place ≤ root → StandsAt position body
    → IsBodyOver j c places place (body_of body)
    → ((p : ℕ) → p < position → (slice_index places p ≤ root) × (bits p ≡ w (slice_index places p)))
    → node_bit bits (f place) (body_of body) ≡ w place
node_over j fits c f w root place position places (Carried node inverted) bits seen up stands is before =
    ap (flipped inverted) (before node stands).1
    ∙ sym (carry j fits c f w place (slice_index places node) inverted (world_up j c f w place root up seen) is.class)
node_over j fits c f w root place position places (Rule arguments values) bits seen up stands is before =
    let here = world_up j c f w place root up seen in
    ap (λ n. decided (slice_index_or values n X) (f place))
    (mask_pairs arguments (essentials j c place) bits (λ k. flipped (is.turns k) (w k)) is.long same)
    ∙ ap (λ v. decided v (f place)) (is.are_values (λ k. flipped (is.turns k) (w k))
    ∙ turned_table j c place is.turns w ∙ sym (world_table j fits c f w place here))
    ∙ sym (here.world place (omega arith))
  where
    same : (k : ℕ) → k < length arguments
        → bits (slice_index arguments k)
        ≡ flipped (is.turns (slice_index (essentials j c place) k)) (w (slice_index (essentials j c place) k))
    same k less =
        let argument : ℕ = slice_index arguments k in
        let name : ℕ = slice_index (essentials j c place) k in
        let low = all_at (λ p. p < position) arguments k stands.before less in
        let at = before argument low in
        let under : name < place = all_at (λ i. i < place) (essentials j c place) k (essentials_below j c place)
        (let long = is.long in omega (arith, less, long)) in
        at.1 ∙ turned_bit j fits c f w root seen name (slice_index places argument) (is.turns name)
        (omega (arith, under, up)) at.0 (is.roots k less)

-- The nodes of a whole cone are a cone: they read what their places rest on.
rule_over : (j : Job) (c : ℕ → Value) (places : List ℕ) (place : ℕ) (body : NodeBody) → IsBody j c places place body
    → IsBodyOver j c places place body
rule_over j c places place (carried node inverted) is = is
rule_over j c places place (ruled arguments values) is = record {
  free = is.free;
  within = is.within;
  turns = λ k. false;
  long = sym (length-map arguments (slice_index places)) ∙ ap length is.are_essential;
  roots = λ k less. ap (root_of j c) (ap (λ xs. slice_index xs k) (sym is.are_essential)
      ∙ at_map (slice_index places) arguments k less);
  are_values = is.are_values;
}

pub whole_law : WholeLaw
whole_law c root nodes is = record {
  wave = is.wave;
  are_nodes = is.are_nodes;
  reach = is.reach;
  free = is.free;
  kept = in_cone (job c) (certain c.written) root;
  inside = λ place at. at;
  variables = λ place at. (and_parts (in_cone (job c) (certain c.written) root place)
      (not (is_carried (class_of (job c) (certain c.written) place))) at).0;
  places = is.places;
  bodies = λ position less. rule_over (job c) (certain c.written) (cone_in c root)
      (slice_index (cone_in c root) position) (body_at nodes position) (is.bodies position less);
}
