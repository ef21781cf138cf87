-- Graphs that grow, and waves that do.
use Rattle.std.proofs.Common.{◌≡◌, ℕ, zero, suc, ◌+◌, ◌<◌, ◌≤◌, ◌^◌, Bool, true, false, List, [], ◌∷◌, ◌++◌, length, map, refl, sym, ap, ◌∙◌, subst, arith, length-append, slice_index, slice_index_or, ⊎_elim}
use Rattle.std.specs.List.{AllByRecursion}
use Rattle.std.specs.List.Sorted.{IsStrictlyIncreasing}
use Rattle.std.proofs.Math.ListN.{get_or-append}
use Rattle.std.proofs.Math.Seq.{get_or-append_seam}
use Rattle.std.proofs.lemmas.Bool.{cases_eq}
use Rattle.std.proofs.lemmas.List.{length-map, map-append}
use Rattle.design_cell.specs.declared.value.Value.{Value}
use Rattle.design_cell.specs.declared.value.Value.TheVariants.{X}
use Rattle.design_circuit.specs.declared.waveform.Written.{Written}
use Rattle.design_circuit.specs.Fits.{Fits, place_at}
use Rattle.design_circuit.specs.Job.{Job, places_of}
use Rattle.design_circuit.specs.Waveform.{certain}
use Rattle.design_circuit.proofs.Rules.{AgreeBelow}
use Rattle.law_model.specs.Class.{class_of, flipped}
use Rattle.law_model.specs.Cone.{essentials, is_carried, table}
use Rattle.law_model.specs.Laws.{InReach}
use Rattle.law_model.specs.Mask.{mask_of}
use Rattle.law_model.specs.declared.class.ClassByNumber.TheVariants.{Carried as IsCarried}
use Rattle.law_model.specs.Root.{Root, root_of}
use Rattle.law_model.proofs.AssignmentNumbers.{mask_small}
use Rattle.law_model.proofs.ClassesBefore.{class_local}
use Rattle.law_model.proofs.Cones.{essentials_below}
use Rattle.law_model.proofs.ConesBefore.{essentials_local, table_local}
use Rattle.law_model.proofs.FactsBefore.{certain_grown}
use Rattle.law_model.proofs.Roots.{root_local, root_own}
use Rattle.decide_nodes.specs.OfWave.{job}
use Rattle.decide_nodes.specs.declared.node.Node.{Node}
use Rattle.decide_nodes.specs.declared.node.NodeBody.{NodeBody as Body}
use Rattle.decide_nodes.specs.declared.node.NodeBody.TheVariants.{Carried, Rule}
use Rattle.decide_nodes.specs.Nodes.{StandsAt, body_at, body_of, no_node, node_at, place_of_node}
use Rattle.decide_nodes.specs.Traced.{IsBodyOver, IsRuledOver, turned_root}
use Rattle.decide_nodes.proofs.NodeWorlds.{all_at}
use Rattle.decide_graph.specs.Graph.{BeginLaw, StayLaw}
use Rattle.decide_graph.specs.NodeRoots.{GrowLaw, node_in, node_root_at}
use Rattle.decide_graph.specs.declared.node_root.NodeRoot.{NodeRoot}
use Rattle.decide_graph.proofs.TurnedTables.{turned_mask}

-- The body of a node, over certain values that agree below its place.
body_moved : (j : Job) → Fits j → (c d : ℕ → Value) (places : List ℕ) (place position : ℕ) (body : Body)
    → place < places_of j → AgreeBelow c d place → StandsAt position body
    → ((p : ℕ) → p < position → (slice_index places p < places_of j) × AgreeBelow c d (slice_index places p))
    → IsBodyOver j c places place (body_of body) → IsBodyOver j d places place (body_of body)
body_moved j fits c d places place position (Carried node inverted) within agree stands before is = record {
  within = is.within;
  class = sym (class_local j fits c d place within agree) ∙ is.class;
}
body_moved j fits c d places place position (Rule arguments values) within agree stands before is = record {
  free = ap is_carried (sym (class_local j fits c d place within agree)) ∙ is.free;
  within = is.within;
  turns = is.turns;
  long = is.long ∙ ap length same;
  roots = λ k less. subst (λ xs. root_of j d (slice_index xs k)
      ≡ turned_root (is.turns (slice_index xs k)) (root_of j d (slice_index places (slice_index arguments k)))) same
      (let low = all_at (λ p. p < position) arguments k stands.before less in
      let at = before (slice_index arguments k) low in
      let under : slice_index (essentials j c place) k < place = all_at (λ i. i < place) (essentials j c place) k
      (essentials_below j c place) (let long = is.long in omega (arith, less, long)) in
      sym (root_local j fits c d (slice_index (essentials j c place) k) (omega (arith, under, within))
      (λ i low. agree i (omega (arith, low, under))))
      ∙ is.roots k less
      ∙ ap (turned_root (is.turns (slice_index (essentials j c place) k)))
      (root_local j fits c d (slice_index places (slice_index arguments k)) at.0 at.1));
  are_values = λ bits. subst (λ xs. slice_index_or values (mask_of xs bits) X
      ≡ table j d place (λ k. flipped (is.turns k) (bits k))) same
      (is.are_values bits ∙ ap (λ (t : (ℕ → Bool) → Value). t (λ k. flipped (is.turns k) (bits k)))
      (table_local j fits c d place within agree));
}
  where
    same : essentials j c place ≡ essentials j d place
    same = essentials_local j fits c d place within agree

pub begin_law : BeginLaw
begin_law c = record {
  rises = λ k less. absurd (omega (arith, less));
  places = refl;
  reach = λ node less. absurd (omega (arith, less));
  free = λ node less. absurd (omega (arith, less));
  bodies = λ node less. absurd (omega (arith, less));
}

pub stay_law : StayLaw
stay_law c d nodes numbers v wave same grown kept graph = record {
  rises = graph.rises;
  places = subst (λ (j : Job). map place_of_node nodes ≡ map (place_at j) numbers) (sym same) graph.places;
  reach = λ node less. here (λ j ws. InReach j ws (slice_index numbers node))
      (let at = graph.reach node less in let up = at.written in let long = length-append c.written (v ∷ []) in
      record { written = omega (arith, up, long); within = at.within });
  free = λ node less. here (λ j ws. is_carried (class_of j (certain ws) (slice_index numbers node)) ≡ false)
      (let at = graph.reach node less in
      ap is_carried (sym (class_local (job c) fits (certain c.written) (certain (c.written ++ v ∷ []))
      (slice_index numbers node) at.within (agree (slice_index numbers node) at.written))) ∙ graph.free node less);
  bodies = λ node less. here (λ j ws. IsBodyOver j (certain ws) numbers (slice_index numbers node) (body_at nodes node))
      (let at = graph.reach node less in
      body_moved (job c) fits (certain c.written) (certain (c.written ++ v ∷ [])) numbers (slice_index numbers node) node
      (node_at nodes node).body at.within (agree (slice_index numbers node) at.written) (kept.each node less)
      (λ p low. (let near = graph.reach p (omega (arith, low, less)) in
      (near.within, agree (slice_index numbers p) near.written))) (graph.bodies node less));
}
  where
    fits : Fits (job c)
    fits = wave.fits.fits_job

    agree : (place : ℕ) → place ≤ length c.written → AgreeBelow (certain c.written) (certain (c.written ++ v ∷ [])) place
    agree place up k low = certain_grown c.written v k (omega (arith, low, up))

    here : (P : Job → List Written → Type 0) → P (job c) (c.written ++ v ∷ []) → P (job d) d.written
    here P h = subst (λ (j : Job). P j d.written) (sym same) (subst (λ ws. P (job c) ws) (sym grown) h)

-- One place more.
last_rises : (numbers : List ℕ) (place : ℕ) → IsStrictlyIncreasing numbers → AllByRecursion (λ k. k < place) numbers
    → IsStrictlyIncreasing (numbers ++ place ∷ [])
last_rises numbers place rises behind k less =
    let long = length-append numbers (place ∷ []) in
    let first = get_or-append numbers (place ∷ []) 0 k (omega (arith, less, long)) in
    ⊎_elim (λ (last : k + 1 ≡ length numbers).
    (let seam : slice_index (numbers ++ place ∷ []) (k + 1) ≡ place =
    subst (λ n. slice_index (numbers ++ place ∷ []) n ≡ place) (sym last) (get_or-append_seam numbers place [] 0) in
    let low : slice_index numbers k < place = all_at (λ i. i < place) numbers k behind (omega (arith, last)) in
    omega (arith, first, seam, low)))
    (λ (other : k + 1 ≡ length numbers → ⊥).
    (let inner : k + 1 < length numbers = omega (arith, less, long, other) in
    let second = get_or-append numbers (place ∷ []) 0 (k + 1) inner in
    let up = rises k inner in omega (arith, first, second, up))) (cases_eq (k + 1) (length numbers))

more_within : (n m : ℕ) (xs : List ℕ) → n ≤ m → AllByRecursion (λ k. k < n) xs → AllByRecursion (λ k. k < m) xs
more_within n m [] up all = tt
more_within n m (x ∷ xs) up all = ((let less = all.0 in omega (arith, less, up)), more_within n m xs up all.1)

-- What is over some places is over these and one more.
over_more : (j : Job) (c : ℕ → Value) (numbers : List ℕ) (place : ℕ) (new : ℕ) (body : Body)
    → IsBodyOver j c numbers place (body_of body) → IsBodyOver j c (numbers ++ new ∷ []) place (body_of body)
over_more j c numbers place new (Carried node inverted) is = record {
  within = (let low = is.within in let long = length-append numbers (new ∷ []) in omega (arith, low, long));
  class = subst (λ k. class_of j c place ≡ IsCarried k inverted) (sym (get_or-append numbers (new ∷ []) 0 node is.within)) is.class;
}
over_more j c numbers place new (Rule arguments values) is = record {
  free = is.free;
  within = more_within (length numbers) (length (numbers ++ new ∷ [])) arguments
      (let long = length-append numbers (new ∷ []) in omega (arith, long)) is.within;
  turns = is.turns;
  long = is.long;
  roots = λ k less. is.roots k less ∙ ap (λ i. turned_root (is.turns (slice_index (essentials j c place) k)) (root_of j c i))
      (sym (get_or-append numbers (new ∷ []) 0 (slice_index arguments k)
      (all_at (λ a. a < length numbers) arguments k is.within less)));
  are_values = is.are_values;
}

flipped_false : (b : Bool) → flipped b false ≡ b
flipped_false false = refl
flipped_false true = refl

mapped_all : (n : ℕ) (roots : List NodeRoot) → AllByRecursion (λ root. node_in root < n) roots
    → AllByRecursion (λ k. k < n) (map node_in roots)
mapped_all n [] all = tt
mapped_all n (r ∷ rs) all = (all.0, mapped_all n rs all.1)

at_node : (roots : List NodeRoot) (k : ℕ) → k < length roots → slice_index (map node_in roots) k ≡ (node_root_at roots k).node
at_node [] k less = absurd (omega arith)
at_node (r ∷ rs) zero less = refl
at_node (r ∷ rs) (suc k) less = at_node rs k (omega arith)

root_before : (n : ℕ) (roots : List NodeRoot) (k : ℕ) → AllByRecursion (λ root. node_in root < n) roots → k < length roots
    → (node_root_at roots k).node < n
root_before n [] k all less = absurd (omega arith)
root_before n (r ∷ rs) zero all less = all.0
root_before n (r ∷ rs) (suc k) all less = root_before n rs k all.1 (omega arith)

pub grow_law : GrowLaw
grow_law c old new numbers place roots values wave graph rooted adds = record {
  rises = last_rises numbers place graph.rises rooted.after;
  places = ap (map place_of_node) adds.nodes ∙ map-append place_of_node old (last ∷ [])
      ∙ ap (λ xs. xs ++ place_at (job c) place ∷ []) graph.places ∙ sym (map-append (place_at (job c)) numbers (place ∷ []));
  reach = λ node less. each (λ k. InReach (job c) c.written k) node less (graph.reach node) rooted.reach;
  free = λ node less. each (λ k. is_carried (class_of (job c) (certain c.written) k) ≡ false) node less (graph.free node) rooted.free;
  bodies = λ node less. ⊎_elim
      (λ (same : node ≡ length old). subst (λ (n : Node). IsBodyOver (job c) (certain c.written) (numbers ++ place ∷ [])
      (slice_index (numbers ++ place ∷ []) node) (body_of n.body)) (sym (last_at node same))
      (subst (λ k. IsBodyOver (job c) (certain c.written) (numbers ++ place ∷ []) k (body_of last.body)) (sym (number_last node same))
      last_body))
      (λ (other : node ≡ length old → ⊥). (let low : node < length old = omega (arith, more node less, other) in
      subst (λ (n : Node). IsBodyOver (job c) (certain c.written) (numbers ++ place ∷ [])
      (slice_index (numbers ++ place ∷ []) node) (body_of n.body)) (sym (old_at node low))
      (subst (λ k. IsBodyOver (job c) (certain c.written) (numbers ++ place ∷ []) k (body_at old node)) (sym (number_old node low))
      (over_more (job c) (certain c.written) numbers (slice_index numbers node) place (node_at old node).body (graph.bodies node low)))))
      (cases_eq node (length old));
}
  where
    last : Node
    last = record { place = place_at (job c) place; body = Rule (map node_in roots) adds.turned }

    count : length numbers ≡ length old
    count = sym (length-map numbers (place_at (job c))) ∙ sym (ap length graph.places) ∙ length-map old place_of_node

    more : (node : ℕ) → node < length new → node < length old + 1
    more node less = let long = ap length adds.nodes ∙ length-append old (last ∷ []) in omega (arith, less, long)

    last_at : (node : ℕ) → node ≡ length old → node_at new node ≡ last
    last_at node same = ap (λ ns. node_at ns node) adds.nodes ∙ ap (node_at (old ++ last ∷ [])) same
        ∙ get_or-append_seam old last [] no_node

    old_at : (node : ℕ) → node < length old → node_at new node ≡ node_at old node
    old_at node low = ap (λ ns. node_at ns node) adds.nodes ∙ get_or-append old (last ∷ []) no_node node low

    number_last : (node : ℕ) → node ≡ length old → slice_index (numbers ++ place ∷ []) node ≡ place
    number_last node same = ap (slice_index (numbers ++ place ∷ [])) (same ∙ sym count) ∙ get_or-append_seam numbers place [] 0

    number_old : (node : ℕ) → node < length old → slice_index (numbers ++ place ∷ []) node ≡ slice_index numbers node
    number_old node low = get_or-append numbers (place ∷ []) 0 node (let all = count in omega (arith, low, all))

    each : (P : ℕ → Type 0) (node : ℕ) → node < length new → (node < length old → P (slice_index numbers node)) → P place
        → P (slice_index (numbers ++ place ∷ []) node)
    each P node less before here = ⊎_elim (λ (same : node ≡ length old). subst P (sym (number_last node same)) here)
        (λ (other : node ≡ length old → ⊥). (let low : node < length old = omega (arith, more node less, other) in
        subst P (sym (number_old node low)) (before low))) (cases_eq node (length old))

    names : List ℕ
    names = essentials (job c) (certain c.written) place

    turns : ℕ → Bool
    turns k = (root_of (job c) (certain c.written) k).inverted

    last_body : IsRuledOver (job c) (certain c.written) (numbers ++ place ∷ []) place (map node_in roots) adds.turned
    last_body = record {
      free = rooted.free;
      within = more_within (length numbers) (length (numbers ++ place ∷ [])) (map node_in roots)
          (let long = length-append numbers (place ∷ []) in omega (arith, long)) (mapped_all (length numbers) roots rooted.before);
      turns = turns;
      long = length-map roots node_in ∙ rooted.long;
      roots = λ k less.
          (let near : k < length roots = (let long = length-map roots node_in in omega (arith, less, long)) in
          let r : NodeRoot = node_root_at roots k in
          let low : r.node < length numbers = root_before (length numbers) roots k rooted.before near in
          let is = rooted.are_roots k near in
          let own : root_of (job c) (certain c.written) (slice_index numbers r.node) ≡ record { place = slice_index numbers r.node; inverted = false } =
          root_own (job c) (certain c.written) (slice_index numbers r.node) (graph.free r.node (let all = count in omega (arith, low, all))) in
          is ∙ ap (λ b. record { place = slice_index numbers r.node; inverted = b })
          (ap (λ (q : Root). q.inverted) (sym is) ∙ sym (flipped_false (turns (slice_index names k))))
          ∙ ap (turned_root (turns (slice_index names k))) (sym own)
          ∙ ap (λ i. turned_root (turns (slice_index names k)) (root_of (job c) (certain c.written) i))
          (sym (ap (slice_index (numbers ++ place ∷ [])) (at_node roots k near) ∙ get_or-append numbers (place ∷ []) 0 r.node low)));
      are_values = λ bits.
          (let small = mask_small names bits in
          let long = rooted.long in let values_long = rooted.values_long in
          adds.is_turned.are (mask_of names bits) (subst (λ n. mask_of names bits < n)
          (sym (values_long ∙ ap (λ n. 2 ^ n) long)) small)
          ∙ ap (λ n. slice_index_or values n X) (turned_mask roots names turns bits long
          (λ k less. sym (ap (λ (q : Root). q.inverted) (rooted.are_roots k less))))
          ∙ rooted.are_values (λ k. flipped (turns k) (bits k)));
    }
