-- Nodes that are taken from the greatest down, and those that wait.
use Rattle.std.proofs.Common.{◌≡◌, ℕ, ◌+◌, ◌<◌, ◌≤◌, ◌==◌, ◌||◌, Bool, true, false, List, [], ◌∷◌, ◌++◌, length, refl, sym, ap, ◌∙◌, subst, arith, ◌⊎◌, ⊎_elim, length-append}
use Rattle.std.proofs.lemmas.Bool.{eq-eqb, eqb-true, or_cases}
use Rattle.law_model.specs.Places.{among}
use Rattle.law_model.proofs.PlacesWhere.{all_among, among_all, or_left, or_right}
use Rattle.decide_graph.specs.Reached.{AddsAll, IsFalling, TakesGreatest}
use Rattle.decide_graph.proofs.FallingPlaces.{falls_push, in_push, push_new, push_old}
use Rattle.decide_nodes.specs.declared.node.Node.{Node}
use Rattle.decide_nodes.specs.Nodes.{node_at}
use Rattle.decide_graph.specs.Graph.{AreOrdered}
use Rattle.decide_graph.specs.Walk.{AreAllTaken, AreTakenFrom, IsClosedSet, read_nodes, reads_node}
use Rattle.decide_graph.proofs.ReadNodes.{reads_before}

-- A node is found: it is taken or it waits.
abbrev is_found : List ℕ → List ℕ → ℕ → Bool
is_found taken waiting k = among taken k || among waiting k

-- Nodes that are taken downwards, and those that wait: the first is found and so is what a taken node reads, all that is
-- found is in each closed set, and what waits stands below what is taken.
pub record IsDescent (nodes : List Node) (top : ℕ) (taken waiting : List ℕ) : Type 0 where
  pub begins : is_found taken waiting top ≡ true
  pub closed : (node argument : ℕ) → among taken node ≡ true → reads_node nodes node argument ≡ true
      → is_found taken waiting argument ≡ true
  pub low : (k : ℕ) → is_found taken waiting k ≡ true → k ≤ top
  pub least : (has : ℕ → Bool) → IsClosedSet nodes top has → (k : ℕ) → is_found taken waiting k ≡ true → has k ≡ true
  pub falls : IsFalling taken
  pub below : (node k : ℕ) → among taken node ≡ true → among waiting k ≡ true → k < node
  pub room : (k : ℕ) → among waiting k ≡ true → length taken + k ≤ top

-- The first alone waits.
pub descent_begins : (nodes : List Node) (top : ℕ) (waiting : List ℕ)
    → ((k : ℕ) → among waiting k ≡ (top == k) || false) → IsDescent nodes top [] waiting
descent_begins nodes top waiting are = record {
  begins = are top ∙ or_left (top == top) false (eq-eqb top top refl);
  closed = λ node argument at reads. (let no : false ≡ true = at in cc);
  low = λ k at. (let same = one k at in omega (arith, same));
  least = λ has is k at. subst (λ i. has i ≡ true) (one k at) is.first;
  falls = tt;
  below = λ node k at waits. (let no : false ≡ true = at in cc);
  room = λ k waits. (let same = one k waits in omega (arith, same));
}
  where
    one : (k : ℕ) → among waiting k ≡ true → top ≡ k
    one k waits = ⊎_elim (λ (e : (top == k) ≡ true). eqb-true top k e) (λ (e : false ≡ true). cc)
        (or_cases (top == k) false (sym (are k) ∙ waits))

-- The greatest of those that wait is taken, and what it reads comes in.
pub descent_more : (nodes : List Node) (top node : ℕ) (taken waiting left more : List ℕ) → AreOrdered nodes
    → top < length nodes → IsDescent nodes top taken waiting → TakesGreatest waiting node left
    → AddsAll left (read_nodes (node_at nodes node).body) more → IsDescent nodes top (taken ++ node ∷ []) more
descent_more nodes top node taken waiting left more kept within is takes adds = record {
  begins = still top is.begins;
  closed = closed;
  low = λ k found. ⊎_elim (λ (e : among (taken ++ node ∷ []) k ≡ true). ⊎_elim
      (λ (d : among taken k ≡ true). is.low k (or_left (among taken k) (among waiting k) d))
      (λ (d : node ≡ k). (let up = node_low in omega (arith, up, d))) (in_push taken node k e))
      (λ (e : among more k ≡ true). (let deep = under k e in let up = node_low in omega (arith, deep, up)))
      (or_cases (among (taken ++ node ∷ []) k) (among more k) found);
  least = λ has set k found. ⊎_elim (λ (e : among (taken ++ node ∷ []) k ≡ true). ⊎_elim
      (λ (d : among taken k ≡ true). is.least has set k (or_left (among taken k) (among waiting k) d))
      (λ (d : node ≡ k). subst (λ i. has i ≡ true) d (in_set has set)) (in_push taken node k e))
      (λ (e : among more k ≡ true). ⊎_elim
      (λ (d : reads_node nodes node k ≡ true). set.each node k (in_set has set) d)
      (λ (d : among left k ≡ true). is.least has set k (or_right (among taken k) (among waiting k) (stays k d)))
      (parted k e)) (or_cases (among (taken ++ node ∷ []) k) (among more k) found);
  falls = falls_push taken node is.falls (among_all (λ p. node < p) taken (λ p at. is.below p node at waits));
  below = below;
  room = λ k at. (let deep = under k at in let up = is.room node waits in let long = length-append taken (node ∷ []) in
      omega (arith, deep, up, long));
}
  where
    waits : among waiting node ≡ true
    waits = takes.parts node ∙ or_left (node == node) (among left node) (eq-eqb node node refl)

    node_low : node ≤ top
    node_low = is.low node (or_right (among taken node) (among waiting node) waits)

    in_set : (has : ℕ → Bool) → IsClosedSet nodes top has → has node ≡ true
    in_set has set = is.least has set node (or_right (among taken node) (among waiting node) waits)

    parted : (k : ℕ) → among more k ≡ true → (reads_node nodes node k ≡ true) ⊎ (among left k ≡ true)
    parted k at = or_cases (reads_node nodes node k) (among left k) (sym (adds k) ∙ at)

    stays : (k : ℕ) → among left k ≡ true → among waiting k ≡ true
    stays k at = takes.parts k ∙ or_right (node == k) (among left k) at

    under : (k : ℕ) → among more k ≡ true → k < node
    under k at = ⊎_elim (λ (e : reads_node nodes node k ≡ true).
        reads_before nodes node k kept (let up = node_low in omega (arith, up, within)) e)
        (λ (e : among left k ≡ true). all_among (λ i. i < node) left k takes.below e) (parted k at)

    still : (k : ℕ) → is_found taken waiting k ≡ true → is_found (taken ++ node ∷ []) more k ≡ true
    still k found = ⊎_elim
        (λ (e : among taken k ≡ true). or_left (among (taken ++ node ∷ []) k) (among more k) (push_old taken node k e))
        (λ (e : among waiting k ≡ true). ⊎_elim
        (λ (d : (node == k) ≡ true). or_left (among (taken ++ node ∷ []) k) (among more k)
        (subst (λ i. among (taken ++ node ∷ []) i ≡ true) (eqb-true node k d) (push_new taken node)))
        (λ (d : among left k ≡ true). or_right (among (taken ++ node ∷ []) k) (among more k)
        (adds k ∙ or_right (reads_node nodes node k) (among left k) d))
        (or_cases (node == k) (among left k) (sym (takes.parts k) ∙ e)))
        (or_cases (among taken k) (among waiting k) found)

    closed : (p argument : ℕ) → among (taken ++ node ∷ []) p ≡ true → reads_node nodes p argument ≡ true
        → is_found (taken ++ node ∷ []) more argument ≡ true
    closed p argument at reading = ⊎_elim
        (λ (e : among taken p ≡ true). still argument (is.closed p argument e reading))
        (λ (e : node ≡ p). or_right (among (taken ++ node ∷ []) argument) (among more argument)
        (adds argument ∙ or_left (reads_node nodes node argument) (among left argument)
        (subst (λ i. reads_node nodes i argument ≡ true) (sym e) reading)))
        (in_push taken node p at)

    below : (p k : ℕ) → among (taken ++ node ∷ []) p ≡ true → among more k ≡ true → k < p
    below p k at more_has = (let deep = under k more_has in ⊎_elim
        (λ (e : among taken p ≡ true). (let up = is.below p node e waits in omega (arith, deep, up)))
        (λ (e : node ≡ p). omega (arith, deep, e)) (in_push taken node p at))

-- The greatest of those that wait stands no higher than the first, and there is room for it.
pub descent_within : (nodes : List Node) (top node : ℕ) (taken waiting left : List ℕ)
    → IsDescent nodes top taken waiting → TakesGreatest waiting node left
    → (node ≤ top) × (length taken + node ≤ top)
descent_within nodes top node taken waiting left is takes =
    let waits : among waiting node ≡ true =
    takes.parts node ∙ or_left (node == node) (among left node) (eq-eqb node node refl) in (
      is.low node (or_right (among taken node) (among waiting node) waits),
      is.room node waits,
    )

-- Where none waits, all are taken.
pub descent_ends : (nodes : List Node) (top : ℕ) (taken waiting : List ℕ) → IsDescent nodes top taken waiting
    → waiting ≡ [] → AreTakenFrom nodes top taken
descent_ends nodes top taken waiting is none = record {
  falls = is.falls;
  reached = record {
    low = λ k at. (let up = is.low k (or_left (among taken k) (among waiting k) at) in omega (arith, up));
    closed = record {
      first = found_taken top is.begins;
      each = λ node argument at reading. found_taken argument (is.closed node argument at reading);
    };
    least = λ has set k at. is.least has set k (or_left (among taken k) (among waiting k) at);
  };
}
  where
    found_taken : (k : ℕ) → is_found taken waiting k ≡ true → among taken k ≡ true
    found_taken k found = ⊎_elim (λ (e : among taken k ≡ true). e)
        (λ (e : among waiting k ≡ true). (let no : false ≡ true = sym (ap (λ xs. among xs k) none) ∙ e in cc))
        (or_cases (among taken k) (among waiting k) found)

pub all_taken : (nodes : List Node) (top : ℕ) (taken : List ℕ) → top < length nodes → AreTakenFrom nodes top taken
    → AreAllTaken nodes taken
all_taken nodes top taken within are = record {
  falls = are.falls;
  within = among_all (λ k. k < length nodes) taken (λ k at. (let low = are.reached.low k at in omega (arith, low, within)));
  closed = are.reached.closed.each;
}
