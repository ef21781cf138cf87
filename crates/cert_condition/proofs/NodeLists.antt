-- The nodes of a turn query, one after the other.
use Rattle.std.proofs.Common.{◌≡◌, ℕ, ◌+◌, ◌<◌, List, [], ◌∷◌, ◌++◌, length, map, take, refl, sym, ap, ◌∙◌, arith, subst, ⊎_elim, slice_index, length-append}
use Rattle.std.proofs.Math.ListN.{get_or-append}
use Rattle.std.proofs.Math.Seq.{get_or-append_seam, take-length}
use Rattle.std.proofs.lemmas.Bool.{cases_eq}
use Rattle.std.proofs.lemmas.List.{map-append, take_more}
use Rattle.design_circuit.specs.Fits.{place_at}
use Rattle.design_circuit.specs.Waveform.{certain}
use Rattle.law_model.proofs.Cones.{cone_self}
use Rattle.law_model.proofs.PlacesWhere.{contains_among, or_left}
use Rattle.law_model.specs.Cone.{in_cone}
use Rattle.wave_proved.specs.Contents.{Contents, job}
use Rattle.decide_cone.specs.Boundary.{is_boundary}
use Rattle.decide_nodes.specs.declared.node.Node.{Node}
use Rattle.decide_nodes.specs.Nodes.{body_at, no_node, node_at, place_of_node}
use Rattle.cert_condition.specs.TurnNodes.{AreFirstNodes, AreNodesAround, IsBodyAround, IsTurnBody}
use Rattle.cert_condition.proofs.AroundPlaces.{near_among, places_few}

pub no_nodes : (c : Contents) (places inside : List ℕ) (nodes : List Node) → nodes ≡ []
    → AreFirstNodes c places inside 0 nodes
no_nodes c places inside nodes none = record {
  long = ap length none;
  places_are = ap (map place_of_node) none;
  bodies = λ position less. absurd (omega (arith, less));
}

pub more_nodes : (c : Contents) (places inside : List ℕ) (count : ℕ) (old new : List Node) (node : Node)
    → AreFirstNodes c places inside count old → count < length places
    → node.place ≡ place_at (job c) (slice_index places count)
    → IsBodyAround c places inside (slice_index places count) node.body → new ≡ old ++ node ∷ []
    → AreFirstNodes c places inside (count + 1) new
more_nodes c places inside count old new node first less place_is body_is grown =
    subst (AreFirstNodes c places inside (count + 1)) (sym grown) (record {
      long = length-append old (node ∷ []) ∙ (let long = first.long in omega (arith, long));
      places_are = map-append place_of_node old (node ∷ [])
          ∙ ap (λ xs. xs ++ node.place ∷ []) first.places_are
          ∙ ap (λ p. map (place_at (job c)) (take count places) ++ p ∷ []) place_is
          ∙ sym (ap (map (place_at (job c))) (take_more places count 0 less)
          ∙ map-append (place_at (job c)) (take count places) (slice_index places count ∷ []));
      bodies = bodies;
    })
  where
    there : node_at (old ++ node ∷ []) count ≡ node
    there = subst (λ n. node_at (old ++ node ∷ []) n ≡ node) first.long (get_or-append_seam old node [] no_node)

    bodies : (position : ℕ) → position < count + 1
        → IsBodyAround c places inside (slice_index places position) (node_at (old ++ node ∷ []) position).body
    bodies position low = ⊎_elim
        (λ (last : position ≡ count).
        subst (λ p. IsBodyAround c places inside (slice_index places p) (node_at (old ++ node ∷ []) p).body) (sym last)
        (subst (λ (n : Node). IsBodyAround c places inside (slice_index places count) n.body) (sym there) body_is))
        (λ (other : position ≡ count → ⊥).
        (let early : position < count = omega (arith, low, other) in
        let within : position < length old = (let long = first.long in omega (arith, early, long)) in
        subst (λ (n : Node). IsBodyAround c places inside (slice_index places position) n.body)
        (sym (get_or-append old (node ∷ []) no_node position within)) (first.bodies position early)))
        (cases_eq position count)

pub all_nodes : (c : Contents) (places inside : List ℕ) (count : ℕ) (nodes : List Node)
    → AreFirstNodes c places inside count nodes → count ≡ length places → AreNodesAround c places inside nodes
all_nodes c places inside count nodes first whole root around = record {
  wave = around.wave;
  are_nodes = record {
    some = omega (arith, long, some);
    few = (let few = places_few c root places inside around in omega (arith, long, few));
    each = λ position less. (first.bodies position (omega (arith, less, long, whole)) root around).stands position
        (omega (arith, less, long)) refl;
  };
  reach = around.reach;
  free = around.free;
  places = first.places_are
      ∙ ap (λ ks. map (place_at (job c)) ks) (ap (λ n. take n places) whole ∙ take-length places ∙ around.places_are);
  bodies = λ position less.
      subst (λ ks. IsTurnBody (job c) (certain c.written) root ks (slice_index ks position) (body_at nodes position))
      around.places_are (first.bodies position (omega (arith, less, long, whole)) root around).turn;
}
  where
    long : length nodes ≡ length places
    long = first.long ∙ whole

    some : 0 < length places
    some =
        let at = contains_among places root (near_among c root places inside around root (omega arith)
        (or_left (in_cone (job c) (certain c.written) root root) (is_boundary (job c) (certain c.written) root root)
        (cone_self (job c) around.wave.fits.fits_job (certain c.written) root around.reach.within))) in
        let less = at.1 in omega (arith, less)
