-- What a place rests on stays as the wave grows, and what is kept of places stays right.
use Rattle.std.proofs.Common.{◌≡◌, ◌==◌, inl, inr, ⊎_elim, ℕ, zero, suc, ◌<◌, ◌≤◌, refl, Option, None, Some, IfSome, IsSome, if◌then◌else◌, List, [], ◌∷◌, ◌++◌, append-nil, append_assoc, length, length-append, slice_index_or, slice_set, sym, ap, ◌∙◌, subst, arith}
use Rattle.std.proofs.lemmas.Bool.{cases_eq, eq-eqb, eqb-true}
use Rattle.std.proofs.lemmas.Grind.{get_or-set_at}
use Rattle.std.proofs.lemmas.List.{get_or-set_other}
use Rattle.std.proofs.lemmas.Option.{cond_some}
use Rattle.design_cell.specs.declared.value.Value.{Value}
use Rattle.design_circuit.specs.declared.waveform.Written.{Written}
use Rattle.design_circuit.specs.Fits.{Fits}
use Rattle.design_circuit.specs.Job.{Job, places_of}
use Rattle.design_circuit.specs.Waveform.{certain}
use Rattle.design_circuit.specs.World.{decided}
use Rattle.design_circuit.proofs.Rules.{AgreeBelow, rule_local}
use Rattle.law_model.specs.Assignment.{assigned}
use Rattle.law_model.specs.Cone.{is_carried}
use Rattle.law_model.specs.Mask.{masked}
use Rattle.law_model.proofs.ClassesBefore.{class_local}
use Rattle.law_model.proofs.ConesBefore.{essentials_local}
use Rattle.law_model.proofs.FactsBefore.{certain_grown}
use Rattle.wave_proved.specs.Contents.{Contents, job}
use Rattle.decide_graph.specs.InWave.{IsBodyIn}
use Rattle.decide_cone.specs.Known.{IsKnown, IsRightOf, IsSameKnown, Keeps, TracerView, TracersStay, known_in, known_of, slot_of, body_for}
use Rattle.decide_graph.specs.Table.{value_on}
use Rattle.decide_graph.specs.Traced.{IsBodyOf}
use Rattle.decide_cone.specs.declared.traced.Traced.{Traced}
use Rattle.decide_graph.specs.declared.traced.TracedBody.{TracedBody}
use Rattle.decide_graph.specs.declared.traced.TracedBody.TheVariants.{Carried, Rule}

value_stays : (j : Job) → Fits j → (c d : ℕ → Value) (place : ℕ) (places : List ℕ) (number : ℕ)
    → place < places_of j → AgreeBelow c d place → value_on j c place places number ≡ value_on j d place places number
value_stays j fits c d place places number within agree =
    rule_local j fits c d (assigned c (masked places number)) (assigned d (masked places number)) place within agree
    (λ i low. ap (λ v. decided v (masked places number i)) (agree i low))

pub body_stays : (j : Job) → Fits j → (c d : ℕ → Value) (place : ℕ) (body : TracedBody) → place < places_of j
    → AgreeBelow c d place → IsBodyOf j c place body → IsBodyOf j d place body
body_stays j fits c d place (Carried from inverted) within agree is =
    sym (class_local j fits c d place within agree) ∙ is
body_stays j fits c d place (Rule arguments values) within agree is = record {
  free = ap is_carried (sym (class_local j fits c d place within agree)) ∙ is.free;
  few = is.few;
  are_essential = is.are_essential ∙ essentials_local j fits c d place within agree;
  is_table = record {
    long = is.is_table.long;
    are_values = λ number less. is.is_table.are_values number less
        ∙ value_stays j fits c d place arguments number within agree;
  };
}

-- One place more is written.
pub known_grows : (c d : Contents) (tracer : TracerView) (v : Written) → Fits (job c) → job d ≡ job c
    → d.written ≡ c.written ++ v ∷ [] → IsRightOf c tracer → IsRightOf d tracer
known_grows c d tracer v fits same grown right place body is =
    let was = right place body is in
    let up = was.reach.written in
    let long = ap length grown ∙ length-append c.written (v ∷ []) in
    record {
      reach = record {
        written = omega (arith, up, long);
        within = subst (λ (j : Job). place < places_of j) (sym same) was.reach.within;
      };
      is = subst (λ (j : Job). IsBodyOf j (certain d.written) place body) (sym same)
          (subst (λ ws. IsBodyOf (job c) (certain ws) place body) (sym grown)
          (body_stays (job c) fits (certain c.written) (certain (c.written ++ v ∷ [])) place body was.reach.within
          (λ k less. certain_grown c.written v k (omega (arith, less, up))) was.is));
    }

-- None is.
known_same : (c d : Contents) (tracer : TracerView) → job d ≡ job c → d.written ≡ c.written → IsRightOf c tracer
    → IsRightOf d tracer
known_same c d tracer same all right place body is =
    let was = right place body is in
    record {
      reach = record {
        written = subst (λ (ws : List Written). place ≤ length ws) (sym all) was.reach.written;
        within = subst (λ (j : Job). place < places_of j) (sym same) was.reach.within;
      };
      is = subst (λ (j : Job). IsBodyOf j (certain d.written) place body) (sym same)
          (subst (λ ws. IsBodyOf (job c) (certain ws) place body) (sym all) was.is);
    }

-- More are.
known_after : (c d : Contents) (tracer : TracerView) (more : List Written) → Fits (job c) → job d ≡ job c
    → d.written ≡ c.written ++ more → IsRightOf c tracer → IsRightOf d tracer
known_after c d tracer [] fits same grown right = known_same c d tracer same (grown ∙ append-nil c.written) right
known_after c d tracer (v ∷ more) fits same grown right =
    known_after (record c { written = c.written ++ v ∷ [] }) d tracer more fits same
    (grown ∙ sym (append_assoc c.written (v ∷ []) more))
    (known_grows c (record c { written = c.written ++ v ∷ [] }) tracer v fits refl refl right)

pub tracers_stay : TracersStay
tracers_stay c d tracer wave grown right =
    known_after c d tracer grown.more wave.fits.fits_job grown.same grown.written right

-- A slot tells of the place that stands in it alone.
body_here : (place : ℕ) (body : TracedBody) → body_for place (Some (record { place = place; body = body })) ≡ Some body
body_here place body = ap (λ b. if b then Some body else None) (eq-eqb place place refl)

body_alone : (place k : ℕ) (body b : TracedBody) → body_for k (Some (record { place = place; body = body })) ≡ Some b
    → (place ≡ k) × (body ≡ b)
body_alone place k body b is =
    let parts = cond_some (place == k) body b is in (eqb-true place k parts.0, parts.1)

-- A place comes in.
pub comes_in : (old middle : List (Option Traced)) (place : ℕ) (body : TracedBody) → IsSameKnown old middle
    → slot_of place < length middle
    → Keeps (record { slots = old }) place body
    (record { slots = slice_set middle (slot_of place) (Some (record { place = place; body = body })) })
comes_in old middle place body same less = record {
  here = ap (body_for place) (get_or-set_at middle slot slot stands None refl less) ∙ body_here place body;
  others = λ k b is. ⊎_elim
      (λ (e : slot_of k ≡ slot). inl (body_alone place k body b
      (sym (ap (body_for k) (get_or-set_at middle slot (slot_of k) stands None e less)) ∙ is)))
      (λ (e : slot_of k ≡ slot → ⊥). inr (sym (same k)
      ∙ (sym (ap (body_for k) (get_or-set_other middle slot (slot_of k) stands None e)) ∙ is)))
      (cases_eq (slot_of k) slot);
}
  where
    slot : ℕ
    slot = slot_of place

    stands : Option Traced
    stands = Some (record { place = place; body = body })

empty_more : (slots : List (Option Traced)) (i : ℕ) → slice_index_or (slots ++ None ∷ []) i None ≡ slice_index_or slots i None
empty_more [] zero = refl
empty_more [] (suc i) = refl
empty_more (x ∷ xs) zero = refl
empty_more (x ∷ xs) (suc i) = empty_more xs i

-- One slot more in which nothing stands tells nothing.
pub same_more : (old slots more : List (Option Traced)) → IsSameKnown old slots → more ≡ slots ++ None ∷ []
    → IsSameKnown old more
same_more old slots more same is place =
    ap (λ xs. known_in xs place) is ∙ ap (body_for place) (empty_more slots (slot_of place)) ∙ same place

-- What is known of a place is what it rests on.
pub known_body : (c : Contents) (tracer : TracerView) (place : ℕ) (P : TracedBody → Type 0) → IsRightOf c tracer
    → IsSome (known_of tracer place) → IfSome (known_of tracer place) P
    → (body : TracedBody) × (IsBodyIn c place body × P body)
known_body c tracer place P right some holds = at (known_of tracer place) refl some holds
  where
    at : (o : Option TracedBody) → known_of tracer place ≡ o → IsSome o → IfSome o P
        → (body : TracedBody) × (IsBodyIn c place body × P body)
    at None is some holds = cc
    at (Some body) is some holds = (body, ((right place body is).is, holds))

pub if_known : (c : Contents) (tracer : TracerView) (place : ℕ) (P : TracedBody → Type 0) → IsRightOf c tracer
    → ((body : TracedBody) → IsBodyIn c place body → P body) → IfSome (known_of tracer place) P
if_known c tracer place P right each = at (known_of tracer place) refl
  where
    at : (o : Option TracedBody) → known_of tracer place ≡ o → IfSome o P
    at None is = tt
    at (Some body) is = each body (right place body is).is

-- One that is right stays so where a place comes in with what it rests on.
pub right_with : (c : Contents) (old new : TracerView) (place : ℕ) (body : TracedBody) → IsRightOf c old
    → IsKnown c place body → Keeps old place body new → IsRightOf c new
right_with c old new place body right here keeps k b is =
    ⊎_elim (λ same. subst (λ p. IsKnown c p b) same.0 (subst (λ x. IsKnown c place x) same.1 here))
    (λ before. right k b before) (keeps.others k b is)
