-- A place is carried from one argument place at most.
use Rattle.std.proofs.Common.{◌≡◌, ℕ, ◌==◌, Bool, true, false, refl, sym, ap, ◌∙◌, ⊎_elim}
use Rattle.std.proofs.lemmas.Bool.{and_parts, cases_eq, eq-eqb, ne_eqb}
use Rattle.design_cell.specs.declared.value.Value.{Value}
use Rattle.design_cell.specs.declared.value.Value.TheVariants.{Zero, One, X, Z}
use Rattle.design_cell.specs.Value.{bit_value, is_unknown}
use Rattle.design_circuit.specs.Job.{Job}
use Rattle.design_circuit.specs.Rule.{arguments, rule}
use Rattle.design_circuit.specs.World.{decided}
use Rattle.law_model.specs.Assignment.{assigned, for_every}
use Rattle.law_model.specs.Class.{flipped, is_bit, is_carrier}
use Rattle.law_model.specs.Laws.{CarrierLaw}
use Rattle.law_model.specs.Places.{among}
use Rattle.law_model.proofs.Assignments.{chosen, chosen_agrees, chosen_passes}
use Rattle.law_model.proofs.Classes.{bit_is}
use Rattle.law_model.proofs.PlacesWhere.{all_among}

-- Where the certain value is x, an assignment has the bit that is chosen.
unknown_decided : (v : Value) (bit : Bool) → is_unknown v ≡ true → decided v bit ≡ bit
unknown_decided Zero bit is = cc
unknown_decided One bit is = cc
unknown_decided X bit is = refl
unknown_decided Z bit is = refl

bit_value_one : (a b : Bool) → bit_value a ≡ bit_value b → a ≡ b
bit_value_one false false is = refl
bit_value_one false true is = cc
bit_value_one true false is = cc
bit_value_one true true is = refl

flipped_same : (a b bit : Bool) → flipped a bit ≡ flipped b bit → a ≡ b
flipped_same false false bit is = refl
flipped_same false true false is = cc
flipped_same false true true is = cc
flipped_same true false false is = cc
flipped_same true false true is = cc
flipped_same true true bit is = refl

flipped_apart : (a b : Bool) → a ≡ b → flipped a true ≡ flipped b false → ⊥
flipped_apart false false same is = cc
flipped_apart false true same is = cc
flipped_apart true false same is = cc
flipped_apart true true same is = cc

-- For bits of the argument places the rule gives the bit of the place that it is carried from, turned as that says.
gives : (j : Job) (c : ℕ → Value) (place from : ℕ) (inverted : Bool) (bits : ℕ → Bool)
    → among (arguments j c place) from ≡ true → is_carrier j c place from inverted ≡ true
    → rule j c (assigned c (chosen (arguments j c place) bits)) place ≡ bit_value (flipped inverted (bits from))
unfolding for_every
gives j c place from inverted bits at carries =
    let parts = and_parts (is_unknown (c from))
    (for_every j c place (λ b. is_bit (rule j c b place) (flipped inverted (b from)))) carries in
    bit_is (rule j c (assigned c (chosen (arguments j c place) bits)) place)
    (flipped inverted (assigned c (chosen (arguments j c place) bits) from))
    (chosen_passes (λ b. is_bit (rule j c (assigned c b) place) (flipped inverted (assigned c b from)))
    (arguments j c place) bits parts.1)
    ∙ ap (λ b. bit_value (flipped inverted b))
    (unknown_decided (c from) (chosen (arguments j c place) bits from) parts.0
    ∙ all_among (λ k. chosen (arguments j c place) bits k ≡ bits k) (arguments j c place) from
    (chosen_agrees (arguments j c place) bits) at)

pub carrier_law : CarrierLaw
carrier_law j c place from other inverted turned at there carries again = (
  ⊎_elim (λ e. e) (λ (apart : from ≡ other → ⊥). absurd (flipped_apart inverted turned same (bit_value_one
      (flipped inverted true) (flipped turned false) (ap (λ b. bit_value (flipped inverted b)) (sym (eq-eqb from from refl))
      ∙ both (λ k. k == from)
      ∙ ap (λ b. bit_value (flipped turned b)) (ne_eqb other from (λ e. apart (sym e))))))) (cases_eq from other),
  same,
)
  where
    both : (bits : ℕ → Bool) → bit_value (flipped inverted (bits from)) ≡ bit_value (flipped turned (bits other))
    both bits = sym (gives j c place from inverted bits at carries) ∙ gives j c place other turned bits there again

    same : inverted ≡ turned
    same = flipped_same inverted turned false
        (bit_value_one (flipped inverted false) (flipped turned false) (both (λ k. false)))
