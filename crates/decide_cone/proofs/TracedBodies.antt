-- What the places of a cone rest on.
use Rattle.std.proofs.Common.{◌≡◌, ℕ, false, List, refl, sym, ap, ◌∙◌}
use Rattle.design_cell.specs.declared.value.Value.{Value}
use Rattle.design_circuit.specs.Job.{Job}
use Rattle.law_model.specs.Class.{class_of}
use Rattle.law_model.specs.Cone.{essentials, is_carried, supports, supports_by}
use Rattle.law_model.specs.declared.class.ClassByNumber.{ClassByNumber}
use Rattle.law_model.specs.declared.class.ClassByNumber.TheVariants as class
use Rattle.decide_graph.specs.Traced.{IsBodyOf, supports_in}
use Rattle.decide_graph.specs.declared.traced.TracedBody.{TracedBody}
use Rattle.decide_graph.specs.declared.traced.TracedBody.TheVariants.{Carried, Rule}

free_supports : (xs : List ℕ) (cl : ClassByNumber) → is_carried cl ≡ false → supports_by xs cl ≡ xs
free_supports xs (class.Local bit) free = refl
free_supports xs class.Free free = refl
free_supports xs (class.Carried from inverted) free = cc
free_supports xs class.Line free = refl

-- They are the supports of the place.
pub supports_are : (j : Job) (c : ℕ → Value) (place : ℕ) (body : TracedBody) → IsBodyOf j c place body
    → supports_in body ≡ supports j c place
supports_are j c place (Carried from inverted) is = sym (ap (supports_by (essentials j c place)) is)
supports_are j c place (Rule arguments values) is =
    is.are_essential ∙ sym (free_supports (essentials j c place) (class_of j c place) is.free)
