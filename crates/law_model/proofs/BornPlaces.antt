-- Where a world reads its filling.
use Rattle.std.proofs.Common.{◌≡◌, ℕ, zero, suc, ◌<◌, ◌≤◌, ◌&&◌, not, Bool, true, false, refl, sym, ap, ◌∙◌, arith}
use Rattle.design_cell.specs.declared.value.Value.{Value}
use Rattle.design_cell.specs.Value.{IsKnown, is_unknown}
use Rattle.design_circuit.specs.Fits.{Fits}
use Rattle.design_circuit.specs.Job.{Job}
use Rattle.design_circuit.specs.Rule.{rule}
use Rattle.design_circuit.specs.World.{decided}
use Rattle.design_circuit.proofs.Rules.{AgreeBelow, rule_local, rule_reads}
use Rattle.design_circuit.proofs.Worlds.{decided_known}
use Rattle.law_model.specs.Class.{class_of, flipped, is_never_unknown}
use Rattle.law_model.specs.Cone.{reads_filling, is_carried}
use Rattle.law_model.specs.declared.class.ClassByNumber.{ClassByNumber}
use Rattle.law_model.specs.declared.class.ClassByNumber.TheVariants.{Local, Free, Carried, Line}
use Rattle.law_model.proofs.CarryLaw.{TrueWorld, world_every, shorter, carry, known_unless}
use Rattle.law_model.proofs.Roots.{carried_below}

pub never_known : (j : Job) → Fits j → (c : ℕ → Value) (f v : ℕ → Bool) (place : ℕ) → TrueWorld j c f v place
    → is_never_unknown j c place ≡ true → IsKnown (rule j c v place)
never_known j fits c f v place seen never =
    known_unless (rule j c v place) (world_every j fits c f v place (λ bits. not (is_unknown (rule j c bits place)))
    seen (λ g h agree. ap (λ x. not (is_unknown x)) (rule_reads j c g h place agree)) never)

free_one : (j : Job) → Fits j → (c : ℕ → Value) (f g v w : ℕ → Bool) (place : ℕ) → TrueWorld j c f v place
    → TrueWorld j c g w place → AgreeBelow v w place → f place ≡ g place → v place ≡ w place
free_one j fits c f g v w place seen_v seen_w agree same =
    let rules = rule_local j fits c c v w place seen_v.within (λ k less. refl) agree in
    seen_v.world place (omega arith) ∙ ap (decided (rule j c v place)) same ∙ ap (λ x. decided x (g place)) rules
    ∙ sym (seen_w.world place (omega arith))

-- one place, where the bits before are the same
born_one : (j : Job) → Fits j → (c : ℕ → Value) (f g v w : ℕ → Bool) (place : ℕ) (class : ClassByNumber) (never : Bool)
    → TrueWorld j c f v place → TrueWorld j c g w place → AgreeBelow v w place → class_of j c place ≡ class
    → is_never_unknown j c place ≡ never → (not (is_carried class) && not never ≡ true → f place ≡ g place)
    → v place ≡ w place
born_one j fits c f g v w place (Carried from inverted) never seen_v seen_w agree is never_is same =
    carry j fits c f v place from inverted seen_v is
    ∙ ap (flipped inverted) (agree from (carried_below j fits c place from inverted seen_v.within is))
    ∙ sym (carry j fits c g w place from inverted seen_w is)
born_one j fits c f g v w place class true seen_v seen_w agree is never_is same =
    let rules = rule_local j fits c c v w place seen_v.within (λ k less. refl) agree in
    seen_v.world place (omega arith) ∙ decided_known (rule j c v place) (f place) (g place)
    (never_known j fits c f v place seen_v never_is) ∙ ap (λ x. decided x (g place)) rules
    ∙ sym (seen_w.world place (omega arith))
born_one j fits c f g v w place (Local bit) false seen_v seen_w agree is never_is same = free_one j fits c f g v w place
    seen_v seen_w agree (same refl)
born_one j fits c f g v w place Free false seen_v seen_w agree is never_is same = free_one j fits c f g v w place seen_v
    seen_w agree (same refl)
born_one j fits c f g v w place Line false seen_v seen_w agree is never_is same = free_one j fits c f g v w place seen_v
    seen_w agree (same refl)

born_below : (j : Job) → Fits j → (c : ℕ → Value) (f g v w : ℕ → Bool) (n place : ℕ) → place < n
    → TrueWorld j c f v place → TrueWorld j c g w place → ((k : ℕ) → k ≤ place → reads_filling j c k ≡ true → f k ≡ g k)
    → v place ≡ w place
born_below j fits c f g v w zero place below seen_v seen_w same = absurd (omega arith)
born_below j fits c f g v w (suc n) place below seen_v seen_w same =
    born_one j fits c f g v w place (class_of j c place) (is_never_unknown j c place) seen_v seen_w
    (λ k less. born_below j fits c f g v w n k (omega arith) (shorter j c f v k place less seen_v)
    (shorter j c g w k place less seen_w) (λ i up. same i (omega arith))) refl refl (same place (omega arith))

-- Fillings that agree at the born places up to a place have worlds with the same bit there.
pub born_worlds : (j : Job) → Fits j → (c : ℕ → Value) (f g v w : ℕ → Bool) (place : ℕ) → TrueWorld j c f v place
    → TrueWorld j c g w place → ((k : ℕ) → k ≤ place → reads_filling j c k ≡ true → f k ≡ g k) → v place ≡ w place
born_worlds j fits c f g v w place seen_v seen_w same = born_below j fits c f g v w (suc place) place (omega arith)
    seen_v seen_w same
