-- Parentheses as a stack: a list read from its end.
use Rattle.std.proofs.Common.{◌≡◌, List, [], ◌∷◌, ◌++◌, length, None, refl, sym, ◌∙◌, reverse}
use Rattle.std.proofs.lemmas.List.{length-reverse, reverse-append}
use Rattle.netlist_stub.specs.Sums.{sum_of, value_of}
use Rattle.netlist_stub.specs.declared.sum.Frame.{Frame}

pub pushed : (fs : List Frame) (f : Frame) → reverse (fs ++ f ∷ []) ≡ f ∷ reverse fs
pushed fs f = reverse-append fs (f ∷ [])

pub one_value : (f : Frame) → value_of (reverse (f ∷ [])) ≡ sum_of f
one_value f = refl

without_one : (fs : List Frame) → (length fs ≡ 1 → ⊥) → value_of fs ≡ None
without_one [] other = refl
without_one (f ∷ []) other = absurd (other refl)
without_one (f ∷ g ∷ fs) other = refl

pub no_value : (fs : List Frame) → (length fs ≡ 1 → ⊥) → value_of (reverse fs) ≡ None
no_value fs other = without_one (reverse fs) (λ one. other (sym (length-reverse fs) ∙ one))
