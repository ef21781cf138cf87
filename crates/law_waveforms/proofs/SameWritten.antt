-- Equal marks and certain values make equal places where both show one history.
use Rattle.std.proofs.Common.{◌≡◌, sym, ap, ◌∙◌}
use Rattle.design_cell.specs.declared.value.Value.{Value}
use Rattle.design_circuit.specs.declared.waveform.Written.{Written}
use Rattle.design_circuit.specs.declared.waveform.Mark.{Mark}
use Rattle.design_circuit.specs.declared.waveform.Mark.TheVariants.{Certain, Unknown, Undecided}
use Rattle.design_circuit.specs.Waveform.{certain_by}

pub same_written : (a b : Written) (shown : Value) → a.mark ≡ b.mark → certain_by a.mark a.value ≡ certain_by b.mark
    b.value
    → ((a.mark ≡ Certain → ⊥) → a.value ≡ shown) → ((b.mark ≡ Certain → ⊥) → b.value ≡ shown) → a ≡ b
same_written a b shown marks values shows_a shows_b =
    ap (λ (x : Value). record { value = x; mark = a.mark }) (value_same a.mark b.mark a.value b.value marks values
    shows_a shows_b)
    ∙ ap (λ (m : Mark). record { value = b.value; mark = m }) marks
  where
    value_same : (m n : Mark) (x y : Value) → m ≡ n → certain_by m x ≡ certain_by n y
        → ((m ≡ Certain → ⊥) → x ≡ shown) → ((n ≡ Certain → ⊥) → y ≡ shown) → x ≡ y
    value_same Certain Certain x y marks values shows_a shows_b = values
    value_same Certain Unknown x y marks values shows_a shows_b = cc
    value_same Certain Undecided x y marks values shows_a shows_b = cc
    value_same Unknown n x y marks values shows_a shows_b = shows_a (λ e. cc) ∙ sym (shows_b (λ e. cc))
    value_same Undecided n x y marks values shows_a shows_b = shows_a (λ e. cc) ∙ sym (shows_b (λ e. cc))
