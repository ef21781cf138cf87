-- A value and a mark are read back from the low digits of a byte.
use Rattle.std.proofs.Common.{◌≡◌, ℕ, ◌+◌, ◌*◌, ◌/◌, ◌%◌, ◌≤◌, ◌==◌, ◌&&◌, Bool, true, false, refl, ap, ◌∙◌, arith}
use Rattle.std.proofs.Common.{sym}
use Rattle.std.proofs.Common.{if◌then◌else◌}
use Rattle.design_cell.specs.declared.value.Value.{Value}
use Rattle.design_cell.specs.declared.value.Value.TheVariants.{Zero, One, X, Z}
use Rattle.design_circuit.specs.History.{two_bits, value_of_bits}
use Rattle.design_circuit.specs.declared.waveform.Mark.{Mark}
use Rattle.design_circuit.specs.declared.waveform.Mark.TheVariants.{Certain, Unknown, Undecided}
use Rattle.design_circuit.specs.declared.waveform.Written.{Written}
use Rattle.law_quiet.specs.OfClass.{Facts, facts}
use Rattle.wave_bytes.specs.Byte.{copied_byte, facts_of_byte, is_uncertain, low_byte, mark_of_bits, repeated_byte}
use Rattle.wave_bytes.specs.Byte.{two_bits_of_mark, written_of_byte}

value_back : (v : Value) → value_of_bits (two_bits v) ≡ v
value_back Zero = refl
value_back One = refl
value_back X = refl
value_back Z = refl

mark_back : (m : Mark) → mark_of_bits (two_bits_of_mark m) ≡ m
mark_back Certain = refl
mark_back Unknown = refl
mark_back Undecided = refl

low_digit : (v m rest n : ℕ) → n ≡ v + 4 * m + 16 * rest → v ≤ 3 → n % 4 ≡ v
low_digit v m rest n is few = omega (arith, is, few)

next_digit : (v m rest n : ℕ) → n ≡ v + 4 * m + 16 * rest → v ≤ 3 → m ≤ 3 → n / 4 % 4 ≡ m
next_digit v m rest n is few_v few_m = omega (arith, is, few_v, few_m)

abbrev written_as : Value → Mark → Written
written_as value mark = record { value = value; mark = mark }

pub written_back : (written : Written) (v m rest n : ℕ) → v ≡ two_bits written.value
    → m ≡ two_bits_of_mark written.mark → v ≤ 3 → m ≤ 3 → n ≡ v + 4 * m + 16 * rest → written_of_byte n ≡ written
written_back written v m rest n v_is m_is few_v few_m is =
    ap (λ value. written_as value (mark_of_bits (n / 4 % 4)))
    (ap value_of_bits (low_digit v m rest n is few_v ∙ v_is) ∙ value_back written.value)
    ∙ ap (written_as written.value)
    (ap mark_of_bits (next_digit v m rest n is few_v few_m ∙ m_is) ∙ mark_back written.mark)

-- A byte that is written again says the same value and mark.
low_same : (uncertain : Bool) (byte : ℕ) → (byte % 16 + (if uncertain then 80 else 64)) % 4 ≡ byte % 4
low_same true byte = omega arith
low_same false byte = omega arith

next_same : (uncertain : Bool) (byte : ℕ) → (byte % 16 + (if uncertain then 80 else 64)) / 4 % 4 ≡ byte / 4 % 4
next_same true byte = omega arith
next_same false byte = omega arith

pub repeated_written : (byte : ℕ) → written_of_byte (repeated_byte byte) ≡ written_of_byte byte
repeated_written byte =
    ap (λ low. written_as (value_of_bits low) (mark_of_bits (repeated_byte byte / 4 % 4)))
    (low_same (is_uncertain (written_of_byte byte).mark) byte)
    ∙ ap (λ next. written_as (value_of_bits (byte % 4)) (mark_of_bits next))
    (next_same (is_uncertain (written_of_byte byte).mark) byte)

-- It says of its class that it is carried on, or nothing, and that its net keeps.
four_say : (n : ℕ) (uncertain : Bool) (digit : ℕ) → n / 16 % 2 ≡ digit → n / 32 % 2 ≡ 0 → n / 128 % 2 ≡ 0
    → n / 64 % 2 ≡ 1 → (digit == 1) ≡ uncertain → facts_of_byte n ≡ facts uncertain false false true
four_say n uncertain digit carries plain line keeps is = rw (carries, plain, line, keeps, is) refl

says_by : (uncertain : Bool) (byte : ℕ)
    → facts_of_byte (byte % 16 + (if uncertain then 80 else 64)) ≡ facts uncertain false false true
says_by true byte = four_say (byte % 16 + 80) true 1 (omega arith) (omega arith) (omega arith) (omega arith) refl
says_by false byte = four_say (byte % 16 + 64) false 0 (omega arith) (omega arith) (omega arith) (omega arith) refl

pub repeated_says : (byte : ℕ)
    → facts_of_byte (repeated_byte byte) ≡ facts (is_uncertain (written_of_byte byte).mark) false false true
repeated_says byte = says_by (is_uncertain (written_of_byte byte).mark) byte

-- One that is written again twice is as it is once.
low_again : (uncertain : Bool) (byte : ℕ) → (byte % 16 + (if uncertain then 80 else 64)) % 16 ≡ byte % 16
low_again true byte = omega arith
low_again false byte = omega arith

pub repeated_twice : (byte : ℕ) → repeated_byte (repeated_byte byte) ≡ repeated_byte byte
repeated_twice byte =
    ap (λ (w : Written). repeated_byte byte % 16 + (if is_uncertain w.mark then 80 else 64)) (repeated_written byte)
    ∙ ap (λ low. low + (if is_uncertain (written_of_byte byte).mark then 80 else 64))
    (low_again (is_uncertain (written_of_byte byte).mark) byte)

-- The byte of a copy says the value and mark of what it copies,
two_few : (v : Value) → two_bits v ≤ 3
two_few Zero = omega arith
two_few One = omega arith
two_few X = omega arith
two_few Z = omega arith

mark_few : (m : Mark) → two_bits_of_mark m ≤ 3
mark_few Certain = omega arith
mark_few Unknown = omega arith
mark_few Undecided = omega arith

low_written : (written : Written) → written_of_byte (low_byte written) ≡ written
low_written written =
    written_back written (two_bits written.value) (two_bits_of_mark written.mark) 0 (low_byte written) refl refl
    (two_few written.value) (mark_few written.mark) (omega arith)

pub copied_written : (byte : ℕ) → written_of_byte (copied_byte byte) ≡ written_of_byte byte
copied_written byte = by (facts_of_byte byte).keeps
  where
    low : ℕ
    low = low_byte (written_of_byte byte)

    by : (keeps : Bool) → written_of_byte (if keeps then repeated_byte low else low) ≡ written_of_byte byte
    by true = repeated_written low ∙ low_written (written_of_byte byte)
    by false = low_written (written_of_byte byte)

-- and of its class that it is carried on, where it keeps and isn't certain, or nothing; and that its net keeps where
-- that does.
low_says : (v : Value) (m : Mark) → facts_of_byte (low_byte (written_as v m)) ≡ facts false false false false
low_says Zero Certain = refl
low_says Zero Unknown = refl
low_says Zero Undecided = refl
low_says One Certain = refl
low_says One Unknown = refl
low_says One Undecided = refl
low_says X Certain = refl
low_says X Unknown = refl
low_says X Undecided = refl
low_says Z Certain = refl
low_says Z Unknown = refl
low_says Z Undecided = refl

pub copied_says : (byte : ℕ) → facts_of_byte (copied_byte byte)
    ≡ facts ((facts_of_byte byte).keeps && is_uncertain (written_of_byte byte).mark) false false
    (facts_of_byte byte).keeps
copied_says byte = by (facts_of_byte byte).keeps
  where
    low : ℕ
    low = low_byte (written_of_byte byte)

    by : (keeps : Bool) → facts_of_byte (if keeps then repeated_byte low else low)
        ≡ facts (keeps && is_uncertain (written_of_byte byte).mark) false false keeps
    by true = repeated_says low
        ∙ ap (λ (w : Written). facts (is_uncertain w.mark) false false true) (low_written (written_of_byte byte))
    by false = low_says (written_of_byte byte).value (written_of_byte byte).mark

-- Where what it copies keeps, and has what it had, the byte is the one before, written again.
pub copied_again : (byte back : ℕ) → written_of_byte byte ≡ written_of_byte back → (facts_of_byte byte).keeps ≡ true
    → copied_byte byte ≡ repeated_byte (copied_byte back)
copied_again byte back same keeps =
    ap (λ k. if k then repeated_byte (low_byte (written_of_byte byte)) else low_byte (written_of_byte byte)) keeps
    ∙ ap (λ (w : Written). repeated_byte (low_byte w)) same ∙ sym (by (facts_of_byte back).keeps)
  where
    low : ℕ
    low = low_byte (written_of_byte back)

    by : (k : Bool) → repeated_byte (if k then repeated_byte low else low) ≡ repeated_byte low
    by true = repeated_twice low
    by false = refl

pub copied_repeated : (byte : ℕ) → copied_byte (repeated_byte byte) ≡ repeated_byte (copied_byte byte)
copied_repeated byte = copied_again (repeated_byte byte) byte (repeated_written byte)
    (ap (λ (f : Facts). f.keeps) (repeated_says byte))
