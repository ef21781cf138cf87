-- The bits of bound variables, and the numbers of their variables.
use Rattle.std.proofs.Common.{◌≡◌, ℕ, zero, suc, ◌+◌, ◌<◌, ◌≤◌, Option, None, Some, List, [], ◌∷◌, ◌++◌, length, set, slice_index, slice_index_or, take, refl, sym, ap, ◌∙◌, arith, subst, add-one, length-set, replicate, get_or-set_other, get_or-set_same, ⊎_elim}
use Rattle.std.specs.Prelude.{All, Contains}
use Rattle.std.specs.List.{AllByRecursion}
use Rattle.std.proofs.lemmas.Bool.{cases_eq}
use Rattle.std.proofs.lemmas.List.{take_more}
use Rattle.design_circuit.specs.declared.design.Design.{Design}
use Rattle.recording_binding.specs.Binding.{FitsBinding}
use Rattle.recording_binding.specs.declared.binding.Binding.{Binding}
use Rattle.recording_reader.specs.Recording.{Recording}
use Rattle.replay_due.specs.Readers.{AreReadersWithin, HasReadings, ReadersView, readers_of}
use Rattle.replay_due.specs.declared.readings.Reading.{Reading}
use Rattle.replay_fans.specs.Readings.{readings_of}
use Rattle.replay_fans.proofs.ReadingLemmas.{all_back, all_each, all_front, all_join, all_of, each_all, IsAmong, IsWithin, of_all, readings_append}
use Rattle.replay_history.specs.Fault.{bound_at, no_variable}
use Rattle.replay_history.specs.Watched.{AreBitReaders, AreBitsWithin, AreNumbers, bit_readings}

-- The nets of a binding that fits are the design's.
pub bits_within : (design : Design) (binding : Binding) (room : ℕ) → length design.nets ≤ room → FitsBinding design binding → AreBitsWithin room binding
bits_within design binding room wide fits number bit within inside =
    let low = (fits.each number no_variable within).nets bit 0 inside in
    omega (arith, low, wide)

-- One bit more, and one bound variable more.
pub bit_more : (number : ℕ) (nets : List ℕ) (i d : ℕ) → i < length nets → readings_of number (take (i + 1) nets) ≡ readings_of number (take i nets) ++ readings_of number (slice_index_or nets i d ∷ [])
bit_more number nets i d less = ap (readings_of number) (take_more nets i d less) ∙ readings_append number (take i nets) (slice_index_or nets i d ∷ [])

pub variable_more : (binding : Binding) (n : ℕ) → bit_readings binding (n + 1) ≡ bit_readings binding n ++ readings_of n (bound_at binding n).bits
variable_more binding n = rw add-one refl

-- What holds of each net by its place holds of each.
each_net : (P : ℕ → Type 0) (nets : List ℕ) → ((i : ℕ) → i < length nets → P (slice_index nets i)) → AllByRecursion P nets
each_net P [] each = tt
each_net P (net ∷ nets) each = (each zero (omega arith), each_net P nets (λ i less. each (suc i) (omega (arith, less))))

net_each : (P : ℕ → Type 0) (nets : List ℕ) (i : ℕ) → AllByRecursion P nets → i < length nets → P (slice_index nets i)
net_each P [] i all less = absurd (omega (arith, less))
net_each P (net ∷ nets) zero all less = all.0
net_each P (net ∷ nets) (suc i) all less = net_each P nets i all.1 (omega (arith, less))

within_to : (binding : Binding) (room n : ℕ) → n ≤ length binding.bound → length binding.bound ≤ room → AreBitsWithin room binding → AllByRecursion (IsWithin room) (bit_readings binding n)
within_to binding room zero few long within = tt
within_to binding room (suc n) few long within =
    all_join (IsWithin room) (bit_readings binding n) (readings_of n (bound_at binding n).bits) (within_to binding room n (omega (arith, few)) long within)
    (all_of (IsWithin room) n (bound_at binding n).bits (each_net (λ net. (net < room) × (n < room)) (bound_at binding n).bits (λ bit inside. (within n bit (omega (arith, few)) inside, omega (arith, few, long)))))

pub readings_in : (binding : Binding) (room : ℕ) → length binding.bound ≤ room → AreBitsWithin room binding → AreReadersWithin room (bit_readings binding (length binding.bound))
readings_in binding room long within =
    let all = within_to binding room (length binding.bound) (omega arith) long within in
    record {
      net = λ i less. (all_each (IsWithin room) (bit_readings binding (length binding.bound)) i all less).0;
      position = λ i less. (all_each (IsWithin room) (bit_readings binding (length binding.bound)) i all less).1;
    }

among_to : (binding : Binding) (readers : ReadersView) (n number : ℕ) → number < n → AllByRecursion (IsAmong readers) (bit_readings binding n) → AllByRecursion (λ net. Contains (readers_of readers net) number) (bound_at binding number).bits
among_to binding readers zero number less all = absurd (omega (arith, less))
among_to binding readers (suc n) number less all =
    ⊎_elim (λ same. (let P : ℕ → Type 0 = λ k. AllByRecursion (λ net. Contains (readers_of readers net) k) (bound_at binding k).bits in subst P (sym same) (of_all (IsAmong readers) n (bound_at binding n).bits (all_back (IsAmong readers) (bit_readings binding n) (readings_of n (bound_at binding n).bits) all)))) (λ differ. among_to binding readers n number (omega (arith, less, differ)) (all_front (IsAmong readers) (bit_readings binding n) (readings_of n (bound_at binding n).bits) all)) (cases_eq number n)

pub bits_among : (binding : Binding) (readers : ReadersView) → HasReadings (bit_readings binding (length binding.bound)) readers → AreBitReaders binding readers
bits_among binding readers has number bit within inside =
    let all = each_all (IsAmong readers) (bit_readings binding (length binding.bound)) has in
    net_each (λ net. Contains (readers_of readers net) number) (bound_at binding number).bits bit (among_to binding readers (length binding.bound) number within all) inside

-- The numbers of the first bound variables.
pub record AreNumbersTo (binding : Binding) (n : ℕ) (numbers : List (Option ℕ)) : Type 0 where
  pub has : (number : ℕ) → number < n → slice_index_or numbers (bound_at binding number).variable None ≡ Some number
  pub below : (variable number : ℕ) → slice_index_or numbers variable None ≡ Some number → number < n

pub numbers_none : (binding : Binding) (numbers : List (Option ℕ)) → ((variable : ℕ) → slice_index_or numbers variable None ≡ None) → AreNumbersTo binding 0 numbers
numbers_none binding numbers none = record {
  has = λ number less. absurd (omega (arith, less));
  below = λ variable number is. absurd (let no : None ≡ Some number = sym (none variable) ∙ is in cc);
}

pub none_at : (n variable : ℕ) → slice_index_or (replicate n (let none : Option ℕ = None in none)) variable None ≡ None
none_at zero variable = refl
none_at (suc n) zero = refl
none_at (suc n) (suc variable) = none_at n variable

pub numbers_more : (binding : Binding) (n : ℕ) (numbers : List (Option ℕ)) → (bound_at binding n).variable < length numbers → slice_index_or numbers (bound_at binding n).variable None ≡ None → AreNumbersTo binding n numbers → AreNumbersTo binding (n + 1) (set numbers (bound_at binding n).variable (Some n))
numbers_more binding n numbers room free are = record {
  has = λ number less. ⊎_elim (λ same. here number same) (λ differ. earlier number (omega (arith, less, differ))) (cases_eq number n);
  below = λ variable number is. ⊎_elim (λ same. own variable number same is) (λ differ. (let low = are.below variable number (sym (get_or-set_other numbers (bound_at binding n).variable variable (Some n) None differ) ∙ is) in omega (arith, low))) (cases_eq variable (bound_at binding n).variable);
}
  where
    here : (number : ℕ) → number ≡ n → slice_index_or (set numbers (bound_at binding n).variable (Some n)) (bound_at binding number).variable None ≡ Some number
    here number same = rw same (get_or-set_same numbers (bound_at binding n).variable (Some n) None room)

    earlier : (number : ℕ) → number < n → slice_index_or (set numbers (bound_at binding n).variable (Some n)) (bound_at binding number).variable None ≡ Some number
    earlier number less =
        let was = are.has number less in
        get_or-set_other numbers (bound_at binding n).variable (bound_at binding number).variable (Some n) None (λ same. (let no : None ≡ Some number = sym free ∙ ap (λ (v : ℕ). slice_index_or numbers v None) (sym same) ∙ was in cc)) ∙ was

    own : (variable number : ℕ) → variable ≡ (bound_at binding n).variable → slice_index_or (set numbers (bound_at binding n).variable (Some n)) variable None ≡ Some number → number < n + 1
    own variable number same is =
        let set_to : slice_index_or (set numbers (bound_at binding n).variable (Some n)) variable None ≡ Some n = rw same (get_or-set_same numbers (bound_at binding n).variable (Some n) None room) in
        let both : Some n ≡ Some number = sym set_to ∙ is in
        let equal : n ≡ number = cc in
        omega (arith, equal)

pub numbers_all : (recording : Recording) (binding : Binding) (n : ℕ) (numbers : List (Option ℕ)) → n ≡ length binding.bound → length numbers ≡ length recording.variables → AreNumbersTo binding n numbers → AreNumbers recording binding numbers
numbers_all recording binding n numbers all long are = record {
  long = long;
  has = λ number less. are.has number (omega (arith, all, less));
  below = λ variable number is. (let low = are.below variable number is in omega (arith, all, low));
}
