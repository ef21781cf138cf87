-- Where the bit of a place turns on the way from one filling to another, one place is to blame.
use Rattle.std.proofs.Common.{◌≡◌, ◌≢◌, ℕ, ◌+◌, ◌<◌, ◌≤◌, ◌==◌, ◌||◌, not, Bool, true, false, List, ◌∷◌, length, get_or, slice_index_or, refl, sym, ap, ◌∙◌, subst, arith, ⊎_elim}
use mathlib.Core.Bool.{beq}
use Rattle.std.proofs.Math.ListN.{get_or-eq_default}
use Rattle.std.proofs.lemmas.Grind.{get_or_default_zero}
use Rattle.std.proofs.lemmas.List.Elements.{All-from_get_or, All-get_or}
use Rattle.std.proofs.lemmas.Bool.{cases_eq, cases_lt, eq-eqb, ne_eqb, lt-ltb, le-ltb}
use Rattle.design_circuit.specs.declared.place.Place.{Place}
use Rattle.design_circuit.specs.Filling.{IsPlace, bit_of}
use Rattle.design_circuit.specs.Job.{Job, number_of, places_of}
use Rattle.design_circuit.specs.Waveform.{certain}
use Rattle.design_circuit.proofs.Worlds.{world_bit_local}
use Rattle.wave_proved.specs.Contents.{Contents, IsWave, job}
use Rattle.report_blame.specs.Halves.{AreListed, IsQuiet, IsTurn, LeadsAcross, halfway}
use Rattle.report_blame.specs.Joined.{IsJoined, joined_bit}
use Rattle.report_blame.specs.ToBlame.{IsToBlame, bit_in}

-- Fillings with the same bits give a place the same bit.
pub same_bits : (c : Contents) → IsWave c → (f g : ℕ → Bool) (number : ℕ) → number < places_of (job c)
    → ((k : ℕ) → k ≤ number → f k ≡ g k) → bit_in c f number ≡ bit_in c g number
same_bits c wave f g number within same =
    world_bit_local (job c) wave.fits.fits_job (certain c.written) (certain c.written) f g number within
    (λ k less. refl) (λ k less. same k (omega arith))

-- Below no place the first filling holds; where all places stand below, the second.
none_below : (j : Job) (zero one : List Place) (k : ℕ) → joined_bit j one 0 zero 0 k ≡ bit_of j zero k
none_below j zero one k = rw (le-ltb k 0 (omega arith)) refl

way_begins : (c : Contents) → IsWave c → (zero one : List Place) (number : ℕ) → number < places_of (job c)
    → halfway c zero one number 0 ≡ bit_in c (bit_of (job c) zero) number
way_begins c wave zero one number within =
    same_bits c wave (joined_bit (job c) one 0 zero 0) (bit_of (job c) zero) number within
    (λ k low. none_below (job c) zero one k)

way_ends : (c : Contents) → IsWave c → (zero one : List Place) (number : ℕ) → number < places_of (job c)
    → halfway c zero one number (places_of (job c)) ≡ bit_in c (bit_of (job c) one) number
way_ends c wave zero one number within =
    let n = places_of (job c) in
    same_bits c wave (joined_bit (job c) one n zero n) (bit_of (job c) one) number within
    (λ k low. rw (lt-ltb k n (omega (arith, low, within))) refl)

other_is : (a b : Bool) → a ≢ b → b ≡ not a
other_is true true other = absurd (other refl)
other_is true false other = refl
other_is false true other = refl
other_is false false other = absurd (other refl)

no_turn : (x : Bool) → x ≡ not x → ⊥
no_turn true same = cc
no_turn false same = cc

-- So the bits at both ends of the way differ.
way_turns : (c : Contents) → IsWave c → (zero one : List Place) (number : ℕ) → number < places_of (job c)
    → bit_in c (bit_of (job c) zero) number ≢ bit_in c (bit_of (job c) one) number
    → halfway c zero one number (places_of (job c)) ≡ not (halfway c zero one number 0)
way_turns c wave zero one number within differ =
    way_ends c wave zero one number within ∙ other_is _ _ differ
    ∙ ap not (sym (way_begins c wave zero one number within))

-- Between two cuts at which neither filling lists anything the bits are the same.
pub cuts_same : (c : Contents) → IsWave c → (zero one : List Place) (number low high : ℕ) → number < places_of (job c)
    → low ≤ high → ((k : ℕ) → low ≤ k → k < high → IsQuiet (job c) zero one k)
    → halfway c zero one number low ≡ halfway c zero one number high
cuts_same c wave zero one number low high within order quiet =
    same_bits c wave (joined_bit (job c) one low zero low) (joined_bit (job c) one high zero high) number within each
  where
    each : (k : ℕ) → k ≤ number → joined_bit (job c) one low zero low k ≡ joined_bit (job c) one high zero high k
    each k up = ⊎_elim
        (λ (less : k < low). rw (lt-ltb k low less, lt-ltb k high (omega (arith, less, order))) refl)
        (λ (more : low ≤ k). ⊎_elim
        (λ (between : k < high). rw (le-ltb k low more, lt-ltb k high between)
        ((quiet k more between).first ∙ sym (quiet k more between).second))
        (λ (behind : high ≤ k). rw (le-ltb k low more, le-ltb k high behind) refl)
        (cases_lt k high))
        (cases_lt k low)

pub same_read : (xs : List ℕ) (i d e : ℕ) → i < length xs → get_or xs i d ≡ get_or xs i e
same_read xs i d e less = get_or_default_zero xs i d less ∙ sym (get_or_default_zero xs i e less)

pub read_at : (xs : List ℕ) (i e n : ℕ) → i < length xs → n ≡ get_or xs i n → get_or xs i e ≡ n
read_at xs i e n less is = same_read xs i e n less ∙ sym is

pub not_first : (a b : Bool) → beq a b ≡ false → a ≡ not b
not_first true true same = absurd cc
not_first true false same = refl
not_first false true same = refl
not_first false false same = absurd cc

-- A number that stands behind the first i numbers and before the others is none of them.
others_quiet : (j : Job) (zero one : List Place) (numbers : List ℕ) → AreListed j zero one numbers → (i k : ℕ)
    → i ≤ length numbers → ((n : ℕ) → n < i → get_or numbers n 0 < k)
    → ((n : ℕ) → i ≤ n → n < length numbers → k < get_or numbers n 0) → IsQuiet j zero one k
others_quiet j zero one numbers are i k up below above =
    are.others k (All-from_get_or (λ n. n ≢ k) numbers 0 (λ n less same. ⊎_elim
    (λ (low : n < i). (let h = below n low in omega (arith, h, same)))
    (λ (high : i ≤ n). (let h = above n high less in omega (arith, h, same))) (cases_lt n i)))

module _ (c : Contents) (wave : IsWave c) (number : ℕ) (zero one : List Place)
    (leads : LeadsAcross c number zero one) (numbers : List ℕ) (are : AreListed (job c) zero one numbers) where
  abbrev end : ℕ
  end = places_of (job c)

  abbrev cut : ℕ → ℕ
  cut i = slice_index_or numbers i end

  rising : (i n : ℕ) → i ≤ n → n < length numbers → get_or numbers i 0 ≤ get_or numbers n 0
  rising i n up less = are.ascending i n 0 up less

  low_within : (i : ℕ) → i < length numbers → get_or numbers i 0 < end
  low_within i less = All-get_or (λ n. n < end) numbers i 0 less are.within

  cut_is : (i : ℕ) → i < length numbers → cut i ≡ get_or numbers i 0
  cut_is i less = same_read numbers i end 0 less

  cut_end : (i : ℕ) → length numbers ≤ i → cut i ≡ end
  cut_end i more = get_or-eq_default numbers end more

  within_end : number < end
  within_end = leads.within

  -- One is listed at least.
  pub some_listed : 0 < length numbers
  some_listed = ⊎_elim (λ (some : 0 < length numbers). some)
      (λ (none : length numbers ≤ 0). absurd (leads.differ (same_bits c wave (bit_of (job c) zero) (bit_of (job c) one)
      number within_end (λ k low. (let quiet = others_quiet (job c) zero one numbers are 0 k (omega arith)
      (λ n less. absurd (omega (arith, less))) (λ n up less. absurd (omega (arith, less, none))) in
      quiet.first ∙ sym quiet.second))))) (cases_lt 0 (length numbers))

  -- At the first the bit is that of the first filling, and behind the last that of the second.
  pub cuts_begin : halfway c zero one number 0 ≡ halfway c zero one number (cut 0)
  cuts_begin =
      let some = some_listed in
      let here = cut_is 0 some in
      cuts_same c wave zero one number 0 (cut 0) within_end (omega arith)
      (λ k low high. others_quiet (job c) zero one numbers are 0 k (omega arith) (λ n less. absurd (omega (arith, less)))
      (λ n up less. (let h = rising 0 n (omega arith) less in omega (arith, h, here, high))))

  pub cuts_end : halfway c zero one number (cut (length numbers)) ≡ not (halfway c zero one number 0)
  cuts_end = ap (halfway c zero one number) (cut_end (length numbers) (omega arith))
      ∙ way_turns c wave zero one number within_end leads.differ

  -- Where it turns from one to the next, it turns at the place of the first of these.
  pub cuts_turn : (i : ℕ) (first : Bool) → i < length numbers → halfway c zero one number (cut i) ≡ first
      → halfway c zero one number (cut (i + 1)) ≡ not first → IsTurn c zero one number (get_or numbers i 0)
  cuts_turn i first less low high =
      let here = cut_is i less in
      record {
        within = low_within i less;
        turns = ⊎_elim
            (λ (behind : get_or numbers i 0 < cut (i + 1)). cuts_same c wave zero one number (get_or numbers i 0 + 1)
            (cut (i + 1)) within_end (omega (arith, behind)) (between behind) ∙ high
            ∙ ap not (sym low ∙ ap (halfway c zero one number) here))
            (λ (same : cut (i + 1) ≤ get_or numbers i 0). absurd (no_turn first
            (sym low ∙ ap (halfway c zero one number) (here ∙ again same) ∙ high)))
            (cases_lt (get_or numbers i 0) (cut (i + 1)));
      }
    where
      next_is : (n : ℕ) → i + 1 ≤ n → n < length numbers → cut (i + 1) ≤ get_or numbers n 0
      next_is n up in_list =
          let there = cut_is (i + 1) (omega (arith, up, in_list)) in
          let h = rising (i + 1) n up in_list in
          omega (arith, there, h)

      between : get_or numbers i 0 < cut (i + 1) → (k : ℕ) → get_or numbers i 0 + 1 ≤ k → k < cut (i + 1)
          → IsQuiet (job c) zero one k
      between behind k more below = others_quiet (job c) zero one numbers are (i + 1) k (omega (arith, less))
          (λ n before. (let h = rising n i (omega (arith, before)) less in omega (arith, h, more)))
          (λ n up in_list. (let h = next_is n up in_list in omega (arith, h, below)))

      again : cut (i + 1) ≤ get_or numbers i 0 → get_or numbers i 0 ≡ cut (i + 1)
      again same = ⊎_elim
          (λ (more : i + 1 < length numbers). (let there = cut_is (i + 1) more in
          let h = rising i (i + 1) (omega arith) more in omega (arith, there, h, same)))
          (λ (last : length numbers ≤ i + 1). (let there = cut_end (i + 1) last in
          let h = low_within i less in absurd (omega (arith, there, h, same)))) (cases_lt (i + 1) (length numbers))

  -- Where one alone is listed, the bit turns there.
  pub one_turns : length numbers ≤ 1 → IsTurn c zero one number (get_or numbers 0 0)
  one_turns few =
      let some = some_listed in
      let long : length numbers ≡ 0 + 1 = omega (arith, some, few) in
      cuts_turn 0 (halfway c zero one number 0) some (sym cuts_begin)
      (ap (λ (n : ℕ). halfway c zero one number (cut n)) (sym long) ∙ cuts_end)

-- The bits of a cut, and of the next one, are those of the filling without the cut's place, or with it.
below_cut : (j : Job) (zero one : List Place) (cut below from k : ℕ) → cut ≤ below → k < cut
    → joined_bit j one below zero from k ≡ bit_of j one k
below_cut j zero one cut below from k order less = rw (lt-ltb k below (omega arith)) refl

behind_cut : (j : Job) (zero one : List Place) (cut below from k : ℕ) → below ≤ cut + 1 → from ≤ cut + 1 → cut < k
    → joined_bit j one below zero from k ≡ bit_of j zero k
behind_cut j zero one cut below from k order other less =
    rw (le-ltb k below (omega arith), le-ltb k from (omega arith)) refl

abbrev with_source : Job → Place → List Place → Bool → ℕ → Bool
with_source j source others true = bit_of j (source ∷ others)
with_source j source others false = bit_of j others

module _ (j : Job) (zero one others : List Place) (cut : ℕ) (source : Place) (at : number_of j source ≡ cut)
    (joined : IsJoined j one cut zero (cut + 1) others)
  where
    elsewhere : (b : Bool) (k : ℕ) → (cut ≡ k → ⊥) → with_source j source others b k ≡ joined_bit j one cut zero (cut + 1) k
    elsewhere true k other = ap (λ n. (n == k) || bit_of j others k) at ∙ rw (ne_eqb cut k other) (joined.bits k)
    elsewhere false k other = joined.bits k

    apart : bit_of j others cut ≡ false
    apart = joined.bits cut ∙ rw (le-ltb cut cut (omega arith), lt-ltb cut (cut + 1) (omega arith)) refl

    here : (b : Bool) → with_source j source others b cut ≡ b
    here true = ap (λ n. (n == cut) || bit_of j others cut) at ∙ rw (eq-eqb cut cut refl) refl
    here false = apart

    at_cut : (k : ℕ) → joined_bit j one cut zero cut k ≡ with_source j source others (bit_of j zero cut) k
    at_cut k = ⊎_elim
        (λ (same : cut ≡ k). subst
        (λ i. joined_bit j one cut zero cut i ≡ with_source j source others (bit_of j zero cut) i) same
        (rw (le-ltb cut cut (omega arith)) (sym (here (bit_of j zero cut)))))
        (λ (other : cut ≡ k → ⊥). ⊎_elim
        (λ (less : k < cut). below_cut j zero one cut cut cut k (omega arith) less
        ∙ sym (below_cut j zero one cut cut (cut + 1) k (omega arith) less)
        ∙ sym (elsewhere (bit_of j zero cut) k other))
        (λ (more : cut ≤ k). behind_cut j zero one cut cut cut k (omega arith) (omega arith) (omega (arith, other, more))
        ∙ sym (behind_cut j zero one cut cut (cut + 1) k (omega arith) (omega arith) (omega (arith, other, more)))
        ∙ sym (elsewhere (bit_of j zero cut) k other))
        (cases_lt k cut))
        (cases_eq cut k)

    at_next : (k : ℕ) → joined_bit j one (cut + 1) zero (cut + 1) k ≡ with_source j source others (bit_of j one cut) k
    at_next k = ⊎_elim
        (λ (same : cut ≡ k). subst
        (λ i. joined_bit j one (cut + 1) zero (cut + 1) i ≡ with_source j source others (bit_of j one cut) i) same
        (rw (lt-ltb cut (cut + 1) (omega arith)) (sym (here (bit_of j one cut)))))
        (λ (other : cut ≡ k → ⊥). ⊎_elim
        (λ (less : k < cut). below_cut j zero one cut (cut + 1) (cut + 1) k (omega arith) less
        ∙ sym (below_cut j zero one cut cut (cut + 1) k (omega arith) less)
        ∙ sym (elsewhere (bit_of j one cut) k other))
        (λ (more : cut ≤ k). behind_cut j zero one cut (cut + 1) (cut + 1) k (omega arith) (omega arith) (omega (arith, other, more))
        ∙ sym (behind_cut j zero one cut cut (cut + 1) k (omega arith) (omega arith) (omega (arith, other, more)))
        ∙ sym (elsewhere (bit_of j one cut) k other))
        (cases_lt k cut))
        (cases_eq cut k)

pub turn_blames : (c : Contents) → IsWave c → (zero one others : List Place) (number cut : ℕ) (source : Place)
    → number < places_of (job c) → IsTurn c zero one number cut → IsPlace (job c) source
    → number_of (job c) source ≡ cut → IsJoined (job c) one cut zero (cut + 1) others
    → IsToBlame c number source others
turn_blames c wave zero one others number cut source within turn place at joined =
    let j = job c in
    let w : Bool → Bool = λ b. bit_in c (with_source j source others b) number in
    let old : halfway c zero one number cut ≡ w (bit_of j zero cut) =
    same_bits c wave _ _ number within (λ k low. at_cut j zero one others cut source at joined k) in
    let new : halfway c zero one number (cut + 1) ≡ w (bit_of j one cut) =
    same_bits c wave _ _ number within (λ k low. at_next j zero one others cut source at joined k) in
    record {
      within = place;
      filling = joined.is_filling;
      apart = ap (bit_of j others) at ∙ apart j zero one others cut source at joined;
      differs = λ same. no_turn (w (bit_of j one cut))
          (sym new ∙ turn.turns ∙ ap not (old ∙ alike w same (bit_of j zero cut) (bit_of j one cut)));
    }
  where
    alike : (w : Bool → Bool) → w false ≡ w true → (a b : Bool) → w a ≡ w b
    alike w same true true = refl
    alike w same true false = sym same
    alike w same false true = same
    alike w same false false = refl
