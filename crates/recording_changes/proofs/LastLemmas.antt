-- What is held in a moment is what the last change in it or before gave.
use Rattle.std.proofs.Common.{◌≡◌, ℕ, suc, ◌-◌, ◌+◌, ◌<◌, ◌≤◌, true, false, List, [], ◌∷◌, ◌++◌, refl, ap, ◌∙◌, arith, nat_le, All, get_or}
use Rattle.std.proofs.lemmas.Bool.Decides.{nat_tests}
use Rattle.std.proofs.lemmas.List.{get_or-replicate, replicate-append-replicate}
use Rattle.recording_changes.specs.Held.{Change, held, unknown, extended, digit_value, bit_value}
use Rattle.recording_changes.specs.Last.{IsLastValue}

le_is : (a b : ℕ) → a ≤ b → nat_le a b ≡ true
le_is a b h = grind (arith, nat_tests)

gt_is : (a b : ℕ) → b < a → nat_le a b ≡ false
gt_is a b h = grind (arith, nat_tests)

held-append : (m : ℕ) (xs ys : List Change) (had : List ℕ) → held m (xs ++ ys) had ≡ held m ys (held m xs had)
held-append m [] ys had = refl
held-append m (x ∷ xs) ys had = held-append m xs ys _

held_after : (m : ℕ) (cs : List Change) (had : List ℕ) → All (λ (d : Change). m < d.moment) cs → held m cs had ≡ had
held_after m [] had h = refl
held_after m (c ∷ cs) had h =
    let later : nat_le c.moment m ≡ false = gt_is c.moment m (h 0 c (omega arith)) in
    rw (later, held) (held_after m cs had (λ k d lt. h (suc k) d (omega (arith, lt))))

held_last : (m : ℕ) (front rest : List Change) (c : Change) (had : List ℕ) → c.moment ≤ m → All (λ (d : Change). m < d.moment) rest → held m (front ++ c ∷ rest) had ≡ c.digits
held_last m front rest c had le after =
    let now : nat_le c.moment m ≡ true = le_is c.moment m le in
    held-append m front (c ∷ rest) had ∙ rw (now, held) (held_after m rest c.digits after)

unknown_bit : (width bit : ℕ) → bit < width → get_or (extended width unknown) bit 0 ≡ 120
unknown_bit width bit lt = ap (λ (ds : List ℕ). get_or ds bit 0) (replicate-append-replicate (width - 1) 1 120) ∙ get_or-replicate (width - 1 + 1) bit 120 0 (omega (arith, lt))

pub is_last_value : (changes : List Change) (width bit moment : ℕ) → bit < width → IsLastValue changes width bit moment (bit_value changes width bit moment)
is_last_value changes width bit moment lt = record {
  last = λ c h. ap (λ (ds : List ℕ). digit_value (get_or (extended width ds) bit 0)) (ap (λ (cs : List Change). held moment cs unknown) h.split ∙ held_last moment h.front h.rest c unknown h.before h.after);
  before_any = λ h. ap (λ (ds : List ℕ). digit_value (get_or (extended width ds) bit 0)) (held_after moment changes unknown h) ∙ ap digit_value (unknown_bit width bit lt);
}
