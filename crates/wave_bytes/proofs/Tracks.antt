-- The bytes of a position by its entries.
use Rattle.std.proofs.Common.{◌≡◌, ℕ, zero, suc, ◌+◌, ◌-◌, ◌<◌, ◌≤◌, List, [], ◌∷◌, ◌++◌, length, refl, sym, ap, ◌∙◌}
use Rattle.std.proofs.Common.{arith, subst, ⊎_elim, nat_le, if◌then◌else◌}
use Rattle.std.proofs.lemmas.Bool.{cases_eq, cases_lt, eq-eqb, le-leb, lt-leb, ne_eqb}
use Rattle.wave_bytes.specs.Byte.{repeated_byte}
use Rattle.wave_bytes.specs.Track.{AreAscending, byte_after, byte_at, byte_from, nth_entry}
use Rattle.wave_bytes.specs.declared.track.Entry.{Entry}
use Rattle.wave_bytes.proofs.ByteDigits.{repeated_twice}

-- An entry is heeded from its step on.
abbrev heeded : ℕ → Entry → ℕ → ℕ
heeded byte entry step = if nat_le entry.step step then byte_from entry step else byte

heeded_from : (byte : ℕ) (entry : Entry) (step : ℕ) → entry.step ≤ step
    → heeded byte entry step ≡ byte_from entry step
heeded_from byte entry step up = rw (le-leb entry.step step up) refl

heeded_later : (byte : ℕ) (entry : Entry) (step : ℕ) → step < entry.step → heeded byte entry step ≡ byte
heeded_later byte entry step late = rw (lt-leb entry.step step late) refl

from_here : (entry : Entry) (step : ℕ) → entry.step ≡ step → byte_from entry step ≡ entry.byte
from_here entry step same = rw (eq-eqb entry.step step same) refl

from_before : (entry : Entry) (step : ℕ) → (entry.step ≡ step → ⊥) → byte_from entry step ≡ repeated_byte entry.byte
from_before entry step other = rw (ne_eqb entry.step step other) refl

-- Entries of later steps say nothing.
after_none : (byte : ℕ) (entries : List Entry) (step : ℕ)
    → ((i : ℕ) → i < length entries → step < (nth_entry entries i).step) → byte_after byte entries step ≡ byte
after_none byte [] step late = refl
after_none byte (entry ∷ entries) step late =
    ap (λ b. byte_after b entries step) (heeded_later byte entry step (late 0 (omega arith)))
    ∙ after_none byte entries step (λ i less. late (suc i) (omega (arith, less)))

-- So the last one up to a step gives the byte.
after_last : (byte : ℕ) (entries : List Entry) (step last : ℕ) → last < length entries
    → (nth_entry entries last).step ≤ step
    → ((i : ℕ) → last < i → i < length entries → step < (nth_entry entries i).step)
    → byte_after byte entries step ≡ byte_from (nth_entry entries last) step
after_last byte [] step last less up late = absurd (omega (arith, less))
after_last byte (entry ∷ entries) step zero less up late =
    ap (λ b. byte_after b entries step) (heeded_from byte entry step up)
    ∙ after_none (byte_from entry step) entries step (λ i low. late (suc i) (omega arith) (omega (arith, low)))
after_last byte (entry ∷ entries) step (suc last) less up late =
    after_last (heeded byte entry step) entries step last (omega (arith, less)) up
    (λ i from low. late (suc i) (omega (arith, from)) (omega (arith, low)))

-- One is found by how many are of steps up to the one.
pub byte_counted : (entries : List Entry) (step count : ℕ) → AreAscending entries → count ≤ length entries
    → 0 < count → (nth_entry entries (count - 1)).step ≤ step
    → (count < length entries → step < (nth_entry entries count).step)
    → byte_at entries step ≡ byte_from (nth_entry entries (count - 1)) step
byte_counted entries step count ascending within some up next =
    after_last 64 entries step (count - 1) (omega (arith, some, within)) up later
  where
    later : (i : ℕ) → count - 1 < i → i < length entries → step < (nth_entry entries i).step
    later i from less = ⊎_elim
        (λ (here : count ≡ i). subst (λ n. step < (nth_entry entries n).step) here (next (omega (arith, here, less))))
        (λ (other : count ≡ i → ⊥). (let low : count < i = omega (arith, from, other) in
        let rise = ascending count i low less in let first = next (omega (arith, low, less)) in
        omega (arith, rise, first))) (cases_eq count i)

-- The last one gives the byte of each step from its own on.
pub byte_of_last : (entries : List Entry) (last : Entry) (step : ℕ) → AreAscending entries → 0 < length entries
    → last ≡ nth_entry entries (length entries - 1) → last.step ≤ step → byte_from last step ≡ byte_at entries step
byte_of_last entries last step ascending some is up =
    ap (λ (entry : Entry). byte_from entry step) is
    ∙ sym (byte_counted entries step (length entries) ascending (omega arith) some
    (subst (λ (entry : Entry). entry.step ≤ step) is up) (λ less. absurd (omega (arith, less))))

pub byte_uncounted : (entries : List Entry) (step count : ℕ) → AreAscending entries → count ≡ 0
    → (count < length entries → step < (nth_entry entries count).step) → 64 ≡ byte_at entries step
byte_uncounted entries step zero ascending none next = sym (after_none 64 entries step later)
  where
    later : (i : ℕ) → i < length entries → step < (nth_entry entries i).step
    later zero less = next less
    later (suc i) less =
        let rise = ascending 0 (suc i) (omega arith) less in let first = next (omega (arith, less)) in
        omega (arith, rise, first)
byte_uncounted entries step (suc count) ascending none next = absurd (omega (arith, none))

-- An entry more says nothing of steps before it, and its own byte at its step.
after_earlier : (byte : ℕ) (entries : List Entry) (entry : Entry) (step : ℕ) → step < entry.step
    → byte_after byte (entries ++ entry ∷ []) step ≡ byte_after byte entries step
after_earlier byte [] entry step late = heeded_later byte entry step late
after_earlier byte (first ∷ entries) entry step late = after_earlier (heeded byte first step) entries entry step late

pub at_earlier : (entries : List Entry) (entry : Entry) (step : ℕ) → step < entry.step
    → byte_at (entries ++ entry ∷ []) step ≡ byte_at entries step
at_earlier entries entry step late = after_earlier 64 entries entry step late

after_here : (byte : ℕ) (entries : List Entry) (entry : Entry) (step : ℕ) → entry.step ≡ step
    → byte_after byte (entries ++ entry ∷ []) step ≡ entry.byte
after_here byte [] entry step same =
    heeded_from byte entry step (omega (arith, same)) ∙ from_here entry step same
after_here byte (first ∷ entries) entry step same = after_here (heeded byte first step) entries entry step same

pub at_here : (entries : List Entry) (entry : Entry) (step : ℕ) → entry.step ≡ step
    → byte_at (entries ++ entry ∷ []) step ≡ entry.byte
at_here entries entry step same = after_here 64 entries entry step same

-- Where none is of a step, its byte is the one a step before, written again.
from_again : (entry : Entry) (step : ℕ) → (entry.step ≡ step + 1 → ⊥)
    → byte_from entry (step + 1) ≡ repeated_byte (byte_from entry step)
from_again entry step other = from_before entry (step + 1) other
    ∙ ⊎_elim (λ (same : entry.step ≡ step). ap repeated_byte (sym (from_here entry step same)))
    (λ (far : entry.step ≡ step → ⊥). sym (repeated_twice entry.byte)
    ∙ ap repeated_byte (sym (from_before entry step far))) (cases_eq entry.step step)

heeded_again : (later byte : ℕ) (entry : Entry) (step : ℕ) → later ≡ repeated_byte byte
    → (entry.step ≡ step + 1 → ⊥) → heeded later entry (step + 1) ≡ repeated_byte (heeded byte entry step)
heeded_again later byte entry step is other = ⊎_elim
    (λ (late : step < entry.step). heeded_later later entry (step + 1) (omega (arith, late, other)) ∙ is
    ∙ ap repeated_byte (sym (heeded_later byte entry step late)))
    (λ (up : entry.step ≤ step). heeded_from later entry (step + 1) (omega (arith, up)) ∙ from_again entry step other
    ∙ ap repeated_byte (sym (heeded_from byte entry step up))) (cases_lt step entry.step)

after_again : (later byte : ℕ) (entries : List Entry) (step : ℕ) → later ≡ repeated_byte byte
    → ((i : ℕ) → i < length entries → (nth_entry entries i).step ≡ step + 1 → ⊥)
    → byte_after later entries (step + 1) ≡ repeated_byte (byte_after byte entries step)
after_again later byte [] step is other = is
after_again later byte (entry ∷ entries) step is other =
    after_again (heeded later entry (step + 1)) (heeded byte entry step) entries step
    (heeded_again later byte entry step is (other 0 (omega arith)))
    (λ i less. other (suc i) (omega (arith, less)))

pub at_again : (entries : List Entry) (step : ℕ)
    → ((i : ℕ) → i < length entries → (nth_entry entries i).step ≡ step + 1 → ⊥)
    → byte_at entries (step + 1) ≡ repeated_byte (byte_at entries step)
at_again entries step other = after_again 64 64 entries step refl other
