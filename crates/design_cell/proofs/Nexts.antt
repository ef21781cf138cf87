-- Two passes over the pins give the state after all changed pins.
use Rattle.std.proofs.Common.{◌≡◌, ℕ, zero, suc, ◌+◌, ◌<◌, ◌&&◌, ◌++◌, Bool, true, false, List, [], ◌∷◌, Option, None, refl, sym, ap, subst, ◌∙◌, arith, slice_index_or, slice_set, add-one, inl, inr}
use Rattle.std.proofs.lemmas.List.{append_assoc, append-nil}
use Rattle.design_cell.specs.declared.value.Value.{Value}
use Rattle.design_cell.specs.declared.value.Value.TheVariants.{Zero, One, X, Z}
use Rattle.design_cell.specs.Symbol.{differ}
use Rattle.design_cell.specs.Table.{Table, change}
use Rattle.design_cell.specs.Next.{has_changed, is_in_group, pins_with, changed_group, pins_after, state_after, next}
use Rattle.design_cell.specs.Deciding.{DecidesLast, IsLastOf, IsLastRow, IsRowOfChange}
use Rattle.design_cell.specs.Pass.{IsPass}
use Rattle.design_cell.specs.declared.udp.Changing.{Changing}

pins_after-append : (old new : List Value) (pins more : List ℕ) → pins_after old new (pins ++ more) ≡ pins_after (pins_after old new pins) new more
pins_after-append old new [] more = refl
pins_after-append old new (pin ∷ pins) more = pins_after-append (slice_set old pin (slice_index_or new pin X)) new pins more

state_after-append : (t : Table) (old new : List Value) (earlier pins more : List ℕ) (q : Value) → state_after t old new earlier (pins ++ more) q ≡ state_after t old new (earlier ++ pins) more (state_after t old new earlier pins q)
state_after-append t old new earlier [] more q = ap (λ e. state_after t old new e more q) (sym (append-nil earlier))
state_after-append t old new earlier (pin ∷ pins) more q =
    let so_far = earlier ++ pin ∷ [] in
    let now = change t (pins_after old new so_far) pin (slice_index_or old pin X) q in
    state_after-append t old new so_far pins more now ∙ ap (λ e. state_after t old new e more (state_after t old new so_far pins now)) (append_assoc earlier (pin ∷ []) pins)

-- a state after a change, with its row
abbrev pub IsTurned : Table → List Value → List Value → ℕ → List Value → Value → Changing → Type 0
IsTurned t old new pin pins q now = (now.state ≡ change t pins pin (slice_index_or old pin X) q) × IsRowOfChange t pins pin (slice_index_or old pin X) q now.row

pub is_turned : (t : Table) (old new : List Value) (pin : ℕ) (pins after : List Value) (q : Value) (now : Changing) → after ≡ pins → now.state ≡ change t after pin (slice_index_or old pin X) q → IsRowOfChange t after pin (slice_index_or old pin X) q now.row → IsTurned t old new pin pins q now
is_turned t old new pin pins after q now e state row =
    (state ∙ ap (λ p. change t p pin (slice_index_or old pin X) q) e, subst (λ p. IsRowOfChange t p pin (slice_index_or old pin X) q now.row) e row)

pub pass_turn : (t : Table) (old new : List Value) (earlier turned : List ℕ) (from : Changing) (pins : List Value) (state now : Changing) (pin : ℕ) → IsPass t old new earlier turned from pins state → IsTurned t old new pin (slice_set pins pin (slice_index_or new pin X)) state.state now → IsPass t old new earlier (turned ++ pin ∷ []) from (slice_set pins pin (slice_index_or new pin X)) now
pass_turn t old new earlier turned from pins state now pin is (state_is, row_is) =
    let after : slice_set pins pin (slice_index_or new pin X) ≡ pins_after old new (earlier ++ (turned ++ pin ∷ [])) = ap (λ p. slice_set p pin (slice_index_or new pin X)) is.pins_ ∙ sym (pins_after-append old new (earlier ++ turned) (pin ∷ [])) ∙ ap (pins_after old new) (append_assoc earlier turned (pin ∷ [])) in
    record {
      pins_ = after;
      state_ = state_is ∙ ap (λ p. change t p pin (slice_index_or old pin X) state.state) after ∙ ap (change t (pins_after old new (earlier ++ (turned ++ pin ∷ []))) pin (slice_index_or old pin X)) is.state_ ∙ ap (λ e. change t (pins_after old new e) pin (slice_index_or old pin X) (state_after t old new earlier turned from.state)) (sym (append_assoc earlier turned (pin ∷ []))) ∙ sym (state_after-append t old new earlier turned (pin ∷ []) from.state);
      row_ = inr (record {
        earlier = turned;
        pin = pin;
        changed_ = refl;
        decides = subst (λ p. IsRowOfChange t p pin (slice_index_or old pin X) (state_after t old new earlier turned from.state) now.row) after (subst (λ q. IsRowOfChange t (slice_set pins pin (slice_index_or new pin X)) pin (slice_index_or old pin X) q now.row) is.state_ row_is);
      });
    }

pub pass_none : (t : Table) (old new : List Value) (earlier : List ℕ) (from : Changing) (pins : List Value) → pins ≡ pins_after old new earlier → IsPass t old new earlier [] from pins from
pass_none t old new earlier from pins is = record { pins_ = is ∙ ap (pins_after old new) (sym (append-nil earlier)); state_ = refl; row_ = inl (refl, refl) }

pub pass_step : (t : Table) (clock : Bool) (clocks : ℕ) (old new : List Value) (earlier : List ℕ) (from : Changing) (pins : List Value) (state now : Changing) (n : ℕ) (was is_now : Value) → was ≡ slice_index_or old n X → is_now ≡ slice_index_or new n X → (is_in_group clock clocks n && differ was is_now) ≡ true → IsPass t old new earlier (changed_group clock clocks old new n) from pins state → IsTurned t old new n (slice_set pins n (slice_index_or new n X)) state.state now → IsPass t old new earlier (changed_group clock clocks old new (n + 1)) from (slice_set pins n (slice_index_or new n X)) now
pass_step t clock clocks old new earlier from pins state now n was is_now was_is now_is turns is turned =
    let turns_here = rw (was_is, now_is) at turns in
    rw (add-one, turns_here) (pass_turn t old new earlier (changed_group clock clocks old new n) from pins state now n is turned)

pub pass_stay : (t : Table) (clock : Bool) (clocks : ℕ) (old new : List Value) (earlier : List ℕ) (from : Changing) (pins : List Value) (state : Changing) (n : ℕ) (was now : Value) → was ≡ slice_index_or old n X → now ≡ slice_index_or new n X → (is_in_group clock clocks n && differ was now) ≡ false → IsPass t old new earlier (changed_group clock clocks old new n) from pins state → IsPass t old new earlier (changed_group clock clocks old new (n + 1)) from pins state
pass_stay t clock clocks old new earlier from pins state n was now was_is now_is stays is =
    let stays_here = rw (was_is, now_is) at stays in
    rw (add-one, stays_here, append-nil) is

pub moved_pass : (t : Table) (old new : List Value) (earlier turned : List ℕ) (from : Changing) (pins after : List Value) (state now : Changing) → after ≡ pins → now ≡ state → IsPass t old new earlier turned from pins state → IsPass t old new earlier turned from after now
moved_pass t old new earlier turned from pins after state now e f is = rw (e, f) is

pub two_passes : (t : Table) (clocks : ℕ) (old new pins end : List Value) (from middle last : Changing) → IsPass t old new [] (changed_group true clocks old new t.inputs) from pins middle → IsPass t old new (changed_group true clocks old new t.inputs) (changed_group false clocks old new t.inputs) middle end last → last.state ≡ next t clocks old new from.state
unfolding next
two_passes t clocks old new pins end from middle last first second =
    let clock_pins = changed_group true clocks old new t.inputs in
    let others = changed_group false clocks old new t.inputs in
    second.state_ ∙ ap (state_after t old new clock_pins others) first.state_ ∙ sym (state_after-append t old new [] clock_pins others from.state)

-- The last change of two passes is that of the second one, or of the first one where the second made none.
both_rows : (t : Table) (old new : List Value) (some others : List ℕ) (q middle : Value) (row last : Option ℕ) → middle ≡ state_after t old new [] some q → IsLastOf t old new [] some q None row → IsLastOf t old new some others middle row last → IsLastOf t old new [] (some ++ others) q None last
both_rows t old new some others q middle row last is first (inl (none, same)) = rw (none, same, append-nil) first
both_rows t old new some others q middle row last is first (inr r) = inr (record {
  earlier = some ++ r.earlier;
  pin = r.pin;
  changed_ = ap (λ o. some ++ o) r.changed_ ∙ sym (append_assoc some r.earlier (r.pin ∷ []));
  decides = subst (λ state. IsRowOfChange t (pins_after old new (some ++ others)) r.pin (slice_index_or old r.pin X) state last)
      (ap (state_after t old new some r.earlier) is ∙ sym (state_after-append t old new [] some r.earlier q)) r.decides;
})

pub two_rows : (t : Table) (clocks : ℕ) (old new pins end : List Value) (q : Value) (middle last : Changing) → IsPass t old new [] (changed_group true clocks old new t.inputs) (record { state = q; row = None }) pins middle → IsPass t old new (changed_group true clocks old new t.inputs) (changed_group false clocks old new t.inputs) middle end last → IsLastRow t clocks old new q last.row
two_rows t clocks old new pins end q middle last first second =
    both_rows t old new (changed_group true clocks old new t.inputs) (changed_group false clocks old new t.inputs) q middle.state middle.row last.row first.state_ first.row_ second.row_

no_pins : (test : ℕ → Bool) (n : ℕ) → ((pin : ℕ) → pin < n → test pin ≡ false) → pins_with test n ≡ []
no_pins test zero none = refl
no_pins test (suc n) none = rw (no_pins test n (λ pin below. none pin (omega arith)), none n (omega arith)) refl

and_not : (a b : Bool) → b ≡ false → (a && b) ≡ false
and_not true b h = h
and_not false b h = refl

pub next_unchanged : (t : Table) (clocks : ℕ) (old new : List Value) (q : Value) → ((pin : ℕ) → pin < t.inputs → has_changed old new pin ≡ false) → next t clocks old new q ≡ q
unfolding next
next_unchanged t clocks old new q none =
    let clock_pins : changed_group true clocks old new t.inputs ≡ [] = no_pins _ t.inputs (λ pin below. and_not _ _ (none pin below)) in
    let others : changed_group false clocks old new t.inputs ≡ [] = no_pins _ t.inputs (λ pin below. and_not _ _ (none pin below)) in
    ap (λ pins. state_after t old new [] pins q) (ap (λ c. c ++ changed_group false clocks old new t.inputs) clock_pins ∙ others)

same_value : (v : Value) → differ v v ≡ false
same_value Zero = refl
same_value One = refl
same_value X = refl
same_value Z = refl

-- A register whose pins stay keeps what it kept.
pub next_idle : (t : Table) (clocks : ℕ) (pins : List Value) (q : Value) → next t clocks pins pins q ≡ q
next_idle t clocks pins q = next_unchanged t clocks pins pins q (λ pin below. same_value (slice_index_or pins pin X))
