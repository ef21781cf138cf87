-- What is written at a place, by its class and its line: it follows the class, shows the history, and reads one
-- earlier place.
use Rattle.std.proofs.Common.{◌≡◌, ℕ, Bool, refl, sym, ap, subst, Option, Some, None}
use Rattle.design_cell.specs.declared.value.Value.{Value}
use Rattle.design_cell.specs.declared.value.Value.TheVariants.{Zero, One, X, Z}
use Rattle.design_cell.specs.Value.{IsKnown}
use Rattle.design_circuit.specs.declared.waveform.Written.{Written}
use Rattle.design_circuit.specs.declared.waveform.Mark.{Mark}
use Rattle.design_circuit.specs.declared.waveform.Mark.TheVariants.{Certain, Unknown, Undecided}
use Rattle.law_model.specs.Yields.{uncertain, flipped_value, carried_of, written_by}
use Rattle.law_model.specs.Sound.{FollowsCarrier, FollowsClass, IsOptimistic}
use Rattle.law_model.specs.declared.class.ClassByNumber.{ClassByNumber}
use Rattle.law_model.specs.declared.class.ClassByNumber.TheVariants.{Local, Free, Carried, Line}
use Rattle.law_model.specs.declared.line.Body.{Body}
use Rattle.law_model.specs.declared.line.Body.TheVariants.{Enumerated, Refuted, Pair, Undecided as Budget}

-- Uncertain places show what the history shows.
carried_shows : (inverted : Bool) (mark : Mark) (value shown : Value)
    → ((carried_of inverted mark value shown).mark ≡ Certain → ⊥) → (carried_of inverted mark value shown).value ≡ shown
carried_shows inverted Certain value shown uncertain = absurd (uncertain refl)
carried_shows inverted Unknown value shown uncertain = refl
carried_shows inverted Undecided value shown uncertain = refl

pub written_shows : (earlier : ℕ → Written) (class : ClassByNumber) (body : Option Body) (shown : Value)
    → ((written_by earlier class body shown).mark ≡ Certain → ⊥) → (written_by earlier class body shown).value ≡ shown
written_shows earlier (Local bit) body shown uncertain = absurd (uncertain refl)
written_shows earlier Free body shown uncertain = refl
written_shows earlier (Carried from inverted) body shown uncertain = carried_shows inverted (earlier from).mark
    (earlier from).value shown uncertain
written_shows earlier Line None shown uncertain = refl
written_shows earlier Line (Some (Enumerated bit)) shown uncertain = absurd (uncertain refl)
written_shows earlier Line (Some (Refuted bit log)) shown uncertain = absurd (uncertain refl)
written_shows earlier Line (Some (Budget log)) shown uncertain = refl
written_shows earlier Line (Some (Pair first second)) shown uncertain = refl

-- An honest place doesn't contradict the history.
pub honest_known : (mark : Mark) (value shown : Value) → (IsOptimistic mark value shown → ⊥)
    → ((mark ≡ Certain → ⊥) → value ≡ shown) → IsKnown shown → value ≡ shown
honest_known Certain Zero Zero honest uncertain known = refl
honest_known Certain Zero One honest uncertain known = absurd (honest (tt, λ e. cc))
honest_known Certain One Zero honest uncertain known = absurd (honest (tt, λ e. cc))
honest_known Certain One One honest uncertain known = refl
honest_known Certain X Zero honest uncertain known = absurd (honest (tt, λ e. cc))
honest_known Certain X One honest uncertain known = absurd (honest (tt, λ e. cc))
honest_known Certain Z Zero honest uncertain known = absurd (honest (tt, λ e. cc))
honest_known Certain Z One honest uncertain known = absurd (honest (tt, λ e. cc))
honest_known Certain value X honest uncertain known = absurd known
honest_known Certain value Z honest uncertain known = absurd known
honest_known Unknown value shown honest uncertain known = uncertain (λ e. cc)
honest_known Undecided value shown honest uncertain known = uncertain (λ e. cc)

pub honest_open : (mark : Mark) (value shown : Value) → (IsOptimistic mark value shown → ⊥) → mark ≡ Unknown
    → IsKnown shown → ⊥
honest_open Certain value shown honest is known = cc
honest_open Unknown value shown honest is known = honest known
honest_open Undecided value shown honest is known = cc

carried_follows : (inverted : Bool) (from : Written) (mark : Mark) (value shown : Value) → from.mark ≡ mark
    → from.value ≡ value → FollowsCarrier inverted from (carried_of inverted mark value shown)
carried_follows inverted from Certain value shown mark_is value_is =
    record { mark = sym mark_is; value = λ e. ap (flipped_value inverted) (sym value_is) }
carried_follows inverted from Unknown value shown mark_is value_is = record { mark = sym mark_is; value = λ e. cc }
carried_follows inverted from Undecided value shown mark_is value_is = record { mark = sym mark_is; value = λ e. cc }

pub written_follows : (earlier : ℕ → Written) (class : ClassByNumber) (body : Option Body) (shown : Value)
    → FollowsClass earlier class (written_by earlier class body shown)
written_follows earlier (Local bit) body shown = refl
written_follows earlier Free body shown = refl
written_follows earlier (Carried from inverted) body shown = carried_follows inverted (earlier from) (earlier from).mark
    (earlier from).value shown refl refl
written_follows earlier Line body shown = tt

pub follows_moved : (e g : ℕ → Written) (class : ClassByNumber) (x : Written)
    → ((from : ℕ) (inverted : Bool) → class ≡ Carried from inverted → e from ≡ g from) → FollowsClass e class x
    → FollowsClass g class x
follows_moved e g (Local bit) x same follows = follows
follows_moved e g Free x same follows = follows
follows_moved e g (Carried from inverted) x same follows = subst (λ w. FollowsCarrier inverted w x) (same from inverted refl)
    follows
follows_moved e g Line x same follows = follows

pub written_moved : (e g : ℕ → Written) (class : ClassByNumber) (body : Option Body) (shown : Value)
    → ((from : ℕ) (inverted : Bool) → class ≡ Carried from inverted → e from ≡ g from)
    → written_by e class body shown ≡ written_by g class body shown
written_moved e g (Local bit) body shown same = refl
written_moved e g Free body shown same = refl
written_moved e g (Carried from inverted) body shown same =
    ap (λ (w : Written). carried_of inverted w.mark w.value shown) (same from inverted refl)
written_moved e g Line body shown same = refl
