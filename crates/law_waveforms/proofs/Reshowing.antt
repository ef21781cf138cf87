-- Lines yield, for another history, the waveform that is the same but for what that history shows.
use Rattle.std.proofs.Common.{◌≡◌, ℕ, zero, suc, ◌+◌, ◌<◌, ◌≤◌, Bool, List, [], ◌∷◌, map, length, refl, sym, ap, ◌∙◌, arith, subst, Some, None, Option}
use Rattle.design_cell.specs.declared.value.Value.{Value}
use Rattle.design_circuit.specs.declared.waveform.Written.{Written}
use Rattle.design_circuit.specs.declared.waveform.Mark.{Mark}
use Rattle.design_circuit.specs.declared.waveform.Mark.TheVariants.{Certain, Unknown, Undecided}
use Rattle.design_circuit.specs.Job.{places_of}
use Rattle.design_circuit.specs.Fits.{place_at}
use Rattle.design_circuit.specs.Waveform.{certain, certain_by, written_at}
use Rattle.design_circuit.proofs.Rules.{AgreeBelow}
use Rattle.law_model.specs.Class.{class_of}
use Rattle.law_model.specs.Stated.{body_at}
use Rattle.law_model.specs.Yields.{carried_of, is_line, line_places, line_of, written_by}
use Rattle.law_model.specs.declared.class.ClassByNumber.{ClassByNumber}
use Rattle.law_model.specs.declared.class.ClassByNumber.TheVariants.{Local, Free, Carried, Line}
use Rattle.law_model.specs.declared.line.Body.{Body}
use Rattle.law_model.specs.declared.line.Body.TheVariants.{Enumerated, Refuted, Pair, Undecided as Budget}
use Rattle.law_model.proofs.ClassesBefore.{class_local}
use Rattle.law_model.proofs.FactsBefore.{body_moved}
use Rattle.law_model.proofs.PlacesWhere.{picked_same}
use Rattle.law_model.proofs.Roots.{carried_below}
use Rattle.law_model.proofs.WrittenPlaces.{written_shows}
use Rattle.law_waveforms.specs.Reshown.{ReshownLaw, ReshownThere, reshown, reshown_by, reshown_from}
use Rattle.law_waveforms.proofs.SameWritten.{same_written}

-- The same mark, and the same certain value.
pub record Alike (a b : Written) : Type 0 where
  pub mark : a.mark ≡ b.mark
  pub value : certain_by a.mark a.value ≡ certain_by b.mark b.value

carried_alike : (inverted : Bool) (m n : Mark) (x y s t : Value) → m ≡ n → certain_by m x ≡ certain_by n y
    → Alike (carried_of inverted m x s) (carried_of inverted n y t)
carried_alike inverted Certain Certain x y s t marks values = rw values (record { mark = refl; value = refl })
carried_alike inverted Certain Unknown x y s t marks values = cc
carried_alike inverted Certain Undecided x y s t marks values = cc
carried_alike inverted Unknown Certain x y s t marks values = cc
carried_alike inverted Unknown Unknown x y s t marks values = record { mark = refl; value = refl }
carried_alike inverted Unknown Undecided x y s t marks values = cc
carried_alike inverted Undecided Certain x y s t marks values = cc
carried_alike inverted Undecided Unknown x y s t marks values = cc
carried_alike inverted Undecided Undecided x y s t marks values = record { mark = refl; value = refl }

line_alike : (body : Option Body) (s t : Value) → Alike (line_of body s) (line_of body t)
line_alike None s t = record { mark = refl; value = refl }
line_alike (Some (Enumerated bit)) s t = record { mark = refl; value = refl }
line_alike (Some (Refuted bit log)) s t = record { mark = refl; value = refl }
line_alike (Some (Pair first second)) s t = record { mark = refl; value = refl }
line_alike (Some (Budget log)) s t = record { mark = refl; value = refl }

-- What a class and a line say is alike for two histories.
written_alike : (e g : ℕ → Written) (class : ClassByNumber) (body : Option Body) (s t : Value)
    → ((from : ℕ) (inverted : Bool) → class ≡ Carried from inverted → Alike (e from) (g from))
    → Alike (written_by e class body s) (written_by g class body t)
written_alike e g (Local bit) body s t same = record { mark = refl; value = refl }
written_alike e g Free body s t same = record { mark = refl; value = refl }
written_alike e g (Carried from inverted) body s t same =
    let there = same from inverted refl in
    carried_alike inverted (e from).mark (g from).mark (e from).value (g from).value s t there.mark there.value
written_alike e g Line body s t same = line_alike body s t

pub reshown_law : ReshownLaw
unfolding certain
reshown_law j limits shown other v w lines fits is yields = record {
  within = omega (arith, long, all);
  places = yields.places ∙ ap (map (place_at j)) (picked_same (λ k. is_line (class_of j (certain v) k))
      (λ k. is_line (class_of j (certain w) k)) (length v) (λ k less. ap is_line (class_same k less))
      ∙ ap (line_places j (certain w)) (sym long));
  bodies = λ k body less at. body_moved j limits fits v w k body (inside k (low k less)) (agree k (low k less))
      (yields.bodies k body (low k less) at);
  written = λ k less. here k (low k less);
}
  where
    long : length w ≡ length v
    long = is.long

    all : length v ≤ places_of j
    all = yields.within

    low : (k : ℕ) → k < length w → k < length v
    low k less = omega (arith, less, long)

    inside : (k : ℕ) → k < length v → k < places_of j
    inside k less = omega (arith, less, all)

    agree : (k : ℕ) → k < length v → AgreeBelow (certain v) (certain w) k
    agree k less i before = (is.same i (omega (arith, less, before))).certain_value

    class_same : (k : ℕ) → k < length v → class_of j (certain v) k ≡ class_of j (certain w) k
    class_same k less = class_local j fits (certain v) (certain w) k (inside k less) (agree k less)

    from_alike : (k : ℕ) → k < length v → (from : ℕ) (inverted : Bool) → class_of j (certain v) k ≡ Carried from
        inverted
        → Alike (written_at v from) (written_at w from)
    from_alike k less from inverted carried =
        let before = carried_below j fits (certain v) k from inverted (inside k less) carried in
        let same = is.same from (omega (arith, less, before)) in
        record { mark = same.mark; value = same.certain_value }

    here : (k : ℕ) → k < length v
        → written_at w k ≡ written_by (written_at w) (class_of j (certain w) k) (body_at j lines k) (other k)
    here k less =
        let class = class_of j (certain v) k in
        let body = body_at j lines k in
        let alike = written_alike (written_at v) (written_at w) class body (shown k) (other k) (from_alike k less) in
        let same = is.same k less in
        let is_v = yields.written k less in
        same_written (written_at w k) (written_by (written_at w) class body (other k)) (other k)
        (sym same.mark ∙ ap (λ (x : Written). x.mark) is_v ∙ alike.mark)
        (sym same.certain_value ∙ ap (λ (x : Written). certain_by x.mark x.value) is_v ∙ alike.value)
        (is.shows k less) (written_shows (written_at w) class body (other k))
        ∙ ap (λ c. written_by (written_at w) c body (other k)) (class_same k less)

-- ---- the waveform that is shown

from_length : (other : ℕ → Value) (n : ℕ) (waveform : List Written)
    → length (reshown_from other n waveform) ≡ length waveform
from_length other n [] = refl
from_length other n (written ∷ rest) = ap suc (from_length other (suc n) rest)

from_at : (other : ℕ → Value) (n : ℕ) (waveform : List Written) (k : ℕ) → k < length waveform
    → written_at (reshown_from other n waveform) k ≡ reshown_by (written_at waveform k).mark
    (written_at waveform k).value (other (n + k))
from_at other n [] k less = absurd (omega (arith, less))
from_at other n (written ∷ rest) zero less =
    ap (λ i. reshown_by written.mark written.value (other i)) (let e : n ≡ n + 0 = omega arith in e)
from_at other n (written ∷ rest) (suc k) less =
    from_at other (suc n) rest k (omega (arith, less))
    ∙ ap (λ i. reshown_by (written_at rest k).mark (written_at rest k).value (other i))
    (let e : suc n + k ≡ n + suc k = omega arith in e)

by_mark : (mark : Mark) (value shown : Value) → mark ≡ (reshown_by mark value shown).mark
by_mark Certain value shown = refl
by_mark Unknown value shown = refl
by_mark Undecided value shown = refl

by_value : (mark : Mark) (value shown : Value)
    → certain_by mark value ≡ certain_by (reshown_by mark value shown).mark (reshown_by mark value shown).value
by_value Certain value shown = refl
by_value Unknown value shown = refl
by_value Undecided value shown = refl

by_shows : (mark : Mark) (value shown : Value) → ((reshown_by mark value shown).mark ≡ Certain → ⊥)
    → (reshown_by mark value shown).value ≡ shown
by_shows Certain value shown open_ = absurd (open_ refl)
by_shows Unknown value shown open_ = refl
by_shows Undecided value shown open_ = refl

pub reshown_there : ReshownThere
unfolding certain
reshown_there other waveform = record {
  long = from_length other 0 waveform;
  same = λ k less. record {
    mark = by_mark (written_at waveform k).mark (written_at waveform k).value (other k)
        ∙ ap (λ (x : Written). x.mark) (sym (there k less));
    certain_value = by_value (written_at waveform k).mark (written_at waveform k).value (other k)
        ∙ ap (λ (x : Written). certain_by x.mark x.value) (sym (there k less));
  };
  shows = λ k less. subst (λ (x : Written). (x.mark ≡ Certain → ⊥) → x.value ≡ other k) (sym (there k less))
      (by_shows (written_at waveform k).mark (written_at waveform k).value (other k));
}
  where
    there : (k : ℕ) → k < length waveform → written_at (reshown other waveform) k ≡ reshown_by (written_at waveform
        k).mark
        (written_at waveform k).value (other k)
    there k less = from_at other 0 waveform k less
        ∙ ap (λ i. reshown_by (written_at waveform k).mark (written_at waveform k).value (other i))
        (let e : 0 + k ≡ k = omega arith in e)
