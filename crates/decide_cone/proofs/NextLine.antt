-- The next place, where its class is Line.
use Rattle.std.proofs.Common.{◌≡◌, ◌∙◌, ℕ, Bool, true, false, Some, None, length, refl, sym, ap, subst, arith, if◌then◌else◌}
use Rattle.std.specs.Prelude.{nat_lt}
use Rattle.std.proofs.lemmas.Bool.{lt-ltb, ltb-true}
use Rattle.design_circuit.specs.Filling.{IsPlace}
use Rattle.design_circuit.specs.Fits.{Fits, place_at}
use Rattle.design_circuit.specs.Job.{Job, number_of, places_of}
use Rattle.design_circuit.specs.declared.place.Place.{Place}
use Rattle.design_circuit.proofs.Numbers.{is_place_at, number_of_place_at}
use Rattle.law_model.specs.Laws.{InReach}
use Rattle.law_model.specs.declared.class.Class.TheVariants as seen
use Rattle.law_model.specs.declared.class.ClassByNumber.{ClassByNumber}
use Rattle.law_model.specs.declared.class.ClassByNumber.TheVariants.{Local, Free, Carried, Line}
use Rattle.wave_proved.specs.Contents.{Contents, IsReached, class_in, class_or_done, job, next_number, next_place}
use Rattle.wave_proved.specs.Token.{IsLineNext}

line_by : (j : Job) (b : Bool) (class : ClassByNumber)
    → class_or_done j (if b then Some class else None) ≡ seen.Line → (b ≡ true) × (class ≡ Line)
line_by j false class is = cc
line_by j true (Local bit) is = cc
line_by j true Free is = cc
line_by j true (Carried from inverted) is = cc
line_by j true Line is = (refl, refl)

pub next_line : (c : Contents) → IsLineNext c → class_in c (next_number c) ≡ Line
next_line c is = (line_by (job c) (nat_lt (length c.written) (places_of (job c))) (class_in c (next_number c)) is).1

pub next_reach : (c : Contents) → IsLineNext c → InReach (job c) c.written (next_number c)
next_reach c is =
    let some = (line_by (job c) (nat_lt (length c.written) (places_of (job c))) (class_in c (next_number c)) is).0 in
    record { written = omega arith; within = ltb-true (length c.written) (places_of (job c)) some }

some_is : (b : Bool) (there place : Place) → Some place ≡ (if b then Some there else None) → b ≡ true → place ≡ there
some_is true there place is holds = cc
some_is false there place is holds = cc

-- It is reached, and by its number its class is Line.
pub record IsLineAt (c : Contents) (place : Place) : Type 0 where
  pub reached : IsReached c place
  pub line : class_in c (number_of (job c) place) ≡ Line

pub next_place_line : (c : Contents) → Fits (job c) → IsLineNext c → (place : Place)
    → Some place ≡ next_place (job c) c.written → IsLineAt c place
next_place_line c fits is place some = record {
  reached = record {
    within = subst (IsPlace j) (sym same) (is_place_at j n fits.ordering fits.all reach.within);
    reached = omega (arith, number);
  };
  line = ap (class_in c) number ∙ next_line c is;
}
  where
    j : Job
    j = job c

    n : ℕ
    n = length c.written

    reach : InReach j c.written n
    reach = next_reach c is

    same : place ≡ place_at j n
    same = some_is (nat_lt n (places_of j)) (place_at j n) place some (lt-ltb n (places_of j) reach.within)

    number : number_of j place ≡ n
    number = ap (number_of j) same ∙ number_of_place_at j n fits.ordering fits.all reach.within
