-- What is next where a walk waits for a line, and what helps to find cones there.
use Rattle.std.proofs.Common.{◌≡◌, ℕ, ◌<◌, ◌≤◌, Bool, true, false, Some, None, if◌then◌else◌, length, refl, sym, subst, ap, arith}
use Rattle.std.specs.Prelude.{IfOk, Result, Ok, Err, nat_lt}
use Rattle.std.proofs.lemmas.Bool.{ltb-true}
use Rattle.std.proofs.lemmas.Bool.Decides.{nat_tests}
use Rattle.cert_turns.proofs.LawsOfCone.{cones_go, cones_grow}
use Rattle.cert_turns.specs.OfCone.{AreRightOf, Cones}
use Rattle.design_circuit.specs.Job.{Job, places_of}
use Rattle.design_circuit.specs.Waveform.{certain}
use Rattle.law_model.specs.Class.{class_of, class_seen}
use Rattle.law_model.specs.declared.class.Class.TheVariants as seen
use Rattle.law_model.specs.declared.class.ClassByNumber.{ClassByNumber}
use Rattle.law_model.specs.declared.class.ClassByNumber.TheVariants.{Local, Free, Carried, Line}
use Rattle.law_model.specs.declared.line.Line.{Line as ALine}
use Rattle.wave_proved.proofs.NextLines.{line_next}
use Rattle.wave_proved.specs.Advance.{GoesOn, IsPlain}
use Rattle.wave_proved.specs.Contents.{Contents, IsFinished, IsWave, class_or_done, job, next_number, next_seen}
use Rattle.wave_proved.specs.Token.{HasNext, IsLineNext, with_line, written_by_line}
use Rattle.cert_check.specs.Step.{IsSpent}
use Rattle.cert_check.specs.declared.refusal.CheckErr.{CheckErr}

pub never : (b : Bool) → b ≡ true → b ≡ false → ⊥
never b holds fails = absurd cc

-- Where a wave has stopped and there is no next place, all are written.
none_by : (j : Job) (less : Bool) (class : ClassByNumber) → less ≡ false
    → class_or_done j (if less then Some class else None) ≡ seen.Done
none_by j true class is = cc
none_by j false class is = refl

not_less : (m n : ℕ) → n ≤ m → nat_lt m n ≡ false
not_less m n many = grind (arith, nat_tests)

pub done_next : (c : Contents) → places_of (job c) ≤ length c.written → next_seen c ≡ seen.Done
done_next c many =
    none_by (job c) (nat_lt (length c.written) (places_of (job c))) (class_of (job c) (certain c.written)
    (length c.written))
    (not_less (length c.written) (places_of (job c)) many)

pub finish_less : (c : Contents) (count all : ℕ) (j : Job) → count ≡ length c.written → all ≡ places_of j → j ≡ job c
    → (IsPlain (next_seen c) → ⊥) → count < all → IsLineNext c
finish_less c count all j count_is all_is j_is stops less =
    let same : places_of j ≡ places_of (job c) = ap places_of j_is in
    line_next c (omega (arith, less, count_is, all_is, same)) stops

pub finished_all : (c : Contents) (count all : ℕ) (j : Job) → IsWave c → count ≡ length c.written → all ≡ places_of j
    → j ≡ job c → all ≤ count → IsFinished c
finished_all c count all j wave count_is all_is j_is many =
    let same : places_of j ≡ places_of (job c) = ap places_of j_is in
    let within = wave.holds.yields.within in
    omega (arith, many, count_is, all_is, same, within)

-- What helps to find cones is right of a wave with a line more,
pub right_spent : (c : Contents) (line : ALine) (cones : Cones) (result : Result Contents CheckErr) → IsWave c
    → AreRightOf c cones → IfOk result (IsSpent c line) → IfOk result (λ d. AreRightOf d cones)
right_spent c line cones (Ok d) wave right spent =
    subst (λ (e : Contents). AreRightOf e cones) (sym spent.is)
    (cones_grow c (with_line c line) cones (written_by_line c line) wave refl refl right)
right_spent c line cones (Err e) wave right spent = tt

-- and of one that went on.
pub right_on : (a b : Contents) (cones : Cones) → IsWave a → GoesOn a b → AreRightOf a cones → AreRightOf b cones
right_on a b cones wave goes right = cones_go goes cones wave right

-- The class of the next place, as callers see it, tells whether there is one.
line_class : (j : Job) (class : ClassByNumber) → class_seen j class ≡ seen.Line → class ≡ Line
line_class j (Local bit) is = cc
line_class j Free is = cc
line_class j (Carried from inverted) is = cc
line_class j Line is = refl

not_done : (j : Job) (class : ClassByNumber) → class_seen j class ≡ seen.Done → ⊥
not_done j (Local bit) is = absurd cc
not_done j Free is = absurd cc
not_done j (Carried from inverted) is = absurd cc
not_done j Line is = absurd cc

line_found_by : (j : Job) (less : Bool) (class : ClassByNumber)
    → class_or_done j (if less then Some class else None) ≡ seen.Line
    → (less ≡ true) × (class ≡ Line)
line_found_by j true class is = (refl, line_class j class is)
line_found_by j false class is = absurd cc

done_found_by : (j : Job) (less : Bool) (class : ClassByNumber)
    → class_or_done j (if less then Some class else None) ≡ seen.Done
    → less ≡ false
done_found_by j true class is = absurd (not_done j class is)
done_found_by j false class is = refl

pub next_line_is : (c : Contents) → IsLineNext c → HasNext c × (class_of (job c) (certain c.written)
    (next_number c) ≡ Line)
next_line_is c next =
    let found = line_found_by (job c) (nat_lt (length c.written) (places_of (job c))) (class_of (job c)
    (certain c.written) (length c.written)) next in
    (ltb-true (length c.written) (places_of (job c)) found.0, found.1)

not_less_than : (m n : ℕ) → nat_lt m n ≡ false → n ≤ m
not_less_than m n is = grind (arith, nat_tests)

pub all_done : (c : Contents) → next_seen c ≡ seen.Done → places_of (job c) ≤ next_number c
all_done c is =
    not_less_than (length c.written) (places_of (job c))
    (done_found_by (job c) (nat_lt (length c.written) (places_of (job c))) (class_of (job c) (certain c.written)
    (length c.written)) is)
