-- What is next where a wave doesn't go on by classes.
use Rattle.std.proofs.Common.{◌≡◌, ◌<◌, Bool, true, false, Option, Some, None, if◌then◌else◌, length, refl}
use Rattle.std.specs.Prelude.{is_some, nat_lt}
use Rattle.std.proofs.lemmas.Bool.{lt-ltb}
use Rattle.design_circuit.specs.Job.{Job, places_of}
use Rattle.design_circuit.specs.Waveform.{certain}
use Rattle.law_model.specs.Class.{class_of}
use Rattle.law_model.specs.declared.class.Class.TheVariants as seen
use Rattle.law_model.specs.declared.class.ClassByNumber.{ClassByNumber}
use Rattle.law_model.specs.declared.class.ClassByNumber.TheVariants.{Local, Free, Carried, Line}
use Rattle.wave_proved.specs.Advance.{IsPlain}
use Rattle.wave_proved.specs.Contents.{Contents, class_or_done, job, next_seen}
use Rattle.wave_proved.specs.Token.{HasNext, IsLineNext}

-- Where a wave has stopped and there is a next place, that is a Line place.
line_by : (j : Job) (found : Option ClassByNumber) → is_some found ≡ true → (IsPlain (class_or_done j found) → ⊥)
    → class_or_done j found ≡ seen.Line
line_by j None some stops = cc
line_by j (Some (Local bit)) some stops = absurd (stops tt)
line_by j (Some Free) some stops = absurd (stops tt)
line_by j (Some (Carried from inverted)) some stops = absurd (stops tt)
line_by j (Some Line) some stops = refl

there_is : (less : Bool) (class : ClassByNumber) → less ≡ true → is_some (if less then Some class else None) ≡ true
there_is true class is = refl
there_is false class is = cc

pub line_next : (c : Contents) → HasNext c → (IsPlain (next_seen c) → ⊥) → IsLineNext c
line_next c next stops =
    line_by (job c) _
    (there_is (nat_lt (length c.written) (places_of (job c))) (class_of (job c) (certain c.written) (length c.written))
    (lt-ltb (length c.written) (places_of (job c)) next)) stops
