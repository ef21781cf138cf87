-- What is said of the class of the next place.
use Rattle.std.proofs.Common.{◌≡◌, ℕ, ◌<◌, Option, Some, List, length, map, refl, ◌∙◌, arith, subst, IfSome}
use Rattle.std.proofs.lemmas.Bool.{lt-ltb}
use Rattle.std.proofs.lemmas.List.{length-map}
use Rattle.design_circuit.specs.declared.waveform.Written.{Written}
use Rattle.design_circuit.specs.Job.{Job, places_of}
use Rattle.design_circuit.specs.Waveform.{certain}
use Rattle.law_model.specs.Class.{class_of}
use Rattle.law_model.specs.declared.class.ClassByNumber.{ClassByNumber}
use Rattle.wave_bytes.specs.Byte.{written_of_byte}
use Rattle.wave_bytes.specs.View.{next_class}

-- Where there is a next place, it has a class.
some_next : (j : Job) (written : List Written) → length written < places_of j
    → next_class j written ≡ Some (class_of j (certain written) (length written))
some_next j written within = rw (lt-ltb (length written) (places_of j) within) refl

-- What is said of it, over bytes.
pub next_said : (P : ClassByNumber → Type 0) (j : Job) (bytes : List ℕ) (next : Option ClassByNumber)
    → length bytes < places_of j → next ≡ next_class j (map written_of_byte bytes) → IfSome next P
    → P (class_of j (certain (map written_of_byte bytes)) (length bytes))
next_said P j bytes next within next_is says =
    let long : length (map written_of_byte bytes) ≡ length bytes = length-map bytes written_of_byte in
    let some = some_next j (map written_of_byte bytes) (omega (arith, long, within)) in
    subst (λ n. P (class_of j (certain (map written_of_byte bytes)) n)) long
    (subst (λ found. IfSome found P) (next_is ∙ some) says)
