-- The byte says what is found of the place.
use Rattle.std.proofs.Common.{◌≡◌, ◌∙◌, length, map}
use Rattle.design_circuit.specs.Circuit.{job_in}
use Rattle.design_circuit.specs.Job.{step_of}
use Rattle.design_circuit.specs.Waveform.{certain, certain_by}
use Rattle.law_model.specs.Class.{before, is_carried_on, class_of}
use Rattle.law_model.specs.Yields.{is_line}
use Rattle.law_quiet.specs.OfClass.{is_plain, keeps_by}
use Rattle.wave_bytes.specs.Byte.{written_of_byte}
use Rattle.wave_bytes.proofs.KeptBytes.{facts_found}
use Rattle.wave_bytes.proofs.NextSaid.{next_said}
use Rattle.wave_bytes.proofs.bytes.next_byte.Goals as goal

pub returns-clause-facts : goal.returns-clause-facts
returns-clause-facts c =
    let j = job_in c.args.circuit.now in
    let bytes = c.args.rows.now.bytes in
    let n = length bytes in
    let carries = next_said (λ class. c.is_carrying_on-carries.result ≡ is_carried_on class (before j n)) j bytes
    c.args.next
    c.requires.within c.requires.next (rw c.count-place.ensures at c.is_carrying_on-carries.ensures) in
    let plain = next_said (λ class. c.is_plain_class-plain.result ≡ is_plain class) j bytes c.args.next
    c.requires.within c.requires.next c.is_plain_class-plain.ensures in
    let line = next_said (λ class. c.is_line_class-line.result ≡ is_line class) j bytes c.args.next
    c.requires.within c.requires.next c.is_line_class-line.ensures in
    let keeps : c.keeps_here-keeps.result ≡ keeps_by (step_of j n) c.value_if_certain-here.result
    (certain (map written_of_byte bytes) (before j n)) c.is_carrying_on-carries.result =
    rw c.count-place.ensures at c.keeps_here-keeps.ensures in
    c.byte_of.ensures.facts
    ∙ facts_found (step_of j n) (before j n) (class_of j (certain (map written_of_byte bytes)) n)
    (certain_by c.args.written.mark c.args.written.value) (certain (map written_of_byte bytes) (before j n))
    c.is_carrying_on-carries.result c.is_plain_class-plain.result c.is_line_class-line.result c.keeps_here-keeps.result
    carries plain line
    (rw c.value_if_certain-here.ensures at keeps)
