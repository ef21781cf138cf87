-- A Line place that is written by its line.
use Rattle.std.proofs.Common.{◌≡◌, Bool, true, false, Some, None, [], ◌∷◌, length, refl, sym, ◌∙◌, ap, subst}
use Rattle.std.proofs.Common.{if◌then◌else◌}
use Rattle.std.specs.Prelude.{nat_lt}
use Rattle.design_circuit.specs.declared.waveform.Written.{Written}
use Rattle.design_circuit.specs.Job.{Job, number_of, places_of}
use Rattle.design_circuit.specs.Waveform.{written_at}
use Rattle.design_circuit.proofs.Numbers.{number_of_place_at}
use Rattle.law_model.specs.Growth.{NextHolds, NextLines, NextSaid}
use Rattle.law_model.specs.Sound.{IsOptimistic}
use Rattle.law_model.specs.Stated.{body_at}
use Rattle.law_model.specs.Yields.{line_of, written_by}
use Rattle.law_model.specs.declared.class.Class.TheVariants as seen
use Rattle.law_model.specs.declared.class.ClassByNumber.{ClassByNumber}
use Rattle.law_model.specs.declared.class.ClassByNumber.TheVariants.{Local, Free, Carried, Line}
use Rattle.law_model.specs.declared.line.Line.{Line as ALine}
use Rattle.law_model.proofs.LinesByPlace.{body_one}
use Rattle.law_model.proofs.WaveInvariant.{yields_grown}
use Rattle.wave_proved.specs.Contents.{Contents, IsWave, class_in, class_or_done, job, next_number, shown_in}
use Rattle.wave_proved.specs.Token.{IsLineNext, LineAgrees, LineHolds, LineYields, written_by_line}

line_by : (j : Job) (b : Bool) (class : ClassByNumber)
    → class_or_done j (if b then Some class else None) ≡ seen.Line → class ≡ Line
line_by j false class is = cc
line_by j true (Local bit) is = cc
line_by j true Free is = cc
line_by j true (Carried from inverted) is = cc
line_by j true Line is = refl

-- The class of the next place by number.
pub line_class : (c : Contents) → IsLineNext c → class_in c (next_number c) ≡ Line
line_class c is = line_by (job c) (nat_lt (length c.written) (places_of (job c))) (class_in c (next_number c)) is

-- What a line says is what the next place gets.
pub line_said : (c : Contents) (x : Written) (line : ALine) → IsWave c → IsLineNext c → LineHolds c line
    → x ≡ written_by_line c line → NextSaid (job c) c.limits (shown_in c) c.written x (line ∷ [])
line_said c x line wave is holds x_is = record {
  within = holds.within;
  lines = subst (NextLines (job c) c.limits c.written (line ∷ [])) (sym class)
      (record { line = line; one = refl; place = holds.place_is; holds = holds.holds });
  as_said = x_is ∙ sym (ap (λ cl. written_by (written_at c.written) cl
      (body_at (job c) (line ∷ []) (length c.written)) (shown_in c (length c.written))) class
      ∙ ap (λ b. line_of b (shown_in c (length c.written))) (body_one (job c) line (length c.written) number));
}
  where
    class : class_in c (next_number c) ≡ Line
    class = line_class c is

    number : number_of (job c) line.place ≡ length c.written
    number = ap (number_of (job c)) holds.place_is ∙ number_of_place_at (job c) (length c.written)
        wave.fits.fits_job.ordering wave.fits.fits_job.all holds.within

pub line_next : (c : Contents) (x : Written) (line : ALine) → IsWave c → IsLineNext c → LineHolds c line
    → x ≡ written_by_line c line → LineAgrees c line
    → NextHolds (job c) c.limits (shown_in c) c.written x (line ∷ [])
line_next c x line wave is holds x_is agrees = record {
  said = line_said c x line wave is holds x_is;
  honest = subst (λ (w : Written). IsOptimistic w.mark w.value (shown_in c (length c.written)) → ⊥) (sym x_is) agrees;
}

-- Also where it contradicts the history, the lines yield the waveform with it.
pub line_yields : (c : Contents) (line : ALine) → IsWave c → IsLineNext c → LineHolds c line → LineYields c line
line_yields c line wave is holds =
    yields_grown (job c) c.limits wave.fits.fits_job (shown_in c) c.written c.lines (written_by_line c line) (line ∷ [])
    wave.holds.yields (line_said c (written_by_line c line) line wave is holds refl)
