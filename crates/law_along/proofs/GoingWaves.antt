-- A wave stays one along places whose class says what they are.
use Rattle.std.proofs.Common.{◌≡◌, ℕ, List, [], ◌∷◌, ◌++◌, append-nil, refl, subst}
use Rattle.design_circuit.specs.declared.waveform.Written.{Written}
use Rattle.design_circuit.specs.Job.{Job}
use Rattle.law_model.specs.Growth.{NextHolds, NextLines}
use Rattle.law_model.specs.declared.class.ClassByNumber.{ClassByNumber}
use Rattle.law_model.specs.declared.class.ClassByNumber.TheVariants.{Local, Free, Carried, Line}
use Rattle.law_model.proofs.WaveInvariant.{grown}
use Rattle.law_model.specs.declared.limits.Limits.{Limits}
use Rattle.wave_proved.specs.Advance.{Contradicts, GoesOn, IsPlain, more, plain_written, stays}
use Rattle.wave_proved.specs.Contents.{Contents, IsWave, class_in, job, next_number, next_seen, shown_in}
use Rattle.law_along.proofs.Fitted.{next_plain_is}

no_lines : (j : Job) (limits : Limits) (waveform : List Written) (class : ClassByNumber) → (class ≡ Line → ⊥)
    → NextLines j limits waveform [] class
no_lines j limits waveform (Local bit) plain = refl
no_lines j limits waveform Free plain = refl
no_lines j limits waveform (Carried from inverted) plain = refl
no_lines j limits waveform Line plain = absurd (plain refl)

plain_next : (c : Contents) → IsPlain (next_seen c) → (Contradicts c (plain_written c) → ⊥)
    → NextHolds (job c) c.limits (shown_in c) c.written (plain_written c) []
plain_next c plain honest = record {
  said = record {
    within = (next_plain_is c plain).0;
    lines = no_lines (job c) c.limits c.written (class_in c (next_number c)) (next_plain_is c plain).1;
    as_said = refl;
  };
  honest = honest;
}

pub goes_wave : {a b : Contents} → GoesOn a b → IsWave a → IsWave b
goes_wave stays wave = wave
goes_wave (more {c = c} goes plain agrees) wave =
    let is : IsWave c = goes_wave goes wave in
    subst (λ lines. IsWave (record c { written = c.written ++ plain_written c ∷ []; lines = lines }))
    (append-nil c.lines)
    (record {
      fits = is.fits;
      few = is.few;
      handed = is.handed;
      limited = is.limited;
      holds = grown (job c) c.limits is.fits.fits_job (shown_in c) c.written c.lines (plain_written c) [] is.holds
          (plain_next c plain agrees);
    })
