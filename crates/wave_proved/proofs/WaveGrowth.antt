-- What is always true of a wave stays true as it grows.
use Rattle.std.proofs.Common.{◌≡◌, ◌<◌, Bool, true, false, Some, None, List, [], ◌∷◌, ◌++◌, length, refl, sym, subst}
use Rattle.std.proofs.Common.{if◌then◌else◌}
use Rattle.std.specs.Prelude.{nat_lt}
use Rattle.std.proofs.lemmas.Bool.{ltb-true}
use Rattle.design_circuit.specs.declared.waveform.Written.{Written}
use Rattle.design_circuit.specs.Job.{Job, places_of}
use Rattle.law_model.specs.Growth.{NextHolds, NextLines}
use Rattle.law_model.specs.declared.class.ClassByNumber.{ClassByNumber}
use Rattle.law_model.specs.declared.class.ClassByNumber.TheVariants.{Local, Free, Carried, Line}
use Rattle.law_model.specs.declared.line.Line.{Line as ALine}
use Rattle.law_model.proofs.WaveInvariant.{grown}
use Rattle.law_model.specs.declared.limits.Limits.{Limits}
use Rattle.wave_proved.specs.Advance.{Contradicts, IsPlain, plain_written}
use Rattle.wave_due.proofs.LawsOfQuiet.{copies_law, handed_law, sound_agrees}
use Rattle.wave_due.specs.OfQuiet.{CopiesAgree}
use Rattle.wave_due.specs.OfWaveBytes.{ValuesAgree}
use Rattle.wave_proved.specs.Contents.{Contents, IsWave, class_in, class_or_done, job, next_number, next_seen, shown_in}

-- It stays a wave, whichever way the next place is written.
pub wave_grown : (c : Contents) (x : Written) (new : List ALine) → IsWave c
    → NextHolds (job c) c.limits (shown_in c) c.written x new
    → IsWave (record c { written = c.written ++ x ∷ []; lines = c.lines ++ new })
wave_grown c x new is next = record {
  fits = is.fits;
  few = is.few;
  handed = is.handed;
  limited = is.limited;
  holds = grown (job c) c.limits is.fits.fits_job (shown_in c) c.written c.lines x new is.holds next;
}

-- So its certain values agree with its classes.
pub wave_agrees : (c : Contents) (x : Written) (new : List ALine) → IsWave c
    → NextHolds (job c) c.limits (shown_in c) c.written x new → ValuesAgree (job c) (c.written ++ x ∷ [])
wave_agrees c x new is next = sound_agrees (job c) c.limits (shown_in c) (c.written ++ x ∷ []) (c.lines ++ new)
    (wave_grown c x new is next).holds.sound

-- And a copy has what its argument has.
pub wave_copies : (c : Contents) (x : Written) (new : List ALine) → IsWave c
    → NextHolds (job c) c.limits (shown_in c) c.written x new → CopiesAgree (job c) (c.written ++ x ∷ [])
wave_copies c x new is next = copies_law (job c) c.limits (shown_in c) (c.written ++ x ∷ []) (c.lines ++ new)
    is.fits.fits_job (wave_grown c x new is next).holds (handed_law (job c) c.history is.fits.fits_job is.handed)

-- The same where the lists are those that a body makes.
pub wave_next : (c : Contents) (x : Written) (new : List ALine) → IsWave c
    → NextHolds (job c) c.limits (shown_in c) c.written x new → (written : List Written) (lines : List ALine)
    → written ≡ c.written ++ x ∷ [] → lines ≡ c.lines ++ new → IsWave (record c { written = written; lines = lines })
wave_next c x new is next written lines written_is lines_is =
    subst (λ w. IsWave (record c { written = w; lines = lines })) (sym written_is)
    (subst (λ l. IsWave (record c { written = c.written ++ x ∷ []; lines = l })) (sym lines_is)
    (wave_grown c x new is next))

plain_by : (j : Job) (b : Bool) (class : ClassByNumber) → IsPlain (class_or_done j (if b then Some class else None))
    → (b ≡ true) × (class ≡ Line → ⊥)
plain_by j false class plain = absurd plain
plain_by j true (Local bit) plain = (refl, λ e. cc)
plain_by j true Free plain = (refl, λ e. cc)
plain_by j true (Carried from inverted) plain = (refl, λ e. cc)
plain_by j true Line plain = absurd plain

-- Where the class of the next place says what it is, there is a next place, and no line is due.
pub plain_within : (c : Contents) → IsPlain (next_seen c) → length c.written < places_of (job c)
plain_within c plain = ltb-true (length c.written) (places_of (job c))
    (plain_by (job c) (nat_lt (length c.written) (places_of (job c))) (class_in c (next_number c)) plain).0

pub plain_class : (c : Contents) → IsPlain (next_seen c) → class_in c (next_number c) ≡ Line → ⊥
plain_class c plain =
    (plain_by (job c) (nat_lt (length c.written) (places_of (job c))) (class_in c (next_number c)) plain).1

no_lines : (j : Job) (limits : Limits) (waveform : List Written) (class : ClassByNumber) → (class ≡ Line → ⊥)
    → NextLines j limits waveform [] class
no_lines j limits waveform (Local bit) plain = refl
no_lines j limits waveform Free plain = refl
no_lines j limits waveform (Carried from inverted) plain = refl
no_lines j limits waveform Line plain = absurd (plain refl)

-- A place whose class isn't Line is written without a line.
pub plain_next : (c : Contents) → IsPlain (next_seen c) → (Contradicts c (plain_written c) → ⊥)
    → NextHolds (job c) c.limits (shown_in c) c.written (plain_written c) []
plain_next c plain honest = record {
  said = record {
    within = plain_within c plain;
    lines = no_lines (job c) c.limits c.written (class_in c (next_number c)) (plain_class c plain);
    as_said = refl;
  };
  honest = honest;
}
