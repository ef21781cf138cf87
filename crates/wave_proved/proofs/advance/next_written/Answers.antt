-- A place is carried from one that is written.
use Rattle.std.proofs.Common.{◌≡◌, ◌∙◌, Some, sym, ap}
use Rattle.law_model.specs.declared.class.ClassByNumber.{ClassByNumber}
use Rattle.law_model.specs.declared.class.ClassByNumber.TheVariants.{Carried}
use Rattle.wave_proved.specs.Contents.{job}
use Rattle.wave_due.specs.OfWaveBytes.{next_class}
use Rattle.wave_proved.proofs.NextClass.{next_from}
use Rattle.wave_proved.proofs.advance.next_written.Goals as goal

pub written-requires : goal.written-requires
written-requires c =
    let wave = c.args.wave.now in
    let is : next_class (job wave) wave.written ≡ Some (Carried c.in-Some-Carried.from c.in-Some-Carried.inverted) =
    sym c.next_class.ensures.class ∙ c.in-Some-Carried.is
    ∙ ap (λ (class : ClassByNumber). Some class) c.in-Some-Carried.field-0-is in
    next_from (job wave) c.next_class.ensures.wave.fits.fits_job wave.written
    (Carried c.in-Some-Carried.from c.in-Some-Carried.inverted) is
