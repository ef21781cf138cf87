-- The last clauses follow from the others.
use Rattle.std.proofs.Common.{refl}
use Rattle.wave_proved.specs.Contents.{nothing_of}
use Rattle.cert_check.proofs.Fitted.{accepted_all}
use Rattle.cert_check.proofs.Faultless.{accepts_all}
use Rattle.cert_check.proofs.check.check_cert.Goals as goal

pub returns-clause-accepted : goal.returns-clause-accepted
returns-clause-accepted c waveform accepted =
    accepts_all (nothing_of c.args.circuit c.args.replayed.now c.args.limits)
    c.args.cert waveform
    c.checked_wave.result refl accepted c.checked_wave.ensures.checked c.checked_wave.ensures.refused

pub returns-clause-only : goal.returns-clause-only
returns-clause-only c =
    accepted_all (nothing_of c.args.circuit c.args.replayed.now c.args.limits)
    c.args.cert
    c.checked_wave.result refl refl c.checked_wave.ensures.checked
