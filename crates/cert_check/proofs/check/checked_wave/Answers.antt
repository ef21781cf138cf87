-- The numbers differ, the walk stops, or there is no memory from the start.
use Rattle.std.proofs.Common.{subst}
use Rattle.std.proofs.lemmas.Result.{IfErr-weaker}
use Rattle.wave_proved.specs.Contents.{Contents, nothing_of}
use Rattle.cert_check.specs.Checked.{line, number}
use Rattle.cert_check.specs.Walk.{IsFirstCertFault, no_memory}
use Rattle.cert_check.proofs.Going.{never}
use Rattle.cert_check.proofs.check.checked_wave.Goals as goal

pub returns-then-not-has_numbers-clause-refused : goal.returns-then-not-has_numbers-clause-refused
returns-then-not-has_numbers-clause-refused c =
    number (λ has. never c.has_numbers.result (c.has_numbers.ensures.1 has) c.if-not-has_numbers.true)

pub returns-in-Err-clause-refused : goal.returns-in-Err-clause-refused
returns-in-Err-clause-refused c = line (c.has_numbers.ensures.0 c.if-not-has_numbers.false) no_memory

pub returns-in-Ok-clause-refused : goal.returns-in-Ok-clause-refused
returns-in-Ok-clause-refused c =
    IfErr-weaker c.walk.result (IsFirstCertFault c.args.cert.form c.in-Ok.wave c.into_vec.result.items) _
    (λ e fault. line (c.has_numbers.ensures.0 c.if-not-has_numbers.false)
    (subst (λ es. IsFirstCertFault c.args.cert.form (nothing_of c.args.circuit c.args.replayed.now c.args.limits) es e) c.into_vec.ensures
    (subst (λ (a : Contents). IsFirstCertFault c.args.cert.form a c.into_vec.result.items e) c.in-Ok.ensures fault)))
    c.walk.ensures.stops
