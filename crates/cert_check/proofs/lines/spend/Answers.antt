-- The place is written, or found otherwise.
use Rattle.std.proofs.Common.{◌≡◌, IfErr, sym, subst, rules}
use Rattle.std.specs.Prelude.{Err, Result}
use Rattle.wave_proved.specs.Contents.{Contents}
use Rattle.cert_check.specs.Step.{Stops}
use Rattle.cert_check.specs.Words.{stopped_by}
use Rattle.cert_check.specs.declared.refusal.CheckErr.{CheckErr}
use Rattle.cert_check.proofs.Refusing.{write_stops}
use Rattle.cert_check.proofs.lines.spend.Goals as goal

pub returns-clause-ok : goal.returns-clause-ok
returns-clause-ok c =
    record { accepts = c.requires.accepts; agrees = c.in_ok-next.ensures.agrees; is = c.in_ok-next.ensures.ok }

pub returns-in_err-next-clause-err : goal.returns-in_err-next-clause-err
returns-in_err-next-clause-err c number =
    let is : c.from_residual.result ≡ Err (stopped_by c.in_err-next.field-0.0) = search rules in
    subst (λ (r : Result Contents CheckErr). IfErr r (Stops c.args.wave number c.args.verdict)) (sym is)
    (write_stops c.args.wave c.args.verdict number c.in_err-next.field-0.0 c.requires.class c.requires.accepts
    c.in_err-next.ensures.optimistic.0 c.in_err-next.ensures.reported)
