-- A turn is due, or the end.
use Rattle.std.proofs.Common.{[], append-nil, subst, sym}
use Rattle.std.proofs.lemmas.Result.{IfErr-weaker, IfOk-weaker}
use Rattle.cert_writer.specs.declared.cert.Form.TheVariants.{Turns}
use Rattle.cert_check.specs.Standing.{EndsShort, EndsWell, Finishes, Lacks, Waits}
use Rattle.cert_check.specs.Walk.{IsFirstCertFault}
use Rattle.cert_check.specs.declared.refusal.CertFault.TheVariants.{BadTurn}
use Rattle.cert_check.specs.declared.refusal.CheckErr.TheVariants.{Refused}
use Rattle.cert_check.proofs.Standing.{amid_there, between_there, fault_amid}
use Rattle.cert_check.proofs.walk.finish.Goals as goal

pub returns-in-Some-clause-err : goal.returns-in-Some-clause-err
returns-in-Some-clause-err c form start done stands is =
    let amid = amid_there form start done c.args.walked.course.wave c.args.walked.course.conditions.items c.args.walked.under_way
    c.in-Some.field-0 c.in-Some.is stands in
    subst (λ f. IsFirstCertFault f start done (Refused (BadTurn c.args.number))) (sym amid.0)
    (subst (λ es. IsFirstCertFault Turns start es (Refused (BadTurn c.args.number))) (append-nil done)
    (fault_amid start done [] c.args.walked.course.wave c.args.walked.course.conditions.items c.in-Some.field-0 c.args.number is
    (subst (Waits c.args.walked.course.wave) c.in-Some.is c.requires.waits) (λ l others none. absurd cc) amid.1))

pub returns-clause-ok : goal.returns-clause-ok
returns-clause-ok c =
    IfOk-weaker c.end.result (λ checked. EndsWell c.args.walked.course.wave c.args.walked.course.conditions.items checked.wave
    checked.conditions)
    (λ checked. Finishes c.args.walked checked.wave checked.conditions)
    (λ checked ends form start done stands. ends form start done
    (between_there form start done c.args.walked.course.wave c.args.walked.course.conditions.items c.args.walked.under_way
    c.in-None.is stands))
    c.end.ensures.ok

pub returns-clause-err : goal.returns-clause-err
returns-clause-err c =
    IfErr-weaker c.end.result (EndsShort c.args.walked.course.wave c.args.walked.course.conditions.items)
    (Lacks c.args.number c.args.walked)
    (λ e ends form start done stands is. ends form start done
    (between_there form start done c.args.walked.course.wave c.args.walked.course.conditions.items c.args.walked.under_way
    c.in-None.is stands))
    c.end.ensures.err
