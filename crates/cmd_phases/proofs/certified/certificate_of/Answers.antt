-- The certificate is read, then judged.
use Rattle.std.proofs.Common.{ℕ, List, [], ◌∷◌, subst}
use Rattle.base_run.specs.Phases.{judges}
use Rattle.base_run.specs.Prepared.{Judged}
use Rattle.base_run.proofs.Then.{judged_prepared, read_then}
use Rattle.cmd_phases.specs.Certificate.{CertificateComes}
use Rattle.cmd_phases.specs.Code.{text_limit}
use Rattle.cmd_phases.specs.Phases.{itself, uncertified_cause}
use Rattle.cmd_phases.specs.declared.cause.Refused.TheVariants.{LongCertificate}
use Rattle.cmd_phases.proofs.certified.certificate_of.Goals as goal

pub returns : goal.returns
returns g c =
    let told = g.S.Shelf.told in
    let old = g.S.Shelf.view c.args.shelf.now in
    let new = g.S.Shelf.view c.read_input.new.shelf in
    let text = c.in_ok-text.text in
    let judged = subst (λ (l : List ℕ). Judged (CertificateComes l) uncertified_cause itself c.certificate_in.result) c.as_slice.ensures.value c.certificate_in.ensures in
    read_then told (c.args.name.now ∷ []) text_limit LongCertificate (λ (l : List ℕ). judges (CertificateComes l) uncertified_cause) itself old new new
    text c.certificate_in.result c.in_ok-text.ensures
    (judged_prepared told (CertificateComes text.items) uncertified_cause itself new c.certificate_in.result judged)
