-- The certificate is read, then checked.
use Rattle.base_run.specs.Prepared.{answer_of}
use Rattle.base_run.proofs.Then.{prepared_then}
use Rattle.cmd_program.specs.Check.{check_values, checked_phases}
use Rattle.cmd_phases.specs.Phases.{certificate_phases, itself}
use Rattle.cmd_program.proofs.checked.check_agreed.Goals as goal

pub returns : goal.returns
returns g c =
    let told = g.S.Shelf.told in
    let w = check_values c.args.words.now in
    let old = g.S.Shelf.view c.args.shelf.now in
    let new = g.S.Shelf.view c.certificate_of.new.shelf in
    let job = c.args.agreed.now.parts in
    prepared_then told (certificate_phases w.cert) (checked_phases w job) itself answer_of old new new c.in_ok-cert.cert c.checked.result
    c.in_ok-cert.ensures (c.checked.ensures told new)
