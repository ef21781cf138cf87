-- The log's text is read, and then both judged.
use Rattle.std.proofs.Common.{[], ◌∷◌, List, ℕ, subst}
use Rattle.base_run.specs.Prepared.{PreparedAlone, answer_of}
use Rattle.base_run.proofs.Then.{read_then}
use Rattle.cmd_program.specs.Prove.{prove_values, proof_phases}
use Rattle.cmd_phases.specs.Code.{text_limit}
use Rattle.cmd_phases.specs.declared.cause.Refused.TheVariants.{LongLog}
use Rattle.cmd_program.proofs.proved.prove_cnf.Goals as goal

pub returns : goal.returns
returns g c =
    let told = g.S.Shelf.told in
    let w = prove_values c.args.words.now in
    let old = g.S.Shelf.view c.args.shelf.now in
    let new = g.S.Shelf.view c.read_input.new.shelf in
    let cnf = c.args.cnf.now in
    let more = subst (λ (l : List ℕ). PreparedAlone (proof_phases cnf l) answer_of c.proved.result) c.as_slice.ensures.value c.proved.ensures in
    read_then told (w.log ∷ []) text_limit LongLog (proof_phases cnf) answer_of old new new c.in_ok-log.log c.proved.result c.in_ok-log.ensures (more told new)
