-- The formula's text is read, and then the log's.
use Rattle.std.proofs.Common.{[], ◌∷◌, List, ℕ, subst}
use Rattle.base_run.specs.Prepared.{Prepared, answer_of}
use Rattle.base_run.proofs.Then.{read_then}
use Rattle.cmd_program.specs.Prove.{prove_values, log_phases}
use Rattle.cmd_phases.specs.Code.{text_limit}
use Rattle.cmd_phases.specs.declared.cause.Refused.TheVariants.{LongCnf}
use Rattle.cmd_program.proofs.commands.prove.ProveRun.prepare.Goals as goal

pub returns-clause-prepared : goal.returns-clause-prepared
returns-clause-prepared g c =
    let told = g.S.Shelf.told in
    let w = prove_values c.args.self.now in
    let old = g.S.Shelf.view c.args.shelf.now in
    let mid = g.S.Shelf.view c.read_input.new.shelf in
    let new = g.S.Shelf.view c.prove_cnf.new.shelf in
    let more = subst (λ (l : List ℕ). Prepared told (log_phases w l) answer_of mid new c.prove_cnf.result) c.as_slice.ensures.value c.prove_cnf.ensures in
    read_then told (w.cnf ∷ []) text_limit LongCnf (log_phases w) answer_of old mid new c.in_ok-cnf.cnf c.prove_cnf.result c.in_ok-cnf.ensures more
