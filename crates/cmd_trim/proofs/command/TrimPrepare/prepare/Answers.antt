-- The files' text is read, and then judged.
use Rattle.std.proofs.Common.{List, ℕ, subst}
use Rattle.base_run.specs.Prepared.{PreparedAlone, answer_of}
use Rattle.base_run.proofs.Then.{read_then}
use Rattle.cmd_trim.specs.Phases.{text_limit, text_phases}
use Rattle.cmd_trim.specs.Words.{trim_values}
use Rattle.cmd_trim.specs.declared.cause.Refused.TheVariants.{Long}
use Rattle.cmd_trim.proofs.command.TrimPrepare.prepare.Goals as goal

pub returns-clause-prepared : goal.returns-clause-prepared
returns-clause-prepared g c =
    let told = g.S.Shelf.told in
    let w = trim_values c.args.self.now.words in
    let old = g.S.Shelf.view c.args.shelf.now in
    let new = g.S.Shelf.view c.read_inputs.new.shelf in
    let more = subst (λ (l : List ℕ). PreparedAlone (text_phases w l) answer_of c.trimmed.result) c.as_slice.ensures.value c.trimmed.ensures in
    read_then told w.files text_limit Long (text_phases w) answer_of old new new c.in_ok-text.text c.trimmed.result c.in_ok-text.ensures (more told new)
