-- A state that the row takes, or not.
use Rattle.std.proofs.Common.{◌≡◌, ◌∙◌, length, sym, arith}
use Rattle.std.proofs.lemmas.List.{get_or_default}
use Rattle.design_cell.specs.declared.value.Value.TheVariants.{Zero, X}
use Rattle.design_cell.proofs.Probes.{probe_word, parting_none}
use Rattle.design_cell.proofs.probe.Probe.parting_at.Goals as goal

pub returns-then-self-state : goal.returns-then-self-state
returns-then-self-state c = λ inputs row rows base probe is.
    let long : length c.args.self.now.outputs ≡ 3 = omega arith in
    probe_word inputs row rows base c.args.block.now c.args.self.now probe is c.args.state c.code.result _ (omega arith) c.requires c.code.ensures.small (get_or_default c.args.self.now.outputs c.args.state Zero X (omega arith)) c.code.ensures.code c.if-self-state.true

pub returns-else-self-state : goal.returns-else-self-state
returns-else-self-state c = λ inputs row rows base probe is. parting_none inputs row rows base c.args.state (sym (probe.stands c.args.state c.requires) ∙ c.if-self-state.false)
