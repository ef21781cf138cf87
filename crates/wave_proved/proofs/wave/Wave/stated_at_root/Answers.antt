-- The lines of a wave stand in place order.
use Rattle.std.proofs.Common.{List, sym, subst}
use Rattle.design_circuit.specs.Job.{Job}
use Rattle.law_model.specs.declared.line.Line.{Line as ALine}
use Rattle.wave_proved.specs.Contents.{job}
use Rattle.wave_proved.specs.Pairs.{AreInOrder}
use Rattle.wave_proved.proofs.FoundLines.{lines_in_order}
use Rattle.wave_proved.proofs.wave.Wave.stated_at_root.Goals as goal

pub body_of-requires : goal.body_of-requires
body_of-requires c = record {
  order =
      let own = lines_in_order c.args.self.now c.requires.wave in
      subst (λ (j : Job). AreInOrder j c.lines.result.now) (sym c.circuit-circuit.ensures.job)
      (subst (λ (lines : List ALine). AreInOrder (job c.args.self.now) lines) (sym c.lines.ensures.lines) own);
}
