-- A line of a wave is of a place of the job.
use Rattle.std.proofs.Common.{◌<◌, List, length, sym, ap, ◌∙◌, subst, slice_index, slice_index_or}
use Rattle.std.specs.List.{AllByRecursion}
use Rattle.design_circuit.specs.Filling.{IsPlace}
use Rattle.design_circuit.specs.Job.{Job, number_of}
use Rattle.law_model.specs.Yields.{places_of_lines}
use Rattle.law_model.specs.declared.line.Line.{Line as ALine}
use Rattle.wave_proved.specs.Contents.{job}
use Rattle.wave_proved.specs.Pairs.{numbers_of}
use Rattle.decide_repair.proofs.WaveLines.{lines_placed}
use Rattle.wave_proved.proofs.FoundLines.{number_here, place_here}
use Rattle.decide_repair.proofs.lines.number_at.Goals as goal

pub number_of-requires : goal.number_of-requires
number_of-requires c = record {
  within =
      subst (λ (j : Job). IsPlace j (slice_index_or c.lines.result.now c.args.line c.index-lines-line.result).place)
      (sym c.circuit-circuit.ensures.job)
      (place_here (job c.args.wave.now) c.lines.result.now c.args.line c.index-lines-line.result
      (subst (λ (ls : List ALine). c.args.line < length ls) (sym c.lines.ensures.lines) c.requires)
      (subst (λ (ls : List ALine). AllByRecursion (IsPlace (job c.args.wave.now)) (places_of_lines ls))
      (sym c.lines.ensures.lines) (lines_placed c.args.wave.now c.circuit-circuit.ensures.wave).places));
}

pub returns : goal.returns
returns c =
    c.number_of.ensures.number
    ∙ ap (λ (j : Job). number_of j (slice_index_or c.lines.result.now c.args.line c.index-lines-line.result).place)
    c.circuit-circuit.ensures.job
    ∙ sym (number_here (job c.args.wave.now) c.lines.result.now c.args.line c.index-lines-line.result
    (subst (λ (ls : List ALine). c.args.line < length ls) (sym c.lines.ensures.lines) c.requires))
    ∙ ap (λ (ls : List ALine). slice_index (numbers_of (job c.args.wave.now) ls) c.args.line) c.lines.ensures.lines
