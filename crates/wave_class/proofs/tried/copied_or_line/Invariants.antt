-- The places that are left decide.
use Rattle.std.proofs.Common.{◌≡◌, drop}
use Rattle.design_circuit.specs.Circuit.{job_in}
use Rattle.design_circuit.specs.Rule.{arguments}
use Rattle.wave_class.specs.Ends.{copied_or_line}
use Rattle.wave_class.proofs.tried.copied_or_line.Given as goal

abbrev pub invariant-rest : goal.invariant-rest
invariant-rest g l =
    let asked = l.uncertain.asked.now in
    let j = job_in asked.circuit.now in
    let certain = g.E.Source.reads asked.earlier.now in
    copied_or_line j certain asked.place l.inverted (arguments j certain asked.place)
    ≡ copied_or_line j certain asked.place l.inverted (drop l.from-index l.from-items)
