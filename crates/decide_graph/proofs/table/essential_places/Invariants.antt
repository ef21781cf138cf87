-- The essential ones of the arguments so far.
use Rattle.std.proofs.Common.{◌≡◌, filter, take}
use Rattle.design_circuit.specs.Waveform.{certain}
use Rattle.law_model.specs.Cone.{is_essential}
use Rattle.decide_nodes.specs.OfWave.{job}
use Rattle.decide_graph.proofs.table.essential_places.Given as goal

abbrev pub invariant-bits : goal.invariant-bits
invariant-bits l =
    l.essential ≡ filter (is_essential (job l.wave) (certain l.wave.written) l.place) (take l.bit l.uncertain)
