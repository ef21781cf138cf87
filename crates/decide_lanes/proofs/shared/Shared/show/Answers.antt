-- The sources of a place can be listed.
use Rattle.wave_proved.specs.Contents.{next_number}
use Rattle.decide_lanes.proofs.SharedTables.{sources_listable}
use Rattle.decide_lanes.proofs.shared.Shared.show.Goals as goal

pub take_in-requires-clause-sources : goal.take_in-requires-clause-sources
take_in-requires-clause-sources c =
    sources_listable c.args.wave.now (next_number c.args.wave.now) c.args.sources.now c.requires.next c.requires.sources
