-- The way so far, whose places fall.
use Rattle.wave_proved.proofs.Ways.{IsWay}
use Rattle.wave_proved.proofs.wave.Wave.root.Given as goal

abbrev pub invariant-way : goal.invariant-way
invariant-way l = IsWay l.self l.number l.place l.inverted

abbrev pub decreases-way : goal.decreases-way
decreases-way l = l.place
