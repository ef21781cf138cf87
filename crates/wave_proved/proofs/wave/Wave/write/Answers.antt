-- The lines and the verdict's line yield the waveform up to this place.
use Rattle.wave_proved.proofs.LineGrowth.{line_yields}
use Rattle.wave_proved.proofs.wave.Wave.write.Goals as goal

pub returns-then-is_optimistic-clause-yields : goal.returns-then-is_optimistic-clause-yields
returns-then-is_optimistic-clause-yields c =
    line_yields c.args.self c.args.verdict c.shown_next-shown.ensures.wave c.requires.class c.requires.holds
