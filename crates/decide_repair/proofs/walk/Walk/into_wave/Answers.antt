-- A finished wave is the only one.
use Rattle.std.proofs.Common.{◌≡◌, subst, sym}
use Rattle.decide_repair.specs.Walk.{WalkView, left_of}
use Rattle.decide_repair.proofs.Pieces.{wave_finished}
use Rattle.decide_repair.proofs.Walking.{only_one}
use Rattle.decide_repair.proofs.walk.Walk.into_wave.Goals as goal

pub returns-clause-only : goal.returns-clause-only
returns-clause-only c =
    only_one c.self.inside.wave c.self.invariant.wave (wave_finished c.self.inside.wave c.self.invariant.wave
    (subst (λ (v : WalkView). left_of v ≡ 0) (sym c.self.view_is) c.requires))
