-- Two entries that watch nothing leave each chain as it was.
use Rattle.std.proofs.Common.{◌<◌, length, refl, arith}
use Rattle.std.specs.Prelude.{pos}
use Rattle.sat_proof.proofs.Stages.{blank_chained, staged_length}
use Rattle.sat_proof.proofs.watch.Watch.skip.Goals as goal

pub returns-clause-chained : goal.returns-clause-chained
returns-clause-chained c _ =
    let lt : c.args.self.now.used < length c.args.self.now.nexts.items = omega arith in
    let more : c.blank.new.self.used < length c.blank.new.self.nexts.items = omega (arith, staged_length c.args.self.now c.blank.new.self 0 (pos 0) c.blank.ensures) in
    blank_chained c.blank.new.self c.blank-2.new.self 0 0 0 (pos 0)
    (blank_chained c.args.self.now c.blank.new.self 0 0 0 (pos 0) (c.requires.chained c.if-not-self.false) c.blank.ensures (omega (arith, lt, c.args.self.now.literal_each)) lt refl)
    c.blank-2.ensures (omega (arith, more, c.blank.new.self.literal_each)) more refl
