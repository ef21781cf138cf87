-- The two new entries are a loose chain, which `restore` puts home.
use Rattle.std.proofs.Common.{◌<◌, ◌+◌, length, refl, arith, subst, sym, ap}
use Rattle.std.specs.Prelude.{pos}
use Rattle.sat_proof.specs.Code.{HasRoom}
use Rattle.sat_proof.specs.Status.{literal_at}
use Rattle.sat_proof.specs.Watch.{IsChained}
use Rattle.sat_proof.proofs.Stages.{stage_chained, staged_length}
use Rattle.sat_proof.proofs.watch.Watch.add.Goals as goal

pub restore-requires : goal.restore-requires
restore-requires c =
    let lt : c.args.self.now.used < length c.args.self.now.nexts.items = omega arith in
    let more : c.stage-first.new.self.used < length c.stage-first.new.self.nexts.items = omega (arith, staged_length c.args.self.now c.stage-first.new.self 0 (literal_at c.args.literals.now c.args.j) c.stage-first.ensures.staged) in
    let first : IsChained c.stage-first.new.self (c.args.self.now.used + 1) 1 =
    stage_chained c.args.self.now c.stage-first.new.self 0 0 0 (literal_at c.args.literals.now c.args.j) (c.requires.chained c.if-not-self.false) c.stage-first.ensures.staged
    (omega (arith, lt, c.args.self.now.literal_each)) lt (c.requires.room c.args.j (pos 0) c.requires.j) refl in
    let room : HasRoom (length c.stage-first.new.self.heads.items) (literal_at c.args.literals.now c.args.k) =
    subst (λ n. HasRoom n (literal_at c.args.literals.now c.args.k)) (sym (ap length c.stage-first.ensures.staged.heads)) (c.requires.room c.args.k (pos 0) c.requires.k) in
    subst (λ n. IsChained c.stage-second.new.self n 2) (sym c.stage-second.ensures.head)
    (stage_chained c.stage-first.new.self c.stage-second.new.self (c.args.self.now.used + 1) c.stage-first.result 1 (literal_at c.args.literals.now c.args.k) first c.stage-second.ensures.staged
    (omega (arith, more, c.stage-first.new.self.literal_each)) more room c.stage-first.ensures.head)
