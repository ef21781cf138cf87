-- One more literal of the clause is listed.
use Rattle.std.proofs.Common.{◌<◌, ◌+◌, ◌∙◌, length, subst, ap, pos, arith}
use Rattle.std.proofs.lemmas.List.{length-set}
use Rattle.sat_proof.specs.Code.{code_of, HasRoom}
use Rattle.sat_proof.specs.Index.{IsLink, head_of}
use Rattle.sat_proof.specs.Status.{literal_at}
use Rattle.sat_proof.proofs.Chains.{linked}
use Rattle.sat_proof.proofs.index.Index.add.Goals as goal

pub loop-k-preserved : goal.loop-k-preserved
loop-k-preserved c =
    let left : c.loop-k.self.used < length c.loop-k.self.nexts.items = omega arith in
    let room : HasRoom (length c.args.self.now.heads.items) (literal_at c.args.literals.now c.loop-k.k) = c.requires.room c.loop-k.k (pos 0) c.loop-k-test.true in
    record {
      size = ap length c.link_at.ensures.heads ∙ length-set c.loop-k.self.heads.items (code_of (literal_at c.args.literals.now c.loop-k.k)) (c.loop-k.self.used + 1)
          ∙ c.loop-k.invariant.size;
      used = omega arith;
      nexts = ap length c.link_at.ensures.nexts ∙ length-set c.loop-k.self.nexts.items c.loop-k.self.used (head_of c.loop-k.self (code_of (literal_at c.args.literals.now c.loop-k.k)))
          ∙ c.loop-k.invariant.nexts;
      indexed = λ clauses e x. linked c.loop-k.self c.link_at.new.self clauses c.args.literals.now c.loop-k.k (c.loop-k.invariant.indexed clauses e x) c.loop-k-test.true
          (omega (arith, room.own, c.loop-k.invariant.size)) left
          (subst (IsLink c.loop-k.self c.link_at.new.self (code_of (literal_at c.args.literals.now c.loop-k.k))) e c.link_at.ensures);
    }
