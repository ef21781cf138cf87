-- The head of a loose chain is an entry with room in the chain of its literal.
use Rattle.std.proofs.Common.{◌≡◌, ◌∙◌, ◌-◌, arith, slice_index_or}
use Rattle.std.proofs.lemmas.Grind.{get_or_default_zero}
use Rattle.sat_proof.specs.Watch.{IsLoose}
use Rattle.sat_proof.proofs.Links.{chained_end, loose_entry, link_loose, link_heads}
use Rattle.sat_proof.proofs.watch.Watch.restore.Goals as goal

pub overflow_sub-entry : goal.overflow_sub-entry
overflow_sub-entry c =
    (loose_entry c.loop-left.self c.loop-left.at c.loop-left.left c.loop-left.invariant.chained c.loop-left-test.true).some

pub index-at-requires : goal.index-at-requires
index-at-requires c =
    let loose : IsLoose c.loop-left.self c.loop-left.at =
    loose_entry c.loop-left.self c.loop-left.at c.loop-left.left c.loop-left.invariant.chained c.loop-left-test.true in
    omega (arith, loose.below, c.loop-left.self.in_use)

pub link-requires-clause-room : goal.link-requires-clause-room
link-requires-clause-room c =
    (loose_entry c.loop-left.self c.loop-left.at c.loop-left.left c.loop-left.invariant.chained c.loop-left-test.true).room

pub link-requires-clause-count : goal.link-requires-clause-count
link-requires-clause-count c =
    (loose_entry c.loop-left.self c.loop-left.at c.loop-left.left c.loop-left.invariant.chained c.loop-left-test.true).count

pub link-requires-clause-below : goal.link-requires-clause-below
link-requires-clause-below c =
    let loose : IsLoose c.loop-left.self c.loop-left.at =
    loose_entry c.loop-left.self c.loop-left.at c.loop-left.left c.loop-left.invariant.chained c.loop-left-test.true in
    omega (arith, loose.below, c.loop-left.self.in_use)

pub loop-left-preserved : goal.loop-left-preserved
loop-left-preserved c =
    let loose : IsLoose c.loop-left.self c.loop-left.at =
    loose_entry c.loop-left.self c.loop-left.at c.loop-left.left c.loop-left.invariant.chained c.loop-left-test.true in
    let next : c.index-at.result.now ≡ slice_index_or c.loop-left.self.nexts.items (c.loop-left.at - 1) 0 =
    c.index-at.ensures ∙ get_or_default_zero c.loop-left.self.nexts.items (c.loop-left.at - 1) c.index-at.result.now (omega (arith, loose.below, c.loop-left.self.in_use)) in
    record {
      size = link_heads c.loop-left.self c.link.new.self (c.loop-left.at - 1) c.link.ensures ∙ c.loop-left.invariant.size;
      chained = link_loose c.loop-left.self c.link.new.self c.loop-left.at c.loop-left.left c.index-at.result.now
          c.loop-left.invariant.chained c.loop-left-test.true c.link.ensures next;
      literals = c.link.ensures.literals ∙ c.loop-left.invariant.literals;
      used = c.link.ensures.used ∙ c.loop-left.invariant.used;
      on = c.link.ensures.on ∙ c.loop-left.invariant.on;
    }

pub returns-clause-chained : goal.returns-clause-chained
returns-clause-chained c = chained_end c.loop-left.self c.loop-left.at c.loop-left.left (omega arith) c.loop-left.invariant.chained
