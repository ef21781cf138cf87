-- One more word is that of its cell.
use Rattle.std.proofs.Common.{◌≡◌, ◌<◌, length, arith, length-set}
use Rattle.std.proofs.lemmas.List.{get_or-set_same, get_or-set_other}
use borrow.Author.Count.{below_more}
use Rattle.design_cell.proofs.index.output_words.Goals as goal

pub loop-p-preserved : goal.loop-p-preserved
loop-p-preserved c =
    let p = c.loop-p.p in
    let room : p < length c.loop-p.words = omega arith in
    record {
      room = simp length-set c.loop-p.invariant.room;
      done = below_more _ _ (λ k h. let ne : k ≡ p → ⊥ = omega arith in rw (get_or-set_other c.loop-p.words p k c.output_word.result 0 ne) (c.loop-p.invariant.done k h)) (rw (get_or-set_same c.loop-p.words p c.output_word.result 0 room) (rw (← c.value_of.ensures) c.output_word.ensures));
    }
