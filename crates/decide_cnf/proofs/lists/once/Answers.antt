-- Sorted lists without doubles are each of the lists, once.
use Rattle.std.proofs.lemmas.List.Filters.{dedup_is}
use Rattle.decide_cnf.proofs.OnceLists.{once_sorted}
use Rattle.decide_cnf.proofs.lists.once.Goals as goal

pub returns : goal.returns
returns c = once_sorted (λ v. v.items) c.args.lists.items c.sort.new.self.items c.dedup.new.self.items
    c.in_ok-sort.ensures.permutation c.in_ok-sort.ensures.sorted
    (dedup_is _ c.sort.new.self.items c.dedup.new.self.items c.dedup.ensures.filtered)
