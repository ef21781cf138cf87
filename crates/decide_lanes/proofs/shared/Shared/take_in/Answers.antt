-- The union can be listed, and what is listed anew has no tables.
use Rattle.std.proofs.Common.{ap, subst, sym, ◌∙◌}
use Rattle.std.proofs.lemmas.Result.{on_ok_weaker}
use Rattle.decide_lanes.specs.Shared.{AreListable, SharedView}
use Rattle.decide_lanes.proofs.SharedTables.{union_listable}
use Rattle.decide_lanes.proofs.shared.Shared.take_in.Goals as goal

pub set-requires-clause-numbers : goal.set-requires-clause-numbers
set-requires-clause-numbers c =
    union_listable c.args.wave.now c.as_slice.result.now c.args.sources.now c.in_ok-all.all.items
    (subst (AreListable c.args.wave.now) (sym (c.as_slice.ensures.value ∙ ap (λ (v : SharedView). v.numbers) c.self.view_is))
    c.requires.list.numbers) c.requires.sources c.in_ok-all.ensures

pub returns-then-len-le-MOST-clause-keeps : goal.returns-then-len-le-MOST-clause-keeps
returns-then-len-le-MOST-clause-keeps c = on_ok_weaker c.set.result (λ right graph was. right graph) c.set.ensures.right

pub returns-in_ok-own-clause-keeps : goal.returns-in_ok-own-clause-keeps
returns-in_ok-own-clause-keeps c =
    on_ok_weaker c.set-else-len-le-MOST.result (λ right graph was. right graph) c.set-else-len-le-MOST.ensures.right
