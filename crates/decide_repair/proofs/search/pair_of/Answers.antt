-- A model has a value for each variable of the cone, and its filling and the empty one give both bits.
use Rattle.std.proofs.Common.{◌∙◌, true, false, sym}
use Rattle.decide_repair.proofs.Searching.{model_counted, pair_next}
use Rattle.decide_repair.proofs.search.pair_of.Goals as goal

pub model_filling-requires : goal.model_filling-requires
model_filling-requires c =
    model_counted c.args.wave.now c.args.cone.now.nodes c.args.query.now c.args.model.now c.requires.cone c.requires.query
    c.requires.model

pub from_law-requires-clause-law : goal.from_law-requires-clause-law
from_law-requires-clause-law c =
    pair_next c.args.wave.now c.args.cone.now.nodes c.args.query.now c.args.model.now c.in_ok-filling.filling
    c.from_vec-empty.result true c.requires.cone c.requires.query c.requires.model c.in_ok-filling.ensures.pair
    (sym c.if-base.true ∙ c.base.ensures) (c.from_vec-empty.ensures ∙ c.new.ensures.items)

pub from_law-requires-else-base-clause-law : goal.from_law-requires-else-base-clause-law
from_law-requires-else-base-clause-law c =
    pair_next c.args.wave.now c.args.cone.now.nodes c.args.query.now c.args.model.now c.in_ok-filling.filling
    c.from_vec-empty.result false c.requires.cone c.requires.query c.requires.model c.in_ok-filling.ensures.pair
    (sym c.if-base.false ∙ c.base.ensures) (c.from_vec-empty.ensures ∙ c.new.ensures.items)
