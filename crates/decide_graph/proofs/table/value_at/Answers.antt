-- A choice of bits has its number in the table.
use Rattle.std.proofs.Common.{◌≡◌, ◌∙◌, slice_index_or, arith, ap}
use Rattle.std.proofs.lemmas.List.{get_or_default}
use Rattle.design_cell.specs.declared.value.Value.TheVariants.{X}
use Rattle.law_model.specs.Mask.{mask_of, masked}
use Rattle.law_model.proofs.AssignmentNumbers.{mask_small}
use Rattle.decide_graph.proofs.table.value_at.Goals as goal

pub bounds-values-number_of : goal.bounds-values-number_of
bounds-values-number_of c =
    let small = mask_small c.args.places.now (masked c.args.kept.now c.args.number) in
    let long = c.requires.long in
    let is = c.number_of.ensures in
    omega (arith, small, long, is)

pub returns : goal.returns
returns c =
    let small = mask_small c.args.places.now (masked c.args.kept.now c.args.number) in
    let long = c.requires.long in
    let is : c.number_of.result ≡ mask_of c.args.places.now (masked c.args.kept.now c.args.number) = c.number_of.ensures in
    get_or_default c.args.values.now c.number_of.result _ X (omega (arith, small, long, is))
    ∙ ap (λ n. slice_index_or c.args.values.now n X) is
