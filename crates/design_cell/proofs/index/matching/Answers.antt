-- A column more fits.
use Rattle.std.proofs.Common.{◌∙◌, ap, arith}
use Rattle.std.proofs.lemmas.List.{get_or_default}
use Rattle.design_cell.specs.declared.value.Value.TheVariants.{Zero}
use Rattle.design_cell.specs.Row.{before, columns}
use Rattle.design_cell.specs.Index.{code}
use Rattle.design_cell.proofs.Masks.{mask_max, fit_step, fit_state}
use Rattle.design_cell.proofs.index.matching.Goals as goal

pub loop-c-init : goal.loop-c-init
loop-c-init c = λ rows base is. mask_max

pub loop-c-preserved : goal.loop-c-preserved
loop-c-preserved c = λ rows base is.
    let new = columns c.args.pins.now c.args.q in
    let old = before c.args.changed new in
    let e = get_or_default c.args.pins.now c.loop-c.c Zero c.args.q c.loop-c-test.true in
    fit_step rows base c.args.block.now is c.loop-c.c (omega (arith, c.requires.few)) old new c.loop-c.word c.code.result c.code-in-loop-c.result (c.code.ensures.code ∙ ap code (c.old_value.ensures new e)) (c.code-in-loop-c.ensures.code ∙ ap code e) (c.loop-c.invariant rows base is)

pub returns : goal.returns
returns c = λ rows base is.
    fit_state rows base c.args.block.now is c.args.changed c.args.pins.now c.args.q c.loop-c.c (omega arith) c.requires.few c.requires.pin c.loop-c.word c.code-2.result c.code-3.result c.code-2.ensures.code c.code-3.ensures.code (c.loop-c.invariant rows base is)
