-- A block more is searched.
use Rattle.std.proofs.Common.{◌≡◌, ◌+◌, ◌*◌, length, arith, subst}
use Rattle.design_cell.specs.Row.{before, columns}
use Rattle.design_cell.specs.Table.{level_matches, edge_matches}
use Rattle.design_cell.specs.Index.{IsFirstBelow}
use Rattle.design_cell.proofs.Firsts.{below_less, edge_mask, edge_nowhere, level_mask, level_nowhere}
use Rattle.design_cell.proofs.index.search.Goals as goal

pub loop-j-preserved : goal.loop-j-preserved
loop-j-preserved c =
    let n = length c.args.pins.now in
    let new = columns c.args.pins.now c.args.q in
    let old = before c.args.changed new in
    let base = 64 * c.loop-j.j in
    let step : 64 * c.loop-j.j + 64 ≡ 64 * (c.loop-j.j + 1) = omega arith in
    record {
      level = λ rows is.
          let block = is.each c.loop-j.j c.loop-j-test.true in
          let mask = level_mask rows base _ block n old new c.matching-word.result (c.matching-word.ensures rows base block) in
          subst (λ k. IsFirstBelow (level_matches n old new) rows k c.first_of-level.result) step (c.first_of-level.ensures.first rows (level_matches n old new) (level_nowhere n old new) (c.loop-j.invariant.level rows is) mask);
      edge = λ rows is.
          let block = is.each c.loop-j.j c.loop-j-test.true in
          let mask = edge_mask rows base _ block n old new c.matching-word.result (c.matching-word.ensures rows base block) in
          subst (λ k. IsFirstBelow (edge_matches n old new) rows k c.first_of-edge.result) step (c.first_of-edge.ensures.first rows (edge_matches n old new) (edge_nowhere n old new) (c.loop-j.invariant.edge rows is) mask);
    }

pub returns : goal.returns
returns c =
    let n = length c.args.pins.now in
    let new = columns c.args.pins.now c.args.q in
    let old = before c.args.changed new in
    record {
      level = λ rows is. below_less (level_matches n old new) rows (64 * c.loop-j.j) (length rows) c.loop-j.level (omega (arith, is.cover)) (c.loop-j.invariant.level rows is);
      edge = λ rows is. below_less (edge_matches n old new) rows (64 * c.loop-j.j) (length rows) c.loop-j.edge (omega (arith, is.cover)) (c.loop-j.invariant.edge rows is);
    }
