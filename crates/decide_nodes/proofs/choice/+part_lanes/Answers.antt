-- The first argument chooses between the halves.
use Rattle.std.proofs.Common.{◌≤◌, [], arith, length, sym, ◌∙◌}
use Rattle.std.proofs.lemmas.List.{get_or_default}
use Rattle.decide_nodes.proofs.ChosenLanes.{chosen_half, halved, rest_shorter}
use Rattle.decide_nodes.proofs.choice.+part_lanes.Goals as goal

pub part_lanes-low-requires : goal.part_lanes-low-requires
part_lanes-low-requires t c =
    let some = c.in-len1-up.len_at_least in
    let b = c.requires.base in
    let less = rest_shorter c.args.arguments.now some in
    let all = c.decreases in (
      omega (arith, less, all),
      (
        omega (arith, b),
        (
          c.requires.small,
          halved c.args.arguments.now (length c.args.values.now) c.args.weight some c.requires.long,
        ),
      ),
    )

pub part_lanes-high-requires : goal.part_lanes-high-requires
part_lanes-high-requires t c =
    let some = c.in-len1-up.len_at_least in
    let b = c.requires.base in
    let less = rest_shorter c.args.arguments.now some in
    let all = c.decreases in (
      omega (arith, less, all),
      (
        omega (arith, b),
        (
          c.requires.small,
          halved c.args.arguments.now (length c.args.values.now) c.args.weight some c.requires.long,
        ),
      ),
    )

pub returns-in-len1-up : goal.returns-in-len1-up
returns-in-len1-up t c =
    let some : 1 ≤ length c.args.arguments.now = c.in-len1-up.len_at_least in
    chosen_half c.args.arguments.now c.args.values.now c.args.own c.part_lanes-low.result
    c.part_lanes-high.result c.first-item.result c.either.result c.args.base c.args.weight some
    (c.first-item.is ∙ sym (get_or_default c.args.arguments.now 0 [] c.first-item.result (omega (arith, some))))
    c.part_lanes-low.ensures c.part_lanes-high.ensures c.either.ensures
