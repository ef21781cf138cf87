-- Numbers of at most 13 bits are small.
use Rattle.std.proofs.Common.{◌-◌, length, arith}
use Rattle.decide_graph.proofs.NumberBits.{rest_few}
use Rattle.decide_graph.proofs.table.+number_of.Goals as goal

pub overflow_mul-above : goal.overflow_mul-above
overflow_mul-above g t c =
    let small = rest_few c.args.places.now (length c.args.places.now - 1) (g.B.BitSource.bits c.args.bits.now) c.requires.few in
    let is = c.number_of-above.ensures in
    omega (arith, small, is)

pub overflow_add-result : goal.overflow_add-result
overflow_add-result g t c =
    let small = rest_few c.args.places.now (length c.args.places.now - 1) (g.B.BitSource.bits c.args.bits.now) c.requires.few in
    let is = c.number_of-above.ensures in
    omega (arith, small, is)
