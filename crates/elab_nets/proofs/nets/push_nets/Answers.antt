-- A net more.
use Rattle.std.proofs.Common.{ℕ, rules}
use Rattle.elab_nets.specs.Ranges.{bit_at}
use Rattle.elab_nets.specs.State.{name_under, first_driver}
use Rattle.elab_nets.proofs.Making.{one_more}
use Rattle.elab_nets.proofs.nets.push_nets.Goals as goal

pub bits-preserved : goal.bits-preserved
bits-preserved c = record {
  names = one_more _ _ _ (λ (bit : ℕ). name_under c.args.prefix.now c.args.net.now.name.now (bit_at c.args.net.now.range bit)) c.bits.bit c.in_ok-path.path c.in_ok-push_net.ensures.names c.bits.invariant.names (search rules);
  drivers = one_more _ _ _ (λ (bit : ℕ). first_driver c.args.prefix.now c.args.net.now.what) c.bits.bit c.first_driver.result c.in_ok-push_net.ensures.drivers c.bits.invariant.drivers c.first_driver.ensures;
  count = search rules;
  board = search rules;
}
