-- The tokens so far close nothing, and their parts are put down.
use Rattle.std.proofs.Common.{◌≡◌, ◌++◌, length}
use Rattle.netlist_trim.specs.Shown.{seen}
use Rattle.netlist_trim.specs.Definition.{closes, from_first, up_to_first}
use Rattle.netlist_stub_read.specs.Parts.{parts}
use Rattle.netlist_stub_read.specs.declared.state.State.TheVariants.{Named}
use Rattle.netlist_stub_read.proofs.module.read_body.Given as goal

abbrev pub invariant-tokens : goal.invariant-tokens
invariant-tokens l = record {
  rest : from_first (closes (seen l.fn.opening)) l.fn.tokens.tokens ≡ from_first (closes (seen l.fn.opening)) l.tokens.tokens;
  parts : l.parts ++ parts l.state (up_to_first (closes (seen l.fn.opening)) l.tokens.tokens)
      ≡ l.fn.parts ++ parts Named (up_to_first (closes (seen l.fn.opening)) l.fn.tokens.tokens);
  fault : l.tokens.fault ≡ l.fn.tokens.fault;
}

abbrev pub decreases-tokens : goal.decreases-tokens
decreases-tokens l = length l.tokens.tokens
