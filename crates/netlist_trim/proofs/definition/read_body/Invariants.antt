-- The tokens so far close nothing, and what they mention is put down.
use Rattle.std.proofs.Common.{◌≡◌, ◌++◌, length}
use Rattle.netlist_trim.specs.Shown.{seen}
use Rattle.netlist_trim.specs.Definition.{closes, from_first, mentions, up_to_first}
use Rattle.netlist_trim.proofs.definition.read_body.Given as goal

abbrev pub invariant-tokens : goal.invariant-tokens
invariant-tokens l = record {
  rest : from_first (closes (seen l.fn.opening)) l.fn.tokens.tokens ≡ from_first (closes (seen l.fn.opening)) l.tokens.tokens;
  names : l.mentions ++ mentions (seen l.before) (seen l.last) (up_to_first (closes (seen l.fn.opening)) l.tokens.tokens)
      ≡ l.fn.mentions ++ mentions (seen l.fn.opening) (seen l.fn.name) (up_to_first (closes (seen l.fn.opening)) l.fn.tokens.tokens);
  fault : l.tokens.fault ≡ l.fn.tokens.fault;
}

abbrev pub decreases-tokens : goal.decreases-tokens
decreases-tokens l = length l.tokens.tokens
