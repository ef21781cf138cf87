-- The loop of `triples`.
use Rattle.std.proofs.Common.{◌≡◌, ◌<◌, ◌≤◌, ℕ}
use Rattle.std.specs.Int.{bit_at}
use Rattle.design_cell.specs.Index.{flag}
use Rattle.design_cell.specs.Digits.{digit, triple}
use Rattle.design_cell.proofs.taken.triples.Given as goal

abbrev pub invariant-loop-number : goal.invariant-loop-number
invariant-loop-number l = record {
  numbers : (b : ℕ) → b < l.number → bit_at l.word b ≡ flag (triple (digit l.digits) l.c b);
  no_other : (b : ℕ) → l.number ≤ b → bit_at l.word b ≡ 0;
}
