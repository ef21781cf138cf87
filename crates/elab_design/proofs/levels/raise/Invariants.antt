-- The first modules have been asked. None has the level yet where none was raised.
use Rattle.std.proofs.Common.{◌≡◌, false}
use Rattle.elab_design.specs.Quiet.{AreRaised}
use Rattle.elab_design.proofs.levels.raise.Given as goal

abbrev pub invariant-modules : goal.invariant-modules
invariant-modules l = record {
  raised : AreRaised l.next.definitions.now l.next.level l.k l.levels.items;
  same : l.any ≡ false → l.levels.items ≡ l.fn.levels.items;
}
