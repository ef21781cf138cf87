-- The conditions of the lines so far.
use Rattle.std.proofs.Common.{take}
use Rattle.cert_condition.specs.Known.{IsRightOf}
use Rattle.cert_turns.specs.Conditions.{AreConditionsOf, settled_places}
use Rattle.cert_turns.proofs.all.conditions_of.Given as goal

abbrev pub invariant-lines : goal.invariant-lines
invariant-lines l = record {
  are : AreConditionsOf l.wave (settled_places (take l.place l.wave.lines)) l.conditions.items;
  right : IsRightOf l.wave l.tracer;
}
