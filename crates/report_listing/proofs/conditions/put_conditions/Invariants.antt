-- The lines so far and those that are left are all.
use Rattle.std.proofs.Common.{◌≡◌, ◌++◌, drop}
use Rattle.std.specs.List.{AllByRecursion, flat_map}
use Rattle.report_listing.specs.Conditions.{IsSomeCondition, condition_line}
use Rattle.report_listing.proofs.conditions.put_conditions.Given as goal

abbrev pub invariant-conditions : goal.invariant-conditions
invariant-conditions l = record {
  text : l.text.items ++ flat_map (condition_line l.wave) (drop l.condition-index l.conditions)
      ≡ l.fn.text.items ++ flat_map (condition_line l.wave) l.conditions;
  are : AllByRecursion (IsSomeCondition l.wave) (drop l.condition-index l.conditions);
}
