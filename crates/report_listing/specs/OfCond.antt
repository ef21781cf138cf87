-- Words of cert_condition that this crate passes on.
pub use Rattle.cert_condition.specs.Boundary.{certain_boundary}
pub use Rattle.cert_condition.specs.Condition.{IsCondition}
pub use Rattle.cert_condition.specs.Laws.{HasCertainBit}
pub use Rattle.cert_condition.specs.Turns.{listed_by}
pub use Rattle.cert_condition.specs.View.{ConditionView, IsConditionOf, current_list, settled_bit}
