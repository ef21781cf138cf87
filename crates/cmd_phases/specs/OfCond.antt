-- Words of cert_condition that this crate passes on.
pub use Rattle.report_listing.specs.OfCond.{ConditionView, HasCertainBit, IsCondition, IsConditionOf, certain_boundary}
pub use Rattle.report_listing.specs.OfCond.{current_list, listed_by, settled_bit}
