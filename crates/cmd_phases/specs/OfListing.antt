-- Words of report_listing that this crate passes on.
pub use Rattle.report_listing.specs.Audit.{TellsAudit}
pub use Rattle.report_listing.specs.Blame.{TellsBlame}
pub use Rattle.report_listing.specs.Conditions.{IsSomeCondition, condition_line, conditions_text}
unfoldable pub use Rattle.report_listing.specs.Conditions.{needs_text}
unfoldable pub use Rattle.report_listing.specs.Conditions.{valued_text}
pub use Rattle.report_listing.specs.Fixed.{fix_text}
