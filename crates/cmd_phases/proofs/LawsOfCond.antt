-- Laws of cert_condition that this crate passes on.
pub use Rattle.report_listing.proofs.LawsOfCond.{condition_holds}
