-- Laws of decide_cone that this crate passes on.
pub use Rattle.cert_condition.proofs.LawsOfCone.{cones_go, cones_grow}
