-- Laws of decide_cone that this crate passes on.
pub use Rattle.decide_cone.proofs.GrownCones.{cones_go, cones_grow}
