-- Words of decide_cone that this crate passes on.
pub use Rattle.cert_condition.specs.OfCone.{AreRightOf, Cones, IsGrown, IsLookedAt, IsRightOf, certain_boundary}
pub use Rattle.cert_condition.specs.OfCone.{certain_boundary_in, is_boundary}
