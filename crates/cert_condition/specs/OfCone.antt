-- Words of decide_cone that this crate passes on.
pub use Rattle.decide_cone.specs.Boundary.{certain_boundary, certain_boundary_in, is_boundary}
pub use Rattle.decide_cone.specs.Cones.{AreRightOf}
pub use Rattle.decide_cone.specs.Known.{IsGrown}
pub use Rattle.decide_cone.specs.Lanes.{IsLookedAt, IsRightOf}
pub use Rattle.decide_cone.specs.declared.cones.Cones.{Cones}
