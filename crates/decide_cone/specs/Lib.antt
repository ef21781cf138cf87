-- Definitions of what code finds of a cone, and of the lanes that its calls take.
pub mod Boundary
pub mod Cones
pub mod Known
pub mod Placed
pub use Rattle.decide_lanes.specs.Lanes
pub use Rattle.decide_lanes.specs.Roots
pub use Rattle.decide_lanes.specs.Shown
