-- The world that stands within a world with events, passed on to the crates above.
pub use Rattle.hmr_world.specs.Standing.{StandsFor}
pub use Rattle.hmr_world.specs.declared.world.World.{World}
