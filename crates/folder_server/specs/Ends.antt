-- How a server of a folder ended, and what it did and wrote: the definitions of its edits and of its report,
-- passed on to the crates above.
pub use Rattle.folder_edits.specs.declared.stop.ServeStop.{ServeStop}
pub use Rattle.folder_edits.specs.declared.stop.ServeStop.TheVariants
pub use Rattle.folder_edits.specs.Rounds.{Files}
pub use Rattle.folder_edits.specs.Serving.{Served, StopsEarly, Wrote, WroteEarly}
