-- What of hubs and their passes, and of the logs of clients, is said of a crew: for the crates above.
pub use Rattle.hmr_hub.specs.declared.pass.Hub.{Hub}
pub use Rattle.hmr_hub.specs.declared.pass.Pass.{Pass}
pub use Rattle.hmr_hub.specs.Passes.{IsPassOf, all_given, hub_mark, seen_of}
pub use Rattle.sessions.specs.declared.log.Log.{Log}
