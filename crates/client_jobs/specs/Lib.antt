pub mod ClientEnds
pub mod Clients
pub mod ClientSessions
pub mod RunningClients
