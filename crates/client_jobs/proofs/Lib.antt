mod Clients
mod Logs
