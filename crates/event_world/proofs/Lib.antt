mod Logging
mod Standing
