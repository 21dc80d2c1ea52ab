pub mod Recordable
