pub mod Digits
pub mod Formats
pub mod Utf8
mod Worked
pub mod SpelledNumbers
pub mod SpelledNames
pub mod SpelledLines
pub mod SpelledTexts
pub mod SpelledLfs
pub mod SpelledChecks
pub mod SpelledCommands
pub mod SpelledScripts
