pub mod MadeSteps
pub mod MadeNames
pub mod MadeFormats
mod MadeExamples
