pub mod Growth
pub mod StringLiterals
