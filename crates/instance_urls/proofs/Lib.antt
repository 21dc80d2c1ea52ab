pub mod Numbers
pub mod PlanTexts
pub mod UrlBytes
