mod EventForms
mod Weights
