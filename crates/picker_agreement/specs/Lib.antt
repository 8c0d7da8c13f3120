pub mod Traces
pub mod CodeTerm3
