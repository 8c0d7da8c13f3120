pub mod PassLaws
pub mod SeedLaws
