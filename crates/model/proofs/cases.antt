pub mod Everything
pub mod Examples
pub mod Bep3Cases
