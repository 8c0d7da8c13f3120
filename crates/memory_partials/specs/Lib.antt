pub mod Partials
