pub mod AddingLaws
