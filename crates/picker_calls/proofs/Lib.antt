pub mod LiveLaws
pub mod AdmissionLaws
pub mod CallLaws
pub mod ListlessLaws
pub mod JudgeLaws
pub mod CoreLaws
pub mod StartingLaws
pub mod PublicLaws
