pub mod Bep3Laws
pub mod Truths
pub mod MemoryLaws
pub mod Phases
pub mod Counts
pub mod WalkLaws
pub mod SortLaws
pub mod WalkLists
