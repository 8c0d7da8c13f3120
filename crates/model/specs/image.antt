pub mod WellFormed
pub mod Sound
pub mod Image
pub mod Program
