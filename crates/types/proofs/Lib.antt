pub mod Signed
pub mod Numbers
pub mod QueueNumbers
pub mod BlockNumbers
pub mod Bits
pub mod RefusalNumbers
