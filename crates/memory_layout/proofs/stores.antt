pub mod HeadStores
pub mod PieceStores
pub mod ExtentStores
pub mod ListStores
pub mod BlockStores
pub mod ListFrames
