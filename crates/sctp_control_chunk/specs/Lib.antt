pub mod Views
pub mod InitFront
pub mod ChunkView
