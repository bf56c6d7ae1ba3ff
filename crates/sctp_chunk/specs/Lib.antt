pub mod Chunk
pub mod Written
pub mod Grammar
pub mod Views
pub mod ChunkText
pub mod Covered
