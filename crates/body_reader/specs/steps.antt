-- What only proofs read: no public clause comes to it.
pub mod ChunkPlaces
pub mod TrailerPlaces
