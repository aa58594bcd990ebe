pub mod NextPieces
pub mod PieceFaults
pub mod PieceOriginals
pub mod PieceParts
pub mod PieceReady
