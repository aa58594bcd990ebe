pub mod PieceExitLaws
pub mod PieceLeadLaws
pub mod PieceReadyLaws
pub mod PieceTakenLaws
pub mod RollLaws
