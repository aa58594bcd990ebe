mod LineLaws
mod LineOrder
pub mod SortLaws
mod WalkLaws
