mod CutLimits
mod DecodeLaws
mod FieldLaws
pub mod HeldLaws
mod InPlaceLaws
mod MemberLaws
mod NumberLaws
mod SliceLaws
mod SplitLaws
mod SplitSteps
pub mod ToldFramings
