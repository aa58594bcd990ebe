mod BodyLaws
mod ChunkFronts
pub mod DecisionLaws
mod Exits
mod FramingLaws
pub mod FrontParts
mod HeldLaws
pub mod LineFronts
pub mod OneArrival
pub mod OneBody
pub mod OneFirst
pub mod OneHead
mod RequestLaws
pub mod RespondLaws
mod ResponseLaws
mod SectionFronts
mod StandingLaws
