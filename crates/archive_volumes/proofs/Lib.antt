pub mod ChangeLaws
mod EntryLaws
mod ExitLaws
pub mod FactsLaws
pub mod GroupLaws
pub mod GroupPlaces
pub mod HeldLaws
pub mod KeepLaws
pub mod Places
pub mod RoomLaws
pub mod SpotLaws
pub mod StatusLaws
pub mod StoreLaws
pub mod TakenGroup
pub mod VolumeLaws
pub mod WayLaws
pub mod WrittenLaws
