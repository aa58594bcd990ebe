mod AnswerLaws
pub mod CountLaws
mod DateLaws
pub mod ExchangeLaws
mod FetchLaws
mod FoundLaws
mod KeepLaws
mod LookLaws
mod PassLaws
mod PayloadLaws
mod StoreLaws
mod VisitLaws
pub mod WireLaws
