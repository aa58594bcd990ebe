mod AccountLaws
mod AimLemmas
mod AimedTargets
mod ArrivalLaws
mod BetweenLaws
mod FeedLaws
mod FilterLemmas
mod HostBytes
mod MemberLemmas
mod RefusalLaws
mod ResponseLaws
mod SendLaws
mod SentFields
mod SentFraming
pub mod SentLaws
mod SentLengths
mod TrafficLaws
mod WithinLaws
