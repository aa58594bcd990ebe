mod EntriesLaws
mod StepLaws
mod StoreLaws
mod TakingLaws
