mod AskLaws
mod BlockLaws
mod DateTextLaws
pub mod FileLaws
pub mod InTurn
pub mod OneImport
mod OneReading
mod OutcomeLaws
mod RecordLaws
pub mod StorableLaws
mod TableLaws
mod ValueLaws
