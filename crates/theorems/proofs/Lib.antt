pub mod AnswersLaws
pub mod EntriesLaws
pub mod OneEntryLaws
