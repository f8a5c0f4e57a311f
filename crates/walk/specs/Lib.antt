pub mod Rest
pub mod RestLaws
pub mod Entry
pub mod EntryLaws
pub mod NestedLaws
pub mod WalkLaws
pub mod PlainLaws
