pub mod Reading
pub mod ReadingLaws
pub mod Rows
pub mod RowsLaws
pub mod Plain
