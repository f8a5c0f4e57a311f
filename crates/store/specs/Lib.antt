pub mod Pen
pub mod PenLaws
