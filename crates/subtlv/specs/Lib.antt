pub mod Checks
pub mod CallLaws
