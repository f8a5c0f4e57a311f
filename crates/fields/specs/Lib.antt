pub mod Stretches
pub mod StretchLaws
pub mod Shows
pub mod ShowsLaws
pub mod Cutting
pub mod ElementLaws
