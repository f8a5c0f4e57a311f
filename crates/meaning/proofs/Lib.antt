pub mod AreaCallLaws
pub mod Examples
pub mod ValueLaws
