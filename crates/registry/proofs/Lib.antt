pub mod NameCallLaws
