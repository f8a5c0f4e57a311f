pub mod Registry
pub mod RegistryLaws
pub mod Names
pub mod NameCall
pub mod NamesLaws
