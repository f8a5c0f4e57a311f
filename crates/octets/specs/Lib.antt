pub mod BigEndian
pub mod BigEndianLaws
pub mod Copy
pub mod CopyLaws
pub mod Mask
pub mod MaskLaws
