pub mod LaidLaws
pub mod Laying
