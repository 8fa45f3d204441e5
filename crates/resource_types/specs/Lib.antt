pub mod Objects
pub mod Spec
pub mod ItemLaws
pub mod Words
pub mod Journal
pub mod Spaces
pub mod Lookups
pub mod Manifests
