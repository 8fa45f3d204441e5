pub mod Names
pub mod MembersLemmas
pub mod Laws
pub mod ByName
pub mod Tables
pub mod Steps
