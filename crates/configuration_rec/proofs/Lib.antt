pub mod ConfigurationDue
