pub mod RevisionDue
