pub mod KindTables
pub mod TableRows
pub mod Searches
