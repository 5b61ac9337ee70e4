-- Laws about rows.
pub mod Rows
