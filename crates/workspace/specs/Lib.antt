-- What the code finds by a name, lines and types as arrays hold them, hashes of names.
pub mod Tabulated
pub mod Hash
pub mod Met
pub mod Cells
pub mod Found
