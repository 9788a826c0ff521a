pub mod Heavies
