pub mod Adding
pub mod Bounds
pub mod Everys
pub mod Firsts
pub mod Products
pub mod Shapes
