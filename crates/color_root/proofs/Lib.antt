mod Cubes
mod RootPattern
pub mod RootRange
