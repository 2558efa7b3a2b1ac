pub mod CubeRoot
pub mod Cubes
