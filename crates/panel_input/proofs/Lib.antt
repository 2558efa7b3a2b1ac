pub mod Turns
pub mod Pours
pub mod Printed
