pub mod Normal
pub mod Keys
pub mod Laws
