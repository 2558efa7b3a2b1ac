pub mod Raw
pub mod At
