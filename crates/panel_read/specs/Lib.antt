pub mod ReadSheet
