pub mod Kitchen
pub mod Serving
