pub mod Copy
pub mod Two
