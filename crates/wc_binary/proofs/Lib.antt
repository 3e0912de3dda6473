pub mod phrases
pub mod reading
pub mod sections
pub mod spelling
