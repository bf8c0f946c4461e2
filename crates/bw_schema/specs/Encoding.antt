pub mod NeedsEncoding
pub mod NeedsFalls
