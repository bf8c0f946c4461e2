pub mod MadeEncoding
pub mod MadeFalls
