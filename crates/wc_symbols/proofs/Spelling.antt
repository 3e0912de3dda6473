-- What words and strings say, by their characters.
pub mod DigitLemmas
pub mod KeywordLemmas
pub mod NameLemmas
pub mod NumberLemmas
pub mod StringLemmas
pub mod Utf8Lemmas
pub mod WordLemmas
