pub mod WordsInOrder
pub mod EarlierWords
pub mod Renewals
