-- Refusals exactly when, what each call answers, and that the promises say the words of the rules.
pub mod Exactly
pub mod Answers
pub mod Granted
pub mod Holding
pub mod Unique
pub mod Words
