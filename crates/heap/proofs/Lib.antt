pub mod NewWords
