pub mod LetterOf
