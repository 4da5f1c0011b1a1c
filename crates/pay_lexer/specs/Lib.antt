pub mod Forms
pub mod Tokens
pub mod Spelling
pub mod Lexing
pub mod LexingLaws
pub mod Lexer
