pub mod Same
pub mod Numbers
pub mod Windows
pub mod ReadsBack
pub mod Spelled
pub mod WritesBack
pub mod Written
pub mod BooksBack
