pub mod PlainWork
