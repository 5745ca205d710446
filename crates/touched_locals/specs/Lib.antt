-- Typings of a code in a scope, and the code of a method over the locals that it can touch.
pub mod TypingsIn
pub mod Narrowing
pub mod KeptLocals
