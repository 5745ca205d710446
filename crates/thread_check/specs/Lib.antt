-- What the tests find out before they call, and what stays as they opened it.
pub mod AskedOfParts
pub mod KnownStubs
