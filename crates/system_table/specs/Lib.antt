-- What contracts say of system classes.
pub mod Entry
pub mod Laws
