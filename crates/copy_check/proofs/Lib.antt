-- Why the heaps of the tests stay ready, and a copy may be asked of them.
mod GoodObjects
mod ReadyStill
