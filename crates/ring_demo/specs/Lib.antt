-- The demo of a seed: its folders, and its events.
pub mod DemoEvents
pub mod DemoTree
pub mod Measures
