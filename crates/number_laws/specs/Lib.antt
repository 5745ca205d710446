-- When frames and results fit what typing says of an instruction on numbers, and which instructions do what.
pub mod FrameLaws
pub mod KnownValues
pub mod NumberOpcodes
