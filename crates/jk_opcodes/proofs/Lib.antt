mod LoopReadsCases
mod OneReading
mod OperandsReadBack
mod PlainReadsMeaning
mod SameFormats
mod StepReadsMeaning
mod SwitchReadsMeaning
