pub mod FreedPages
pub mod KernelCalls
pub mod PrintedLines
pub mod RisingNumbers
pub mod StepsInTurn
