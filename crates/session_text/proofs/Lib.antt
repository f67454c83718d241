pub mod Counting
pub mod InRange
pub mod StepRange
pub mod Top
