pub mod FirstTask
pub mod TaskKinds
