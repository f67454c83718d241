-- Legal records on legal logs.
pub mod Belonging
