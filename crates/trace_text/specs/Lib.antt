pub mod LogText
pub mod RecordText
pub mod StatusText
