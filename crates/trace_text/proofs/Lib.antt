mod LogLines
pub mod RecordLines
