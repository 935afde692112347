pub mod RecordSet
