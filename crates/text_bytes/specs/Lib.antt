pub mod Bytes
pub mod Cursors
pub mod Ends
pub mod Spans
