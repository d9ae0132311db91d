pub mod Ring
pub mod RingLaws
pub mod Feed
pub mod Buffered
pub mod BufferedLaws
pub mod Fallible
pub mod FallibleLaws
