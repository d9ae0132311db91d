-- the words of the contracts, by the name of this crate
pub use Rattle.error.specs.Limit
pub use Rattle.error.specs.Numbers
pub use Rattle.char_traits.specs.Chars
pub use Rattle.char_traits.specs.Known
pub use Rattle.utf8.specs.Checking
pub use Rattle.utf8.specs.Room
pub use Rattle.source.specs.Steps
pub use Rattle.source.specs.Starts
pub use Rattle.source.specs.Codes
pub use Rattle.input.specs.View
pub use Rattle.input.specs.Calls
pub use Rattle.input.specs.Tests
pub use Rattle.runs.specs.Runs
pub use Rattle.runs.specs.Rooms
pub use Rattle.runs.specs.Scans
