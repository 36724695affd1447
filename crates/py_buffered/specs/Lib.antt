pub mod Pair
pub mod Lines
pub use Rattle.py_buffered_core.specs.Ahead
