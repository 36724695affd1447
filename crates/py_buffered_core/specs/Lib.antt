pub mod Buffered
pub use Rattle.py_engine.specs.Ahead
