pub mod AsBuffered
