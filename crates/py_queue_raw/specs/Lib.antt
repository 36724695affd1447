pub mod QueueRaw
