pub mod AsHandle
pub mod AsStore
pub mod Files
