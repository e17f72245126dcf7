pub mod LineBuffers
