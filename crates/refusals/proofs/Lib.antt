-- What code that checks or makes entries shares.
pub mod Bytes
