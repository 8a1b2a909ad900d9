pub mod PutInPlace
pub mod PutInside
pub mod Buckets
pub mod Exchanging
