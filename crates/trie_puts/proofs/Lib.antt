pub mod Placing
pub mod Standing
pub mod PuttingInPlace
pub mod Exchanging
