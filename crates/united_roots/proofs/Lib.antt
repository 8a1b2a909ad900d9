pub mod FirstDigit
pub mod OneMore
pub mod OnlyChild
pub mod Taking
