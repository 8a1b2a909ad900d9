pub mod RemovalInPlace
