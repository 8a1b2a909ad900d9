pub mod RemovingInPlace
