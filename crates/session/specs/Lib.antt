pub mod Complete
pub mod Connection
pub mod Courses
pub mod Laws
pub mod OneCourse
pub mod Stopping
pub mod steps
