pub mod Mementos
pub mod LinkList
pub mod Passing
pub mod Order
