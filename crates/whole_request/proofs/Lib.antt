mod Exits
mod MethodLaws
mod WholeLaws
