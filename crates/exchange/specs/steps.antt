-- What the single steps leave: for proofs, since no public clause reads this.
pub mod Feeding
pub mod Responses
