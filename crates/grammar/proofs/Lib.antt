-- The laws of the grammar.
pub mod Numbers
pub mod Apart
pub mod Phrases
pub mod ReadNumbers
pub mod Productions
pub mod ReadMessages
pub mod ReadLists
pub mod ReadLines
pub mod Settled
pub mod Trees
pub mod Filed
pub mod Order
pub mod Taken
pub mod Entering
pub mod Examples
pub mod Refusals
pub mod Theorems
