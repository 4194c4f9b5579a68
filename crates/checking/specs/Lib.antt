pub mod Promise
pub mod Form
pub mod Follow
pub mod Made
