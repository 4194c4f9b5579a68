-- Tools of the proofs: what the contracts between the crates cite. No promise of a public function rests on believing them.
pub mod Decides
pub mod Cells
pub mod Classes
pub mod Marks
pub mod Level
pub mod Search
pub mod Sweep
pub mod Cut
