-- 'Try a heap against the assumptions', from document 02: the heap file, the heap that it says, the reply, what is claimed of it.
pub mod Orders
pub mod Facts
pub mod Heaps
pub mod Evaluation
pub mod Parts
pub mod Claims
pub mod Sayable
pub mod Cases
