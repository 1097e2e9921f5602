-- What a reader of this crate believes: one step of an object (Lending), chains and the least number of steps (Chain),
-- and what is claimed of the answer (Claims); Answer has the answer as a definition that can be computed. Laws has what
-- the layers above use. The functions are those of crate `search`.
pub mod Lending
pub mod Chain
pub mod Answer
pub mod Claims
pub mod Laws
