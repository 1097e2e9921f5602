-- What a reader of this crate believes: what each function of the C interface answers, and what it leaves in the
-- buffers (Interface), and what is claimed of them (Claims; ExplainClaims, of explanations).
pub mod Interface
pub mod Claims
pub mod ExplainClaims
