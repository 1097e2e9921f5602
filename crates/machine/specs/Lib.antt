-- What a reader of this crate believes: the step, the list of steps and the access question (Step), over the refusals
-- of crate `refusals`, and what is claimed of them (Claims). Laws has what the layers above use. The third demand,
-- which instructions get 15, taking back, and the paper's examples are claims of crate `guarantees`.
--     machine::check    step_refusal
--     machine::step     step_of
--     machine::ask      as_reply, reply_of, reply_number, reply_value, AnswerMeans
pub mod Step
pub mod Claims
pub mod Laws
