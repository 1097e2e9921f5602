-- What a reader of this crate believes: the explanation of an access answer (Explanation), the pair that explains a
-- refusal as 11 (Lost), and what is claimed of both (Claims). Laws has what the layers above use.
--     lost_pairs::first_lost     first_lost
--     explain::explain           as_explanation: explanation_of, explanation_number, explanation_bytes; explained_buffer
--     explain::explain_step      as_reason, step_reason_of; the values of a pair are lost_kind, lost_object, lost_area
pub mod Explanation
pub mod Lost
pub mod Claims
pub mod Laws
