-- The public functions promise definitions of `soundness`: `is_sound` promises `is_sound` and `Sound`, `is_well_formed`
-- promises `is_well_formed`, `has_area` promises `some_listed` of the areas, `has_no_own_import` promises
-- `no_own_import` and `NoOwnImport`. Parts has what this crate's own functions ask and promise each other.
pub mod Parts
