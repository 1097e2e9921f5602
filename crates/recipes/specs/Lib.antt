-- What a reader of this crate believes: what a recipe is (Recipe) and how it runs (Run). What is claimed of recipes
-- stands in crate `recipe_guarantees`. Laws has what that crate and those above use.
--     recipes::obey    as_verdict, recipe_of
pub mod Recipe
pub mod Run
pub mod Laws
