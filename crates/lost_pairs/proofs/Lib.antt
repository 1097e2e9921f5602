-- Lacking has a walk over the areas of a row for the lowest that lacks access, Losing the objects with a lost pair.
mod Lacking
mod Losing
