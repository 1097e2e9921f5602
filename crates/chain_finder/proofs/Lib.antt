-- Counting has the counts written for the areas of a row, Layered those that are found layer by layer. Lowest has rows whose places are those that meet
-- a test, Walking the areas of a walk, and Backwards the rows that it is found by.
mod Counting
mod Layered
mod Lowest
mod Walking
mod Backwards
