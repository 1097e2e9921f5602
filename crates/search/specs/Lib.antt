-- `search::steps` promises `answer`, `Right` and `least_count`, definitions of `access`. `search::object_of` promises
-- the rows of an object, `search::reaches` and `search::reaches_alone` that the wanted areas are among the reachable
-- ones: Rounds has how that is said of rows, and Laws that it is access.
pub mod Rounds
pub mod Laws
