-- Not needed to believe a claim. Rows written into a buffer as bytes.
use Rattle.std.specs.Prelude.{ℕ, ◌*◌, List, length}
use Rattle.std.proofs.lemmas.List.Edits.{sets}
use Rattle.bits.specs.Rows.{Rows, cells_of}
use Rattle.records.specs.Record.{bytes_of_places}

-- a buffer with rows written over it, four bytes each, from `at` on
unfoldable pub laid : (buffer : List ℕ) (at : ℕ) → Rows → List ℕ
laid buffer at rows = sets buffer at (bytes_of_places (length rows * 4) (cells_of rows))
