-- Header and tables, one behind the other, are the file.
--     stated_length     the length that the header states is the file's
--     whole_file        a buffer into which both were laid
-- Assumes nothing.
use Prim.Native.Nat.{ℕ, ◌^◌, ◌≤◌, ◌<◌}
use mathlib.Core.Path.{◌≡◌, sym, subst, ◌∙◌}
use mathlib.Core.List.{List, ◌++◌}
use lib.ListN.{length, get_or, drop, length-append}
use Rattle.state.specs.Site.{Site}
use Rattle.site_format.specs.Format.{tables}
use Rattle.site_encoding.specs.Encode.{field_bytes, fields_of, body_of, encode}
use Rattle.output.proofs.Buffer.{laid_front}
use Rattle.output.proofs.Placing.{Placed, placed_then}

module _ (s : Site) (l fields : List ℕ) (e : fields ≡ fields_of s l) where
  pub stated_length : get_or fields 1 0 ≡ length (encode s l)
  unfolding encode
  stated_length = rw e (sym (length-append (field_bytes (fields_of s l)) (body_of s l tables)))

  pub whole_file : (b : List ℕ) (at : ℕ) (c : List ℕ) (end : ℕ) (d : List ℕ)
      → length b < 2 ^ 64 → length (encode s l) ≤ length b
      → Placed (field_bytes fields) 0 b at c → Placed (body_of s l tables) at c end d
      → d ≡ encode s l ++ drop (length (encode s l)) b
  unfolding encode
  whole_file b at c end d known room header body =
      let header-so = subst (λ (f : List ℕ). Placed (field_bytes f) 0 b at c) e header in
      (placed_then (field_bytes (fields_of s l)) (body_of s l tables) 0 b known at c end d header-so body).1 ∙ laid_front (encode s l) b room
