-- The claims of specs/Claims.antt, each proved under its name, and what it says of one table that it is placed.
-- Assumes nothing.
use Prim.Native.Nat.{ℕ, ◌+◌, ◌≤◌}
use mathlib.Core.Path.{◌≡◌, sym, ap, ap₂, ◌∙◌}
use mathlib.Core.List.{List, [], ◌∷◌, ◌++◌}
use native.Mathlib.Omega.{arith}
use lib.Dec.{T, eqb, eqb→eq}
use lib.ListN.{length, take, drop, length-take, length-drop, take-append-drop}
use lib.Seq.{drop-length, drop-drop}
use Rattle.state.proofs.Bools.{and_left, and_right}
use Rattle.site_format.specs.Format.{header_size, Content, tables, offset_in, size_in, part}
use Rattle.site_header.specs.Header.{placed_from}
use Rattle.site_header.specs.Claims
use Rattle.site_header.specs.Claims.{joined}
use Rattle.site_format.proofs.Tables.{Each, content_of_lem}

module _ (file : List ℕ) where
  pub at_offset : (c : Content) (rest : List Content) (at : ℕ) → T (placed_from file (c ∷ rest) at) → offset_in file c ≡ at
  at_offset c rest at t = eqb→eq (offset_in file c) at (and_left (eqb (offset_in file c) at) (placed_from file rest (at + size_in file c)) t)

  pub behind_it : (c : Content) (rest : List Content) (at : ℕ) → T (placed_from file (c ∷ rest) at) → T (placed_from file rest (at + size_in file c))
  behind_it c rest at t = and_right (eqb (offset_in file c) at) (placed_from file rest (at + size_in file c)) t

  inside : (cs : List Content) (at : ℕ) → T (placed_from file cs at) → at ≤ length file
  inside [] at t = let e : at ≡ length file = eqb→eq at (length file) t in omega arith
  inside (c ∷ rest) at t = let h : at + size_in file c ≤ length file = inside rest (at + size_in file c) (behind_it c rest at t) in omega arith

  -- each table has as many bytes as are stated
  all_sized : (cs : List Content) (at : ℕ) → T (placed_from file cs at) → Each (λ c. length (part file c) ≡ size_in file c) cs
  all_sized [] at t = tt
  all_sized (c ∷ rest) at t = (size, all_sized rest (at + size_in file c) (behind_it c rest at t))
    where
      size : length (part file c) ≡ size_in file c
      size =
          let e = at_offset c rest at t in
          let h : at + size_in file c ≤ length file = inside rest (at + size_in file c) (behind_it c rest at t) in
          length-take (size_in file c) (drop (offset_in file c) file)
          ∙ rw (length-drop (offset_in file c) file, e) (omega arith)

  -- each table stands behind the header, and ends within the file
  abbrev pub Lies : Content → Type 0
  Lies c = (header_size ≤ offset_in file c) × (offset_in file c + size_in file c ≤ length file)

  all_lie : (cs : List Content) (at : ℕ) → header_size ≤ at → T (placed_from file cs at) → Each Lies cs
  all_lie [] at h t = tt
  all_lie (c ∷ rest) at h t =
      let e : offset_in file c ≡ at = at_offset c rest at t in
      let ends : at + size_in file c ≤ length file = inside rest (at + size_in file c) (behind_it c rest at t) in
      ((omega arith, omega arith), all_lie rest (at + size_in file c) (omega arith) (behind_it c rest at t))

  rest_joined : (cs : List Content) (at : ℕ) → T (placed_from file cs at) → drop at file ≡ joined file cs
  rest_joined [] at t = ap (λ (n : ℕ). drop n file) (eqb→eq at (length file) t) ∙ drop-length file
  rest_joined (c ∷ rest) at t =
      sym (take-append-drop (size_in file c) (drop at file))
      ∙ ap₂ ◌++◌ (ap (λ (n : ℕ). take (size_in file c) (drop n file)) (sym (at_offset c rest at t)))
      (drop-drop (size_in file c) at file ∙ rest_joined rest (at + size_in file c) (behind_it c rest at t))

pub no_gap : Claims.NoGap
no_gap file t = rest_joined file tables header_size t

pub part_size : Claims.PartSize
part_size file t = content_of_lem (λ c. length (part file c) ≡ size_in file c) (all_sized file tables header_size t)

pub part_lies : (file : List ℕ) → T (placed_from file tables header_size) → (c : Content) → Lies file c
part_lies file t = content_of_lem (Lies file) (all_lie file tables header_size (omega arith) t)
