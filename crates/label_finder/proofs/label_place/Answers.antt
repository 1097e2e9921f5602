-- `label_finder::label_place` meets its contract: an entry of the area in the block of an accepted file is its label's.
-- Assumes nothing.
use Rattle.std.proofs.Common.{ℕ, ◌+◌, ◌*◌, Some, None}
use mathlib.Core.Path.{◌≡◌, sym, ap, ap₂, ◌∙◌}
use mathlib.Core.Bool.{Bool, true, cond}
use mathlib.Core.List.{List}
use native.Mathlib.Omega.{arith}
use borrow.Author.Tests.{eqb-true, ltb-true}
use lib.Dec.{T, eqb, ltb}
use Rattle.label_tables.specs.Labels.{label_count, label_length, label_index, label_found}
use Rattle.site_format.specs.Format.{labels, part}
use Rattle.site_file.specs.Reading.{file_refusal}
use Rattle.label_finder.specs.Finder.{has_label, text_at, text_length, place_of, block_place, found_block}
use Rattle.label_finder.specs.declared.Place.{Place}
use Rattle.state.proofs.Bools.{is_true}
use Rattle.label_finder.proofs.Laws.{label_small, block_found}
use Rattle.label_finder.proofs.Texts.{found, labelled, same_place, found_some}
use Rattle.label_finder.proofs.label_place.Goals as goal

-- what is read of the entry is what is said of the label
record Read (file : List ℕ) (a : ℕ) (block : Place) (table : List ℕ) (k : ℕ) : Type 0 where
  has : T (has_label file a)
  starts : block.at + (k * 32 + 2) ≡ text_at file a
  long : label_length table k ≡ text_length file a

read : (file : List ℕ) (a : ℕ) {block : Place} {table : List ℕ} {k : ℕ} → Some block ≡ found_block file → table ≡ part file labels
    → Some k ≡ label_found table a → Read file a block table k
read file a {block} {table} {k} b t i =
    record {
      has = has;
      starts =
          ap₂ (λ (m n : ℕ). m + (n * 32 + 2)) (ap (λ (p : Place). p.at) p.1 ∙ (block_found file accepted).0) same
          ∙ sym (found file a has).0;
      long = ap₂ label_length t same ∙ sym (found file a has).1;
    }
  where
    p : (eqb (file_refusal file) 0 ≡ true) × (block ≡ block_place file)
    p = found_some _ block (block_place file) b

    q : (ltb (label_index (part file labels) a) (label_count (part file labels)) ≡ true) × (k ≡ label_index (part file labels) a)
    q = found_some _ k _ (i ∙ ap (λ (l : List ℕ). label_found l a) t)

    accepted : file_refusal file ≡ 0
    accepted = eqb-true (file_refusal file) 0 p.0

    same : k ≡ label_index (part file labels) a
    same = q.1

    has : T (has_label file a)
    has = labelled file a accepted (ltb-true _ _ q.0)

pub overflow_cast-at-2 : goal.overflow_cast-at-2
overflow_cast-at-2 c =
    let file = c.args.file.now in
    let r = read file c.args.area c.in_ok-block.ensures c.part-table.ensures c.in_ok-k.ensures in
    omega (arith, r.starts, label_small file (λ i. (c.type_inv.file i).fits) c.args.area)

pub returns : goal.returns
returns c =
    let file = c.args.file.now in
    let a = c.args.area in
    let r = read file a c.in_ok-block.ensures c.part-table.ensures c.in_ok-k.ensures in
    ap Some (same_place r.starts r.long)
    ∙ sym (ap (λ (b : Bool). cond b (Some (place_of file a)) None) (is_true (has_label file a) r.has))
