-- `label_tables::label_fits` meets its contract: the text and its filler are the bytes behind the first two.
-- Assumes nothing.
use Prim.Native.Nat.{ℕ, ◌+◌, ◌-◌}
use mathlib.Core.Path.{◌≡◌, ap, ◌∙◌}
use mathlib.Core.Bool.{Bool, ◌&&◌}
use mathlib.Core.List.{List}
use native.Mathlib.Omega.{arith}
use lib.Dec.{ltb, leb}
use lib.ListN.{length, get_or, take, drop, length-take, length-drop}
use lib.Seq.{get_or-take, get_or-drop}
use Rattle.state.specs.Below.{each_below}
use Rattle.label_tables.specs.Labels.{byte_fits}
use Rattle.label_tables.specs.Texts.{text_fits}
use Rattle.label_tables.proofs.Entries.{each_same}
use Rattle.label_tables.proofs.label_fits.Goals as goal

behind_two : (e : List ℕ) (size : ℕ) → length e ≡ 32 → let text = take (length e - 2) (drop 2 e) in
    each_below (length text) (text_fits text size) ≡ each_below 30 (λ i. byte_fits size i (get_or e (2 + i) 0))
behind_two e size whole =
    let text = take (length e - 2) (drop 2 e) in
    let long : length text ≡ 30 = omega (arith, length-take (length e - 2) (drop 2 e), length-drop 2 e) in
    ap (λ (n : ℕ). each_below n (text_fits text size)) long
    ∙ each_same 30 _ _ (λ i h. ap (byte_fits size i) (get_or-take (length e - 2) (drop 2 e) i 0 (omega arith) ∙ get_or-drop 2 e i 0))

pub returns : goal.returns
returns c =
    let e = c.args.entry.now in
    let size = get_or e 1 0 in
    ap (λ (b : Bool). ltb (get_or e 0 0) 32 && leb 1 size && leb size 30 && b) (c.text_fits.ensures ∙ behind_two e size c.requires)
