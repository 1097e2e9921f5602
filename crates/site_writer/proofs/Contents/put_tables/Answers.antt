-- `site_writer::Contents::put_tables` meets its contract. Turn k of the loop lays table k.
-- Assumes nothing.
use Prim.Native.Nat.{ℕ, ◌≤◌}
use mathlib.Core.Path.{◌≡◌, ap, subst}
use mathlib.Core.List.{List, map}
use native.Mathlib.Omega.{arith}
use lib.ListN.{get_or}
use Rattle.state.specs.Site.{Site}
use Rattle.output.proofs.Placing.{Placed, Turns, LaidTo, turns_none, turns_more, turns_all}
use Rattle.site_format.specs.Format.{Content, tables, held}
use Rattle.site_format.specs.declared.Table.{Table}
use Rattle.site_format.specs.declared.Table.TheVariants.{Labels}
use Rattle.state.specs.Stands.{site}
use Rattle.site_encoding.specs.Encode.{content_of, body_of}
use Rattle.site_writer.proofs.Left.{left, one_more, none_left}
use Rattle.site_writer.proofs.Contents.put_tables.Goals as goal

by_tables : (s : Site) (l : List ℕ) (ts : List Table) → map held ts ≡ tables → (t : Table)
    → Turns 6 (λ k. content_of s l (held (get_or ts k t))) (λ k. body_of s l (left ts k))
by_tables s l ts e t =
    record {
      more = λ k h. ap (body_of s l) (one_more ts e k t h);
      none = ap (body_of s l) (none_left ts e 6 (omega arith));
    }

-- after the last turn
all_laid : (s : Site) (l : List ℕ) (ts : List Table) → map held ts ≡ tables → (k at : ℕ) (b : List ℕ) (end : ℕ) (c : List ℕ)
    → LaidTo 6 (λ k. body_of s l (left ts k)) k at b end c → 6 ≤ k → Placed (body_of s l tables) at b end c
all_laid s l ts e k at b end c w h =
    subst (λ (cs : List Content). Placed (body_of s l cs) at b end c) e
    (turns_all _ _ _ (by_tables s l ts e Labels) k at b end c w h)

pub loop-table-init : goal.loop-table-init
loop-table-init c = turns_none _ _ _ _ c.ranges.at.fits c.well_formed.1.0.0

pub loop-table-preserved : goal.loop-table-preserved
loop-table-preserved c =
    let put = c.put_table-table_at.ensures in
    let turns = by_tables (site c.args.self.state.now) c.args.self.labels.now _ c.all-table-items.ensures _ in
    turns_more _ _ _ turns _ _ _ _ _ c.loop-table.invariant c.loop-table-test.true _ _ (put.place, put.buffer)

pub returns : goal.returns
returns c =
    let p = all_laid (site c.args.self.state.now) c.args.self.labels.now _ c.all-table-items.ensures _ _ _ _ _ c.loop-table.invariant
    c.loop-table-test.false in
    record { place = p.0; buffer = p.1 }
