-- `record_changes::change` meets its contract.
-- Assumes nothing.
use Prim.Native.Nat.{ℕ, ◌<◌}
use mathlib.Core.Path.{◌≡◌, sym, ap, subst, ◌∙◌}
use mathlib.Core.Bool.{◌&&◌}
use mathlib.Core.List.{List}
use borrow.Author.Rules.{rules}
use borrow.Author.Tests.{ne_eqb}
use Rattle.std.specs.Prelude.{Ok, Err}
use lib.Dec.{T, ltb, ltb→lt}
use lib.ListN.{length}
use Rattle.state.specs.Site.{Site}
use Rattle.state.proofs.Bools.{and_left, and_right}
use Rattle.records.specs.Record.{record_size, bytes_of, is_record, state_of, stored}
use Rattle.records.proofs.Laws.{every_string, bytes_of_state, stored_sized, stored_other}
use Rattle.instructions.specs.Instructions.{Bytes, rule}
use Rattle.instructions.specs.Decode.{fits, Decoded, decode_of}
use Rattle.instructions.specs.declared.Instruction.{Instruction}
use Rattle.instructions.specs.declared.Target.{Target}
use Rattle.instructions.specs.declared.Rule.{Rule}
use Rattle.instructions.proofs.Laws.{fits_exactly}
use Rattle.successors.specs.Successor.{changed, successor_of}
use Rattle.record_changes.proofs.change.Goals as goal

-- bytes that fit an instruction have their numbers in range
record InRange (u a b : ℕ) (target : Target) : Type 0 where
  activator : u < 32
  first : a < 32
  second : T (fits target b)

is_in_range : (x : Bytes) (y : Instruction) (r : Rule) → decode_of x ≡ Ok y → r ≡ rule y → InRange x.activator x.a x.b r.target
is_in_range x y r e row =
    let t = ((fits_exactly x y).0 e).is_in_range in
    let user = ltb x.activator 32 in
    let area = ltb x.a 32 in
    let other = fits (rule y).target x.b in
    let both = and_left (user && area) other t in
    record {
      activator = ltb→lt x.activator 32 (and_left user area both);
      first = ltb→lt x.a 32 (and_right user area both);
      second = subst (λ (z : Rule). T (fits z.target x.b)) (sym row) (and_right (user && area) other t);
    }

-- and give what the row of that instruction says
by_row : (s : Site) (x : Bytes) (y : Instruction) (r : Rule) (bytes : List ℕ) → decode_of x ≡ Ok y → r ≡ rule y
    → bytes ≡ bytes_of (changed s r.target r.adds x.activator x.a x.b) → bytes ≡ bytes_of (successor_of s x (decode_of x))
by_row s x y r bytes e row t =
    t ∙ ap (λ (z : Rule). bytes_of (changed s z.target z.adds x.activator x.a x.b)) row
    ∙ ap (λ (d : Decoded). bytes_of (successor_of s x d)) (sym e)

-- what has the length of a record holds one, and is changed as one
laid : (b : List ℕ) {bytes : List ℕ} (t : Site) → length b ≡ record_size → bytes ≡ bytes_of t → bytes ≡ stored b t
laid b t h e = e ∙ sym (stored_sized b t h)

pub returns-then-bytes-ne-SIZE : goal.returns-then-bytes-ne-SIZE
returns-then-bytes-ne-SIZE c = sym (stored_other _ _ (ne_eqb _ _ c.if-bytes-ne-SIZE.true))

pub returns-in_default : goal.returns-in_default
returns-in_default c =
    let x = c.args.four in
    let s = state_of c.args.bytes.now in
    let a_record : T (is_record c.args.bytes.now) = every_string _ c.if-bytes-ne-SIZE.false (λ k. search rules) in
    let misfit : decode_of x ≡ Err c.in_default.field-0 = sym c.decode.ensures.equation ∙ c.in_default.is in
    laid _ (successor_of s x (decode_of x)) c.if-bytes-ne-SIZE.false
    (sym (bytes_of_state _ a_record) ∙ ap (λ (d : Decoded). bytes_of (successor_of s x d)) (sym misfit))

pub set_target-requires : goal.set_target-requires
set_target-requires c =
    let fitted : decode_of c.args.four ≡ Ok c.in-Ok.x = sym c.decode.ensures.equation ∙ c.in-Ok.is in
    let a_record : T (is_record c.args.bytes.now) = every_string _ c.if-bytes-ne-SIZE.false (λ k. search rules) in
    let ranged = is_in_range _ _ _ fitted c.rule_of.ensures in
    (a_record, ranged.activator, ranged.first, ranged.second)

pub returns-in-Ok : goal.returns-in-Ok
returns-in-Ok c =
    let x = c.args.four in
    let s = state_of c.args.bytes.now in
    let fitted : decode_of x ≡ Ok c.in-Ok.x = sym c.decode.ensures.equation ∙ c.in-Ok.is in
    laid _ (successor_of s x (decode_of x)) c.if-bytes-ne-SIZE.false (by_row s x _ _ _ fitted c.rule_of.ensures c.set_target.ensures)
