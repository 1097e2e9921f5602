-- `record_changes::set_target` meets its contract: in the arms that write twice, the second goes on from the first.
-- Assumes nothing.
use Prim.Native.Nat.{ℕ, ◌<◌}
use mathlib.Core.Path.{◌≡◌, refl, sym, subst, ◌∙◌}
use mathlib.Core.Bool.{Bool, true, false}
use mathlib.Core.List.{List}
use lib.Dec.{T, ltb, ltb→lt}
use Rattle.state.specs.Site.{Site, user, area, object, with_listed, owner, definition, with_pair}
use Rattle.state.proofs.Laws.{list_shaped, relate_shaped}
use Rattle.records.specs.Record.{bytes_of, state_of}
use Rattle.records.proofs.Laws.{state_shaped}
use Rattle.instructions.specs.Decode.{fits}
use Rattle.instructions.specs.declared.Target.{Target}
use Rattle.instructions.specs.declared.Target.TheVariants.{TheArea, Owner, Definition}
use Rattle.successors.specs.Successor.{without_owner, changed}
use Rattle.record_changes.proofs.Written.{Holds, is_a_record, then_same, listed_holds}
use Rattle.record_changes.proofs.set_target.Goals as goal

-- what is written in the arm of target k, by an add or a remove
in_arm : (s : Site) {bytes : List ℕ} {target : Target} {present : Bool} (k : Target) (v : Bool) (u a b : ℕ)
    → bytes ≡ bytes_of (changed s k v u a b) → target ≡ k → present ≡ v → bytes ≡ bytes_of (changed s target present u a b)
in_arm s k v u a b t told kind = t ∙ (λ i. bytes_of (changed s (sym told i) (sym kind i) u a b))

-- in the arm of target k, b is below the limit n that the table says
below : (k : Target) (n : ℕ) {target : Target} (b : ℕ) → ((m : ℕ) → fits k m ≡ ltb m n) → target ≡ k → T (fits target b) → b < n
below k n b limit e t = ltb→lt b n (subst T (limit b) (subst (λ (x : Target). T (fits x b)) e t))

-- bytes without an owner
removed : (bytes before : List ℕ) (u a : ℕ) → bytes ≡ bytes_of (without_owner (state_of before) u a) → Holds bytes (without_owner (state_of before) u a)
removed bytes before u a e = record { shaped = list_shaped _ user u _ (relate_shaped _ owner u a false (state_shaped before)); same = e }

-- ---- the area is listed, and owned
pub relate-requires : goal.relate-requires
relate-requires c = (is_a_record _ _ (listed_holds _ _ area _ true c.list.ensures), c.requires.1, c.requires.2)

pub returns-then-present : goal.returns-then-present
returns-then-present c =
    let x = c.args.four in
    in_arm _ TheArea true _ _ _
    (then_same _ _ _ (λ (s : Site). with_pair s owner x.activator x.a true) (listed_holds _ _ area _ true c.list.ensures) c.relate.ensures)
    c.in-TheArea.is c.if-present.true

-- ---- or owned no more, and unlisted
pub list-requires-else-present : goal.list-requires-else-present
list-requires-else-present c = (is_a_record _ _ (removed _ _ _ _ c.remove_owner.ensures), c.requires.2)

pub returns-else-present : goal.returns-else-present
returns-else-present c =
    in_arm _ TheArea false _ _ _
    (then_same _ _ _ (λ (s : Site). with_listed s area c.args.four.a false) (removed _ _ _ _ c.remove_owner.ensures) c.list-else-present.ensures)
    c.in-TheArea.is c.if-present.false

-- ---- the owner is listed, and owns the area
pub relate-requires-then-present-2 : goal.relate-requires-then-present-2
relate-requires-then-present-2 c = (
  is_a_record _ _ (listed_holds _ _ user _ true c.list-then-present-2.ensures),
  below Owner 32 _ (λ m. refl) c.in-Owner.is c.requires.3,
  c.requires.2,
)

pub returns-then-present-2 : goal.returns-then-present-2
returns-then-present-2 c =
    let x = c.args.four in
    in_arm _ Owner true _ _ _
    (then_same _ _ _ (λ (s : Site). with_pair s owner x.b x.a true) (listed_holds _ _ user _ true c.list-then-present-2.ensures) c.relate-then-present-2.ensures)
    c.in-Owner.is c.if-present-2.true

-- ---- the object is listed and defined, or neither
pub relate-requires-in-Definition : goal.relate-requires-in-Definition
relate-requires-in-Definition c = (
  is_a_record _ _ (listed_holds _ _ object _ _ c.list-in-Definition.ensures),
  below Definition 64 _ (λ m. refl) c.in-Definition.is c.requires.3,
  c.requires.2,
)

pub returns-in-Definition : goal.returns-in-Definition
returns-in-Definition c =
    let x = c.args.four in
    in_arm _ Definition _ _ _ _
    (then_same _ _ _ (λ (s : Site). with_pair s definition x.b x.a c.args.rule.adds) (listed_holds _ _ object _ _ c.list-in-Definition.ensures)
    c.relate-in-Definition.ensures)
    c.in-Definition.is refl
