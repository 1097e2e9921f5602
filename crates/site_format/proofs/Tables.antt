-- Whatever holds of each table, and a test of each.
--     Each, content_of_lem      a fact of each table
--     test_of, by_test          what a test of each table says, and what it takes
--     pair_size_lem             the size of an element of the five tables of pairs
--     field_by, size_by         a field of the header, and how many bytes there are, by a table's row
--     seven, each_of_six        truth values joined from the left, as a function joins them
-- Assumes nothing.
use Prim.Native.Nat.{ℕ, zero, suc, ◌*◌}
use mathlib.Core.Path.{◌≡◌, refl, sym, ap, ap₂, ◌∙◌}
use mathlib.Core.Bool.{Bool, true, false, ◌&&◌, and-true, and_assoc}
use mathlib.Core.List.{List, [], ◌∷◌}
use lib.Dec.{T}
use Rattle.state.specs.Site.{Relation, owner, definition, structure, import, export}
use Rattle.state.proofs.Bools.{and_both, and_left, and_right}
use Rattle.pair_tables.specs.Pairs.{pair_size}
use Rattle.site_format.specs.Format.{field, Content, pairs_of, labels, Layout, layout_of, tables, each_table, size_in}

-- whatever holds of each table in the list
abbrev pub Each : (Content → Type 0) → List Content → Type 0
Each P [] = Unit
Each P (c ∷ rest) = P c × Each P rest

-- what holds of table k of the list, counted from 0
abbrev At : (Content → Type 0) → List Content → ℕ → Type 0
At P [] k = Unit
At P (c ∷ rest) zero = P c
At P (c ∷ rest) (suc k) = At P rest k

at : (P : Content → Type 0) (cs : List Content) → Each P cs → (k : ℕ) → At P cs k
at P [] e k = tt
at P (c ∷ rest) e zero = e.0
at P (c ∷ rest) e (suc k) = at P rest e.1 k

pub content_of_lem : (P : Content → Type 0) → Each P tables → (c : Content) → P c
content_of_lem P e (pairs_of owner) = at P tables e 0
content_of_lem P e (pairs_of definition) = at P tables e 1
content_of_lem P e (pairs_of structure) = at P tables e 2
content_of_lem P e (pairs_of import) = at P tables e 3
content_of_lem P e (pairs_of export) = at P tables e 4
content_of_lem P e labels = at P tables e 5

each_test : (test : Content → Bool) (cs : List Content) → T (each_table cs test) → Each (λ c. T (test c)) cs
each_test test [] t = tt
each_test test (c ∷ rest) t = (and_left (test c) (each_table rest test) t, each_test test rest (and_right (test c) (each_table rest test) t))

pub test_of : (test : Content → Bool) → T (each_table tables test) → (c : Content) → T (test c)
test_of test t = content_of_lem (λ c. T (test c)) (each_test test tables t)

pub by_test : (test : Content → Bool) (cs : List Content) → ((c : Content) → T (test c)) → T (each_table cs test)
by_test test [] f = tt
by_test test (c ∷ rest) f = and_both (test c) (each_table rest test) (f c) (by_test test rest f)

-- a table of pairs has pairs
pub pair_size_lem : (r : Relation) → (layout_of (pairs_of r)).size ≡ pair_size
pair_size_lem owner = refl
pair_size_lem definition = refl
pair_size_lem structure = refl
pair_size_lem import = refl
pair_size_lem export = refl

-- a field of the header, by where a table's row says that it stands; and how many bytes the table has
pub field_by : (file : List ℕ) (at : Layout → ℕ) {row named : Layout} {n : ℕ} → n ≡ field file (at row) → row ≡ named → n ≡ field file (at named)
field_by file at e r = e ∙ ap (λ (l : Layout). field file (at l)) r

pub size_by : (file : List ℕ) (c : Content) {row : Layout} {n : ℕ} → n ≡ field file row.count_at → row ≡ layout_of c → n * row.size ≡ size_in file c
size_by file c e r = ap₂ ◌*◌ (field_by file (λ (l : Layout). l.count_at) e r) (ap (λ (l : Layout). l.size) r)

-- seven joined from the left, joined from the right
pub seven : (a b c d e f g : Bool) → (((((a && b) && c) && d) && e) && f) && g ≡ a && (b && (c && (d && (e && (f && g)))))
seven true b c d e f g = six b c d e f g
  where
    four : (c d e f : Bool) → ((c && d) && e) && f ≡ c && (d && (e && f))
    four true d e f = and_assoc d e f
    four false d e f = refl

    five : (b c d e f : Bool) → (((b && c) && d) && e) && f ≡ b && (c && (d && (e && f)))
    five true c d e f = four c d e f
    five false c d e f = refl

    six : (b c d e f g : Bool) → ((((b && c) && d) && e) && f) && g ≡ b && (c && (d && (e && (f && g))))
    six true c d e f g = five c d e f g
    six false c d e f g = refl
seven false b c d e f g = refl

pub each_of_six : (test : Content → Bool) {a b c d e f : Bool}
    → a ≡ test (pairs_of owner) → b ≡ test (pairs_of definition) → c ≡ test (pairs_of structure) → d ≡ test (pairs_of import) → e ≡ test (pairs_of export) → f ≡ test labels
    → ((((a && b) && c) && d) && e) && f ≡ each_table tables test
each_of_six test {a} {b} {c} {d} {e} {f} p q r s t u =
    ap₂ ◌&&◌ (ap₂ ◌&&◌ (ap₂ ◌&&◌ (ap₂ ◌&&◌ (ap₂ ◌&&◌ p q) r) s) t) u
    ∙ sym (and-true _)
    ∙ seven (test (pairs_of owner)) (test (pairs_of definition)) (test (pairs_of structure)) (test (pairs_of import)) (test (pairs_of export)) (test labels) true
