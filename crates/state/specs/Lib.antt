-- What a reader of this crate believes: how a set and a relation are kept (Cells), the state with its readings and
-- updates (Site), the state that a record of the code stands for (Stands: `site`, in nearly every contract, with the
-- claims NothingLost and SiteShaped), tests of all that a set or a relation holds (Walk), and what is claimed of
-- them (Laws). The claims are proved in proofs/Laws.antt, those of Stands in proofs/Stands.antt. Three files serve
-- the crates above: the list of a function's values (Tabulate), tests of the numbers below a bound (Below), and a
-- table of refusals with the first number whose condition is met (Checks, with the claim NoneMetAt, which
-- proofs/Checks.antt proves).
-- Words of the toolchain's library in all of specs/:
--     get_or l i d, set l i v      item i of a list, counted from 0, or d past its end; the list with v there
--     take n l, drop n l, l ++ m   the first n items, the others, and one list behind the other
--     eqb, ltb, leb                whether two numbers are equal, the first is less, is less or equal
--     cond c x y, T c              x if c is true and else y; that c is true
--     (i : A) × P, A ⊎ B, ⊥        there is an i with P; A or B; what never holds
-- `a && b && c` is `(a && b) && c`, and so for `||`; `x ∷ l ++ m` is `x ∷ (l ++ m)`.
pub mod Tabulate
pub mod Cells
pub mod Site
pub mod Stands
pub mod Walk
pub mod Below
pub mod Checks
pub mod Laws
