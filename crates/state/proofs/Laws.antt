-- The claims of specs/Laws.antt, each proved under its name. Every law of a relation is a law of its cells (Cells.antt), at whichever relation.
-- Assumes nothing.
use Prim.Native.Nat.{ℕ, zero, suc, ◌+◌, ◌*◌, ◌≤◌, ◌<◌, ◌/◌, ◌%◌}
use mathlib.Core.Path.{◌≡◌, refl, sym, ap, subst, ◌∙◌}
use mathlib.Core.Logic.{◌⊎◌, inl, inr, ⊎_elim, ◌↔◌}
use mathlib.Core.Bool.{Bool, true, false, cond, not}
use mathlib.Core.List.{List}
use native.Mathlib.Omega.{arith}
use native.Mathlib.Decide.{dec_lt}
use borrow.Author.Tests.{eq-eqb, ne_eqb, eqb-true}
use lib.Dec.{T, eqb}
use lib.ListN.{length, get_or}
use lib.Seq.{ext_get_or}
use Rattle.state.specs.Cells.{Pairs, width, member, mark, pair, put}
use Rattle.state.specs.Walk.{some_member, some_pair, count}
use Rattle.state.specs.Site.{Kind, user, area, object, limit, members, kind_number, listed, after_mark, with_listed, Relation, owner, definition, structure, import, export, first_kind, cells, related, relation_number, after_put, with_pair, empty, founding}
use Rattle.state.specs.Laws
use Rattle.state.specs.Site.{Site}
use Rattle.state.proofs.Bools.{is_true, holds, fails, not_so, so_not, not_not}
use Rattle.state.proofs.Walk.{some_found, some_there, count_within}
use Rattle.state.proofs.Cells.{member_outside, mark_outside, length_mark, member_same, member_other, member_else, member_kept, member_removed, member_ext, mark_back, mark_as_is, pair_inside, pair_outside, pair_beyond, put_inside, put_outside, put_past, length_put, put_back, pair_same, pair_other, pair_has_cell, same_or_other, pair_kept, pair_removed, no_member, no_pair, only_zero, only_zeros}

-- ---- one of several is written
-- Things of K are told apart by a number. One of them, k, is written; this is what each, l, is afterwards.
module _ {K : Type 0} (number : K → ℕ) (named : ℕ → K) (back : (k : K) → named (number k) ≡ k) where
  same_name : (l k : K) → number l ≡ number k → l ≡ k
  same_name l k e = sym (back l) ∙ ap named e ∙ back k

  written : (k : K) (new old : List Bool) → cond (eqb (number k) (number k)) new old ≡ new
  written k new old = ap (λ (b : Bool). cond b new old) (eq-eqb (number k) (number k) refl)

  untouched : (l k : K) (new old : List Bool) → (l ≡ k → ⊥) → cond (eqb (number l) (number k)) new old ≡ old
  untouched l k new old ne = ap (λ (b : Bool). cond b new old) (ne_eqb (number l) (number k) (λ e. ne (same_name l k e)))

  -- whatever holds of what is written and of what was there holds afterwards
  either : (P : List Bool → Type 0) (l k : K) (new old : List Bool) → (l ≡ k → P new) → P old → P (cond (eqb (number l) (number k)) new old)
  either P l k new old p q = go (eqb (number l) (number k)) refl
    where
      go : (b : Bool) → eqb (number l) (number k) ≡ b → P (cond b new old)
      go true e = p (same_name l k (eqb-true (number l) (number k) e))
      go false e = q

  -- what is written (f) and then written back (g) is as it was, and what is not written too
  written_back : (l k : K) (f g : List Bool → List Bool) (old : List Bool) → (l ≡ k → g (f old) ≡ old)
      → cond (eqb (number l) (number k)) (g (cond (eqb (number l) (number k)) (f old) old)) (cond (eqb (number l) (number k)) (f old) old) ≡ old
  written_back l k f g old p = go (eqb (number l) (number k)) refl
    where
      go : (b : Bool) → eqb (number l) (number k) ≡ b → cond b (g (cond b (f old) old)) (cond b (f old) old) ≡ old
      go true e = p (same_name l k (eqb-true (number l) (number k) e))
      go false e = refl

kind_named : ℕ → Kind
kind_named zero = user
kind_named (suc zero) = area
kind_named (suc (suc n)) = object

kind_back : (k : Kind) → kind_named (kind_number k) ≡ k
unfolding kind_named
kind_back user = refl
kind_back area = refl
kind_back object = refl

members_list : (s : Site) (k : Kind) (i : ℕ) (v : Bool) (l : Kind) → members (with_listed s k i v) l ≡ after_mark k i v l (members s l)
members_list s k i v user = refl
members_list s k i v area = refl
members_list s k i v object = refl

members_same : (s : Site) (k : Kind) (i : ℕ) (v : Bool) → members (with_listed s k i v) k ≡ mark (members s k) i v
members_same s k i v = members_list s k i v k ∙ written kind_number kind_named kind_back k (mark (members s k) i v) (members s k)

members_other : (s : Site) (k l : Kind) (i : ℕ) (v : Bool) → (l ≡ k → ⊥) → members (with_listed s k i v) l ≡ members s l
members_other s k l i v ne = members_list s k i v l ∙ untouched kind_number kind_named kind_back l k (mark (members s l) i v) (members s l) ne

each_set : (P : List Bool → Type 0) (s : Site) (k : Kind) (i : ℕ) (v : Bool) (l : Kind) → (l ≡ k → P (mark (members s l) i v)) → P (members s l) → P (members (with_listed s k i v) l)
each_set P s k i v l p q = rw (members_list s k i v l) (either kind_number kind_named kind_back P l k (mark (members s l) i v) (members s l) p q)

relation_named : ℕ → Relation
relation_named zero = owner
relation_named (suc zero) = definition
relation_named (suc (suc zero)) = structure
relation_named (suc (suc (suc zero))) = import
relation_named (suc (suc (suc (suc n)))) = export

relation_back : (r : Relation) → relation_named (relation_number r) ≡ r
unfolding relation_named
relation_back owner = refl
relation_back definition = refl
relation_back structure = refl
relation_back import = refl
relation_back export = refl

cells_relate : (s : Site) (r : Relation) (i j : ℕ) (v : Bool) (t : Relation) → cells (with_pair s r i j v) t ≡ after_put r i j v t (cells s t)
cells_relate s r i j v owner = refl
cells_relate s r i j v definition = refl
cells_relate s r i j v structure = refl
cells_relate s r i j v import = refl
cells_relate s r i j v export = refl

cells_same : (s : Site) (r : Relation) (i j : ℕ) (v : Bool) → cells (with_pair s r i j v) r ≡ put (cells s r) i j v
cells_same s r i j v = cells_relate s r i j v r ∙ written relation_number relation_named relation_back r (put (cells s r) i j v) (cells s r)

cells_other : (s : Site) (r t : Relation) (i j : ℕ) (v : Bool) → (t ≡ r → ⊥) → cells (with_pair s r i j v) t ≡ cells s t
cells_other s r t i j v ne = cells_relate s r i j v t ∙ untouched relation_number relation_named relation_back t r (put (cells s t) i j v) (cells s t) ne

each_relation : (P : List Bool → Type 0) (s : Site) (r : Relation) (i j : ℕ) (v : Bool) (t : Relation) → (t ≡ r → P (put (cells s t) i j v)) → P (cells s t) → P (cells (with_pair s r i j v) t)
each_relation P s r i j v t p q = rw (cells_relate s r i j v t) (either relation_number relation_named relation_back P t r (put (cells s t) i j v) (cells s t) p q)

members_relate : (s : Site) (r : Relation) (i j : ℕ) (v : Bool) (k : Kind) → members (with_pair s r i j v) k ≡ members s k
members_relate s r i j v user = refl
members_relate s r i j v area = refl
members_relate s r i j v object = refl

cells_list : (s : Site) (k : Kind) (i : ℕ) (v : Bool) (r : Relation) → cells (with_listed s k i v) r ≡ cells s r
cells_list s k i v owner = refl
cells_list s k i v definition = refl
cells_list s k i v structure = refl
cells_list s k i v import = refl
cells_list s k i v export = refl

-- ---- the sets
pub listed_same : Laws.ListedSame
listed_same s k i v sh h = rw (members_same s k i v) (member_same (members s k) i v (rw (sh.sets k) h))

pub listed_other : Laws.ListedOther
listed_other s k i n v ne = rw (members_same s k i v) (member_other (members s k) i n v ne)

pub listed_other_kind : Laws.ListedOtherKind
listed_other_kind s k l i n v ne = ap (λ (c : List Bool). member c n) (members_other s k l i v ne)

pub listed_else : Laws.ListedElse
listed_else s k l i n v =
    each_set (λ (c : List Bool). ((l ≡ k) × (n ≡ i)) ⊎ (member c n ≡ member (members s l) n)) s k i v l
    (λ e. ⊎_elim (λ q. inl (e, q)) inr (member_else (members s l) i n v)) (inr refl)

pub list_keeps_listed : Laws.ListKeepsListed
list_keeps_listed s k l i n = each_set (λ (c : List Bool). T (member (members s l) n) → T (member c n)) s k i true l (λ e. member_kept (members s l) i n) (λ h. h)

pub unlist_adds_none : Laws.UnlistAddsNone
unlist_adds_none s k l i n = each_set (λ (c : List Bool). T (member c n) → T (member (members s l) n)) s k i false l (λ e. member_removed (members s l) i n) (λ h. h)

pub list_keeps_pairs : Laws.ListKeepsPairs
list_keeps_pairs s k i v r m n = ap (λ (c : List Bool). pair c m n) (cells_list s k i v r)

pub listed_outside : Laws.ListedOutside
listed_outside s k i sh h = member_outside (members s k) i (rw (sh.sets k) h)

-- ---- the relations
-- a pair within the limits has its cell, and one outside has none
cell_within : (n i j : ℕ) → i < n → j < width → i * width + j < n * width
cell_within n i j hi hj = omega arith

pub related_same : Laws.RelatedSame
related_same s r i j v sh hi hj =
    rw (cells_same s r i j v) (pair_same (cells s r) i j v hj (rw (sh.relations r) (cell_within (limit (first_kind r)) i j hi hj)))

pub related_other : Laws.RelatedOther
related_other s r i j m n v ne = rw (cells_same s r i j v) (pair_other (cells s r) i j m n v ne)

pub related_other_relation : Laws.RelatedOtherRelation
related_other_relation s r t i j m n v ne = ap (λ (c : List Bool). pair c m n) (cells_other s r t i j v ne)

pub related_else : Laws.RelatedElse
related_else s r t i j m n v =
    each_relation (λ (c : Pairs). ((t ≡ r) × (m ≡ i) × (n ≡ j)) ⊎ (pair c m n ≡ related s t m n)) s r i j v t
    (λ e. ⊎_elim (λ q. inl (e, q.0, q.1)) (λ ne. inr (pair_other (cells s t) i j m n v ne)) (same_or_other i j m n)) (inr refl)

pub relate_keeps_lists : Laws.RelateKeepsLists
relate_keeps_lists s r i j v k n = ap (λ (c : List Bool). member c n) (members_relate s r i j v k)

pub add_keeps_pairs : Laws.AddKeepsPairs
add_keeps_pairs s r t i j m n = each_relation (λ (c : Pairs). T (related s t m n) → T (pair c m n)) s r i j true t (λ e. pair_kept (cells s t) i j m n) (λ h. h)

pub remove_adds_none : Laws.RemoveAddsNone
remove_adds_none s r t i j m n = each_relation (λ (c : Pairs). T (pair c m n) → T (related s t m n)) s r i j false t (λ e. pair_removed (cells s t) i j m n) (λ h. h)

pub member_cell : Laws.MemberCell
unfolding member
member_cell c i = refl

pub pair_cell : Laws.PairCell
pair_cell c i j h = pair_inside c i j h

pub mark_cell : Laws.MarkCell
unfolding mark
mark_cell c i v = refl

pub put_cell : Laws.PutCell
put_cell c i j v h = put_inside c i j v h

pub put_beyond : Laws.PutBeyond
put_beyond c i j v h = put_outside c i j v h

pub pair_past : Laws.PairPast
pair_past c i j (inl h) = pair_outside c i j h
pair_past c i j (inr h) = pair_beyond c i j h

pub pair_at : Laws.PairAt
pair_at c k = pair_inside c (k / width) (k % width) (omega arith) ∙ ap (λ (n : ℕ). get_or c n false) (omega arith)

pub related_outside : Laws.RelatedOutside
related_outside s r i j sh (inl h) = pair_beyond (cells s r) i j (rw (sh.relations r) (omega arith))
related_outside s r i j sh (inr h) = pair_outside (cells s r) i j h

-- ---- some, or each, of what a set or a relation holds
pub some_member_lem : Laws.SomeMember
unfolding some_member member
some_member_lem c test = (some_found test c, λ r. some_there test c r.0 r.1 r.2)

-- each is none that fails
each_is : {A : Type 0} (there : A → Type 0) (test : A → Bool) (some : Bool)
    → (T some → (x : A) × there x × T (not (test x))) → (((x : A) × there x × T (not (test x))) → T some) → T (not some) ↔ ((x : A) → there x → T (test x))
each_is there test some found back =
    (λ n x h. not_not (test x) (λ f. not_so some n (back (x, h, f))), λ f. so_not some (λ t. let r = found t in not_so (test r.0) r.2 (f r.0 r.1)))

pub each_member_lem : Laws.EachMember
each_member_lem c test = let s = some_member_lem c (λ i. not (test i)) in each_is (λ i. T (member c i)) test (some_member c (λ i. not (test i))) s.0 s.1

-- ---- what is there lies inside
pub member_inside : Laws.MemberInside
member_inside c i t = go (dec_lt i (length c))
  where
    go : Dec (i < length c) → i < length c
    go (yes h) = h
    go (no h) = absurd (fails (member_outside c i (omega arith)) t)

pub pair_placed : Laws.PairPlaced
pair_placed c i j t = (pair_has_cell c i j t).1

pub pair_area : Laws.PairArea
pair_area c i j t = (pair_has_cell c i j t).0

pub pair_first : Laws.PairFirst
pair_first c n i j long t = go (dec_lt i n)
  where
    go : Dec (i < n) → i < n
    go (yes h) = h
    go (no h) = absurd (fails (pair_beyond c i j (omega arith)) t)

pub listed_inside : Laws.ListedInside
listed_inside s k i shaped t = rw (shaped.sets k) at (member_inside (members s k) i t)

pub related_inside : Laws.RelatedInside
related_inside s r i j shaped t = (pair_first (cells s r) (limit (first_kind r)) i j (shaped.relations r) t, pair_area (cells s r) i j t)

-- what is taken out lay inside, so it is gone
pub unlisted_gone : Laws.UnlistedGone
unlisted_gone s k i sh t = fails (listed_same s k i false sh (listed_inside s k i sh (unlist_adds_none s k k i i t))) t

pub removed_gone : Laws.RemovedGone
removed_gone s r i j sh t =
    let inside = related_inside s r i j sh (remove_adds_none s r r i j i j t) in
    fails (related_same s r i j false sh inside.0 inside.1) t

pub others_stay : Laws.OthersStay
others_stay s r t i j m n v ne h = go (related_else s r t i j m n v)
  where
    go : ((t ≡ r) × (m ≡ i) × (n ≡ j)) ⊎ (related (with_pair s r i j v) t m n ≡ related s t m n) → T (related (with_pair s r i j v) t m n)
    go (inl e) = absurd (ne e.0 e.1 e.2)
    go (inr e) = subst T (sym e) h

pub some_pair_lem : Laws.SomePair
unfolding some_pair
some_pair_lem c test = (
  λ t. let r = some_found _ c t in (r.0 / width, r.0 % width, subst T (sym (pair_at c r.0)) r.1, r.2),
  λ r. found r.0 r.1 r.2 r.3,
)
  where
    found : (i j : ℕ) → T (pair c i j) → T (test i j) → T (some_pair c test)
    found i j p t =
        let h = pair_area c i j p in
        let row : (i * width + j) / width ≡ i = omega arith in
        let column : (i * width + j) % width ≡ j = omega arith in
        some_there _ c (i * width + j) (rw (pair_inside c i j h) at p) (rw (row, column) t)

pub each_pair_lem : Laws.EachPair
each_pair_lem c test =
    let s = some_pair_lem c (λ i j. not (test i j)) in
    let e = each_is {A = ℕ × ℕ} (λ p. T (pair c p.0 p.1)) (λ p. test p.0 p.1) (some_pair c (λ i j. not (test i j))) (λ t. let r = s.0 t in ((r.0, r.1), r.2, r.3)) (λ r. s.1 (r.0.0, r.0.1, r.1, r.2)) in
    (λ t i j. e.0 t (i, j), λ f. e.1 (λ p. f p.0 p.1))

pub has_first_lem : Laws.HasFirst
has_first_lem c i =
    let s = some_pair_lem c (λ m n. eqb m i) in
    (λ t. let r = s.0 t in (r.1, rw (eqb-true r.0 i (is_true (eqb r.0 i) r.3)) at r.2), λ r. s.1 (i, r.0, r.1, holds (eq-eqb i i refl)))

pub has_second_lem : Laws.HasSecond
has_second_lem c j =
    let s = some_pair_lem c (λ m n. eqb n j) in
    (λ t. let r = s.0 t in (r.0, rw (eqb-true r.1 j (is_true (eqb r.1 j) r.3)) at r.2), λ r. s.1 (r.0, j, r.1, holds (eq-eqb j j refl)))

-- ---- the shape
pub list_shaped : Laws.ListShaped
list_shaped s k i v sh =
    record {
      sets = λ l. each_set (λ (c : List Bool). length c ≡ limit l) s k i v l (λ e. length_mark (members s l) i v ∙ sh.sets l) (sh.sets l);
      relations = λ r. ap length (cells_list s k i v r) ∙ sh.relations r;
    }

pub relate_shaped : Laws.RelateShaped
relate_shaped s r i j v sh =
    record {
      sets = λ k. ap length (members_relate s r i j v k) ∙ sh.sets k;
      relations = λ t. each_relation (λ (c : List Bool). length c ≡ limit (first_kind t) * width) s r i j v t (λ e. length_put (cells s t) i j v ∙ sh.relations t) (sh.relations t);
    }

pub empty_shaped : Laws.EmptyShaped
unfolding empty
empty_shaped = record { sets = sets; relations = relations }
  where
    sets : (k : Kind) → length (members empty k) ≡ limit k
    sets user = refl
    sets area = refl
    sets object = refl

    relations : (r : Relation) → length (cells empty r) ≡ limit (first_kind r) * width
    relations owner = refl
    relations definition = refl
    relations structure = refl
    relations import = refl
    relations export = refl

pub founding_shaped : Laws.FoundingShaped
unfolding founding
founding_shaped =
    relate_shaped (with_listed (with_listed empty user 0 true) area 0 true) owner 0 0 true
    (list_shaped (with_listed empty user 0 true) area 0 true (list_shaped empty user 0 true empty_shaped))

pub shaped_by_lengths : Laws.ShapedByLengths
shaped_by_lengths s us ar os ow de st im ex = record { sets = sets; relations = relations }
  where
    sets : (k : Kind) → length (members s k) ≡ limit k
    sets user = us
    sets area = ar
    sets object = os

    relations : (r : Relation) → length (cells s r) ≡ limit (first_kind r) * width
    relations owner = ow
    relations definition = de
    relations structure = st
    relations import = im
    relations export = ex

-- ---- equal readings
same_fields : (s t : Site) → ((k : Kind) → members s k ≡ members t k) → ((r : Relation) → cells s r ≡ cells t r) → s ≡ t
same_fields s t m c i =
    record {
      users = m user i;
      areas = m area i;
      objects = m object i;
      owners = c owner i;
      definitions = c definition i;
      structure = c structure i;
      imports = c import i;
      exports = c export i;
    }

-- each cell of a relation is the cell of a pair
pair_ext : (c d : List Bool) (n : ℕ) → length c ≡ n * width → length d ≡ n * width → ((i j : ℕ) → i < n → j < width → pair c i j ≡ pair d i j) → c ≡ d
pair_ext c d n lc ld each = ext_get_or false c d (lc ∙ sym ld) at
  where
    at : (k : ℕ) → k < length c → get_or c k false ≡ get_or d k false
    at k h =
        let row : k / width < n = omega arith in
        let column : k % width < width = omega arith in
        sym (pair_at c k) ∙ each (k / width) (k % width) row column ∙ pair_at d k

pub one_record : Laws.OneRecord
one_record s t ss st same =
    same_fields s t
    (λ k. member_ext (members s k) (members t k) (ss.sets k ∙ sym (st.sets k)) (λ i h. same.lists k i (rw (ss.sets k) at h)))
    (λ r. pair_ext (cells s r) (cells t r) (limit (first_kind r)) (ss.relations r) (st.relations r) (same.pairs r))

-- ---- what is written back
pub list_back : Laws.ListBack
list_back s k i v = same_fields (with_listed t k i w) s each (λ r. cells_list t k i w r ∙ cells_list s k i v r)
  where
    t : Site
    t = with_listed s k i v

    w : Bool
    w = listed s k i

    each : (l : Kind) → members (with_listed t k i w) l ≡ members s l
    each l =
        rw (members_list t k i w l, members_list s k i v l)
        (written_back kind_number kind_named kind_back l k (λ (c : List Bool). mark c i v) (λ (c : List Bool). mark c i w) (members s l) (λ e. rw e (mark_back (members s k) i v)))

pub list_as_is : Laws.ListAsIs
list_as_is s k i = same_fields (with_listed s k i (listed s k i)) s each (cells_list s k i (listed s k i))
  where
    each : (l : Kind) → members (with_listed s k i (listed s k i)) l ≡ members s l
    each l = each_set (λ (c : List Bool). c ≡ members s l) s k i (listed s k i) l (λ e. rw e (mark_as_is (members s k) i)) refl

pub relate_back : Laws.RelateBack
relate_back s r i j v = same_fields (with_pair t r i j w) s (λ k. members_relate t r i j w k ∙ members_relate s r i j v k) each
  where
    t : Site
    t = with_pair s r i j v

    w : Bool
    w = related s r i j

    each : (q : Relation) → cells (with_pair t r i j w) q ≡ cells s q
    each q =
        rw (cells_relate t r i j w q, cells_relate s r i j v q)
        (written_back relation_number relation_named relation_back q r (λ (c : List Bool). put c i j v) (λ (c : List Bool). put c i j w) (cells s q) (λ e. rw e (put_back (cells s r) i j v)))

-- ---- a write outside
pub list_outside : Laws.ListOutside
list_outside s k i v sh h = same_fields (with_listed s k i v) s each (cells_list s k i v)
  where
    each : (l : Kind) → members (with_listed s k i v) l ≡ members s l
    each l = each_set (λ (c : List Bool). c ≡ members s l) s k i v l (λ e. mark_outside (members s l) i v (rw (sh.sets l, e) h)) refl

pub relate_outside : Laws.RelateOutside
relate_outside s r i j v sh out = same_fields (with_pair s r i j v) s (members_relate s r i j v) each
  where
    outside : (t : Relation) → (limit (first_kind r) ≤ i) ⊎ (limit area ≤ j) → t ≡ r → put (cells s t) i j v ≡ cells s t
    outside t (inl h) e = put_past (cells s t) i j v (rw (sh.relations t, e) (omega arith))
    outside t (inr h) e = put_outside (cells s t) i j v h

    each : (t : Relation) → cells (with_pair s r i j v) t ≡ cells s t
    each t = each_relation (λ (c : List Bool). c ≡ cells s t) s r i j v t (outside t out) refl

-- ---- a pair put into cells
pub put_same : Laws.PutSame
put_same c n i j v long h l = pair_same c i j v l (omega arith)

pub put_other : Laws.PutOther
put_other c i j m n v ne = pair_other c i j m n v ne

pub put_length : Laws.PutLength
put_length c i j v = length_put c i j v

-- ---- the empty record
pub empty_related : Laws.EmptyRelated
unfolding empty
empty_related owner i j = no_pair 1024 i j
empty_related definition i j = no_pair 2048 i j
empty_related structure i j = no_pair 1024 i j
empty_related import i j = no_pair 2048 i j
empty_related export i j = no_pair 2048 i j

-- ---- the founding state
pub founding_listed : Laws.FoundingListed
unfolding founding empty
founding_listed i = (only_zero 32 i (omega arith), only_zero 32 i (omega arith), no_member 64 i)

pub founding_owner : Laws.FoundingOwner
unfolding founding empty
founding_owner i j = only_zeros 1024 i j (omega arith)

pub founding_no_pair : Laws.FoundingNoPair
unfolding founding empty
founding_no_pair owner i j ne = absurd (ne refl)
founding_no_pair definition i j ne = no_pair 2048 i j
founding_no_pair structure i j ne = no_pair 1024 i j
founding_no_pair import i j ne = no_pair 2048 i j
founding_no_pair export i j ne = no_pair 2048 i j

-- ---- how many
-- no more than the cells, of which there are so many
counted : (cells : List Bool) (n : ℕ) → length cells ≡ n → n ≤ 2048 → count cells ≤ 2048
counted cells n size h = let most : count cells ≤ length cells = count_within cells in omega arith

pub counts_at_most : Laws.CountsAtMost
counts_at_most s shaped zero = counted s.users 32 (shaped.sets user) (omega arith)
counts_at_most s shaped (suc zero) = counted s.areas 32 (shaped.sets area) (omega arith)
counts_at_most s shaped (suc (suc zero)) = counted s.objects 64 (shaped.sets object) (omega arith)
counts_at_most s shaped (suc (suc (suc zero))) = counted s.owners 1024 (shaped.relations owner) (omega arith)
counts_at_most s shaped (suc (suc (suc (suc zero)))) = counted s.structure 1024 (shaped.relations structure) (omega arith)
counts_at_most s shaped (suc (suc (suc (suc (suc zero))))) = counted s.imports 2048 (shaped.relations import) (omega arith)
counts_at_most s shaped (suc (suc (suc (suc (suc (suc zero)))))) = counted s.exports 2048 (shaped.relations export) (omega arith)
counts_at_most s shaped (suc (suc (suc (suc (suc (suc (suc i))))))) = omega arith
