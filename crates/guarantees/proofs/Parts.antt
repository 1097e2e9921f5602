-- What an update of the record does to each part of soundness: one pair more or fewer, one number listed or not. The
-- twelve codes are made of these.
-- Assumes nothing.
use Prim.Native.Nat.{ℕ}
use mathlib.Core.Path.{◌≡◌, refl, sym, ap, subst, ◌∙◌}
use mathlib.Core.Logic.{◌⊎◌, inl, inr}
use mathlib.Core.Bool.{Bool, true, false, ◌&&◌, not}
use native.Mathlib.Decide.{ℕ_discrete}
use lib.Dec.{T, eqb}
use borrow.Author.Tests.{eq-eqb}
use Rattle.state.specs.Site.{Kind, user, area, object, kind_number, listed, with_listed, Relation, owner, definition, structure, import, export, first_kind, related, relation_number, with_pair, owns, defines, imports, Shaped}
use Rattle.state.specs.Walk.{has_first}
use Rattle.state.specs.Site.{Site}
use Rattle.state.proofs.Bools.{and_both, and_right, holds, fails}
use Rattle.state.proofs.Laws.{listed_other, listed_else, list_keeps_listed, unlisted_gone, list_keeps_pairs, related_other_relation, relate_shaped, related_else, relate_keeps_lists, remove_adds_none, others_stay, has_first_lem}
use Rattle.access.specs.Lending.{Lending, lending}
use Rattle.access.specs.Answer.{access}
use Rattle.access.proofs.Laws.{more_keeps_access, added_is_included}
use Rattle.soundness.specs.Sound.{Named, Consistent, DefinedOnce, Acceptable, Valid, NoOwnImport}
use Rattle.successors.specs.Successor.{without_owner}

-- ---- numbers and pairs
-- two relations with different numbers are not the same
pub different : (r t : Relation) → T (not (eqb (relation_number r) (relation_number t))) → r ≡ t → ⊥
different r t n e = subst (λ (b : Bool). T (not b)) (eq-eqb (relation_number r) (relation_number t) (ap relation_number e)) n

-- the same of kinds
pub different_kind : (k l : Kind) → T (not (eqb (kind_number k) (kind_number l))) → k ≡ l → ⊥
different_kind k l n e = subst (λ (b : Bool). T (not b)) (eq-eqb (kind_number k) (kind_number l) (ap kind_number e)) n

-- ---- consistent
named_relate : (s : Site) (r : Relation) (i j : ℕ) (v : Bool) (t : Relation) (m n : ℕ) → Named s t m n → Named (with_pair s r i j v) t m n
named_relate s r i j v t m n d =
    record { first = subst T (sym (relate_keeps_lists s r i j v (first_kind t) m)) d.first; second = subst T (sym (relate_keeps_lists s r i j v area n)) d.second }

pub consistent_add : (s : Site) (r : Relation) (i j : ℕ) → Consistent s → Named s r i j → Consistent (with_pair s r i j true)
consistent_add s r i j c new t m n h = go (related_else s r t i j m n true)
  where
    go : ((t ≡ r) × (m ≡ i) × (n ≡ j)) ⊎ (related (with_pair s r i j true) t m n ≡ related s t m n) → Named (with_pair s r i j true) t m n
    go (inl e) = rw (e.0, e.1, e.2) (named_relate s r i j true r i j new)
    go (inr e) = named_relate s r i j true t m n (c t m n (subst T e h))

pub consistent_remove : (s : Site) (r : Relation) (i j : ℕ) → Consistent s → Consistent (with_pair s r i j false)
consistent_remove s r i j c t m n h = named_relate s r i j false t m n (c t m n (remove_adds_none s r t i j m n h))

pub consistent_list : (s : Site) (k : Kind) (i : ℕ) → Consistent s → Consistent (with_listed s k i true)
consistent_list s k i c t m n h =
    let d = c t m n (subst T (list_keeps_pairs s k i true t m n) h) in
    record { first = list_keeps_listed s k (first_kind t) i m d.first; second = list_keeps_listed s k area i n d.second }

-- no pair names number i of kind k
pub record Unnamed (s : Site) (k : Kind) (i : ℕ) : Type 0 where
  pub not_first : (t : Relation) (n : ℕ) → first_kind t ≡ k → T (related s t i n) → ⊥
  pub not_second : (t : Relation) (m : ℕ) → area ≡ k → T (related s t m i) → ⊥

pub consistent_unlist : (s : Site) (k : Kind) (i : ℕ) (v : Bool) → Consistent s → Unnamed s k i → Consistent (with_listed s k i v)
consistent_unlist s k i v c unnamed t m n h =
    record { first = go (first_kind t) m first d.first; second = go area n second d.second }
  where
    pair : T (related s t m n)
    pair = subst T (list_keeps_pairs s k i v t m n) h

    d : Named s t m n
    d = c t m n pair

    first : first_kind t ≡ k → m ≡ i → ⊥
    first e q = unnamed.not_first t n e (rw q at pair)

    second : area ≡ k → n ≡ i → ⊥
    second e q = unnamed.not_second t m e (rw q at pair)

    go : (l : Kind) (x : ℕ) → (l ≡ k → x ≡ i → ⊥) → T (listed s l x) → T (listed (with_listed s k i v) l x)
    go l x ne t = at (listed_else s k l i x v)
      where
        at : ((l ≡ k) × (x ≡ i)) ⊎ (listed (with_listed s k i v) l x ≡ listed s l x) → T (listed (with_listed s k i v) l x)
        at (inl e) = absurd (ne e.0 e.1)
        at (inr e) = subst T (sym e) t

-- a user is the first of owner pairs only
user_first : (t : Relation) → first_kind t ≡ user → t ≡ owner
user_first owner e = refl
user_first definition e = absurd (different_kind object user tt e)
user_first structure e = absurd (different_kind area user tt e)
user_first import e = absurd (different_kind object user tt e)
user_first export e = absurd (different_kind object user tt e)

-- A user who lost an area is listed afterwards exactly where he owns an area: he is unlisted at the last one only.
module _ (s : Site) (u a : ℕ) (c : Consistent s) where
  abbrev after : Site
  after = with_pair s owner u a false

  abbrev keeps : Bool
  keeps = listed after user u && has_first after.owners u

  -- he owns an area afterwards
  pub kept_owns : T keeps → (n : ℕ) × T (owns after u n)
  kept_owns t = (has_first_lem after.owners u).0 (and_right (listed after user u) (has_first after.owners u) t)

  owns_keeps : (n : ℕ) → T (owns after u n) → T keeps
  owns_keeps n t =
      and_both (listed after user u) (has_first after.owners u) (consistent_remove s owner u a c owner u n t).first ((has_first_lem after.owners u).1 (n, t))

  pub consistent_without : Consistent (without_owner s u a)
  consistent_without = go keeps refl
    where
      go : (v : Bool) → keeps ≡ v → Consistent (with_listed after user u v)
      go true e = consistent_list after user u (consistent_remove s owner u a c)
      go false e =
          consistent_unlist after user u false (consistent_remove s owner u a c)
          (record {
            not_first = λ t n k h. fails e (owns_keeps n (rw (user_first t k) at h));
            not_second = λ t m k h. different_kind area user tt k;
          })

-- ---- acceptable
-- definitions that stay
pub once_same : (s t : Site) (o : ℕ) → ((a : ℕ) → defines t o a ≡ defines s o a) → DefinedOnce s o → DefinedOnce t o
once_same s t o e d =
    record { place = d.place; defined = subst T (sym (e d.place)) d.defined; only = λ a h. d.only a (subst T (e a) h) }

-- a pair that is neither an owner nor a definition pair
pub acceptable_pair : (s : Site) (r : Relation) (i j : ℕ) (v : Bool) → (owner ≡ r → ⊥) → (definition ≡ r → ⊥) → Acceptable s → Acceptable (with_pair s r i j v)
acceptable_pair s r i j v no_owner no-definition acc =
    record {
      users = λ u h. let d = acc.users u (before user u h) in (d.0, stays u d.0 d.1);
      areas = λ c h. let d = acc.areas c (before area c h) in (d.0, stays d.0 c d.1);
      objects = λ o h. once_same s (with_pair s r i j v) o (λ a. related_other_relation s r definition i j o a v no-definition) (acc.objects o (before object o h));
    }
  where
    before : (k : Kind) (n : ℕ) → T (listed (with_pair s r i j v) k n) → T (listed s k n)
    before k n h = subst T (relate_keeps_lists s r i j v k n) h

    stays : (u c : ℕ) → T (owns s u c) → T (owns (with_pair s r i j v) u c)
    stays u c h = subst T (sym (related_other_relation s r owner i j u c v no_owner)) h

-- more owner pairs, and more listed: the owner and the area of a new pair
pub acceptable_more : (s t : Site) (u a : ℕ) → Acceptable s → T (owns t u a) → ((v c : ℕ) → T (owns s v c) → T (owns t v c))
    → ((v : ℕ) → T (listed t user v) → (v ≡ u) ⊎ T (listed s user v)) → ((c : ℕ) → T (listed t area c) → (c ≡ a) ⊎ T (listed s area c))
    → ((o : ℕ) → T (listed t object o) → DefinedOnce t o) → Acceptable t
acceptable_more s t u a acc new kept new-user new-area objects =
    record { users = λ v h. from_user v (new-user v h); areas = λ c h. from_area c (new-area c h); objects = objects }
  where
    from_user : (v : ℕ) → (v ≡ u) ⊎ T (listed s user v) → (c : ℕ) × T (owns t v c)
    from_user v (inl e) = (a, rw e new)
    from_user v (inr h) = let d = acc.users v h in (d.0, kept v d.0 d.1)

    from_area : (c : ℕ) → (c ≡ a) ⊎ T (listed s area c) → (v : ℕ) × T (owns t v c)
    from_area c (inl e) = (u, rw e new)
    from_area c (inr h) = let d = acc.areas c h in (d.0, kept d.0 c d.1)

-- the users and the areas after user u lost area a
module _ (s : Site) (u a : ℕ) (shaped : Shaped s) (c : Consistent s) (acc : Acceptable s) where
  abbrev less : Site
  less = without_owner s u a

  pub users_without : (v : ℕ) → T (listed less user v) → (n : ℕ) × T (owns less v n)
  users_without v h = go (ℕ_discrete v u)
    where
      self : (k : Bool) → keeps s u a c ≡ k → T (listed (with_listed (after s u a c) user u k) user u) → (n : ℕ) × T (owns less u n)
      self true e t = kept_owns s u a c (holds e)
      self false e t = absurd (unlisted_gone (after s u a c) user u (relate_shaped s owner u a false shaped) t)

      other : (v ≡ u → ⊥) → (n : ℕ) × T (owns less v n)
      other ne =
          let d = acc.users v (subst T (listed_other (after s u a c) user u v (keeps s u a c) ne) h) in
          (d.0, others_stay s owner owner u a v d.0 false (λ r q n. ne q) d.1)

      go : Dec (v ≡ u) → (n : ℕ) × T (owns less v n)
      go (yes e) = rw e (self (keeps s u a c) refl (rw e at h))
      go (no ne) = other ne

  pub areas_without : (d : ℕ) → (d ≡ a → ⊥) → T (listed s area d) → (v : ℕ) × T (owns less v d)
  areas_without d ne h = let o = acc.areas d h in (o.0, others_stay s owner owner u a o.0 d false (λ r q n. ne n) o.1)

-- ---- valid
pub valid_same : (s t : Site) → ((o : ℕ) → lending t o ≡ lending s o) → Valid s → Valid t
valid_same s t e v =
    record {
      imported = λ o a. subst (λ (l : Lending). T (l.imported_by a) → T (access l a)) (sym (e o)) (v.imported o a);
      exported = λ o a. subst (λ (l : Lending). T (l.exported_by a) → T (access l a)) (sym (e o)) (v.exported o a);
    }

-- one pair more: if it is an entry, its area must have access
pub valid_add : (s : Site) (r : Relation) (i j : ℕ) → ((import ≡ r) ⊎ (export ≡ r) → T (access (lending (with_pair s r i j true) i) j)) → Valid s → Valid (with_pair s r i j true)
valid_add s r i j new v =
    record {
      imported = λ o a h. go import o a inl (λ t. v.imported o a t) h (related_else s r import i j o a true);
      exported = λ o a h. go export o a inr (λ t. v.exported o a t) h (related_else s r export i j o a true);
    }
  where
    t : Site
    t = with_pair s r i j true

    go : (e : Relation) (o a : ℕ) → (e ≡ r → (import ≡ r) ⊎ (export ≡ r)) → (T (related s e o a) → T (access (lending s o) a)) → T (related t e o a)
        → ((e ≡ r) × (o ≡ i) × (a ≡ j)) ⊎ (related t e o a ≡ related s e o a) → T (access (lending t o) a)
    go e o a entry old h (inl q) = rw (q.1, q.2) (new (entry q.0))
    go e o a entry old h (inr q) = more_keeps_access (lending s o) (lending t o) (added_is_included s r i j o) a (old (subst T q h))

-- ---- no own import
-- one pair more: as an import it is not of what the area defines, as a definition not of what the area imports
pub own_add : (s : Site) (r : Relation) (i j : ℕ) → (import ≡ r → T (defines s i j) → ⊥) → (definition ≡ r → T (imports s i j) → ⊥)
    → NoOwnImport s → NoOwnImport (with_pair s r i j true)
own_add s r i j new-import new-definition h o a p d = go (related_else s r import i j o a true) (related_else s r definition i j o a true)
  where
    t : Site
    t = with_pair s r i j true

    go : ((import ≡ r) × (o ≡ i) × (a ≡ j)) ⊎ (imports t o a ≡ imports s o a)
        → ((definition ≡ r) × (o ≡ i) × (a ≡ j)) ⊎ (defines t o a ≡ defines s o a) → ⊥
    go (inl e) (inl q) = different import definition tt (e.0 ∙ sym q.0)
    go (inl e) (inr q) = new-import e.0 (rw (e.1, e.2) at (subst T q d))
    go (inr e) (inl q) = new-definition q.0 (rw (q.1, q.2) at (subst T e p))
    go (inr e) (inr q) = h o a (subst T e p) (subst T q d)

pub own_remove : (s : Site) (r : Relation) (i j : ℕ) → NoOwnImport s → NoOwnImport (with_pair s r i j false)
own_remove s r i j h o a p d =
    h o a (remove_adds_none s r import i j o a p) (remove_adds_none s r definition i j o a d)
