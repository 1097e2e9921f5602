-- Whom and what the pairs of a record name, and that the pairs decide a record whose lists are what they name.
--     Names, sound_lists     the numbers that pairs make listed ones; in a sound record these are listed, and no others
--     same_by_names          two such records with the same pairs are one
-- Assumes nothing.
use Prim.Native.Nat.{ℕ, ◌<◌}
use mathlib.Core.Path.{◌≡◌, sym, subst}
use mathlib.Core.Logic.{◌↔◌}
use lib.Dec.{T}
use Rattle.state.specs.Site.{Kind, user, area, object, limit, listed, Relation, owner, definition, first_kind, related, Shaped}
use Rattle.state.specs.Site.{Site}
use Rattle.state.proofs.Bools.{same_test}
use Rattle.state.proofs.Laws.{related_inside, one_record}
use Rattle.soundness.specs.Sound.{Sound}

-- a user who owns, an area that is owned, an object that is defined
abbrev pub Names : Site → Kind → ℕ → Type 0
Names s user u = (a : ℕ) × T (related s owner u a)
Names s area a = (u : ℕ) × T (related s owner u a)
Names s object o = (a : ℕ) × T (related s definition o a)

-- those are listed, and no others
abbrev pub ListsNamed : Site → Type 0
ListsNamed s = (k : Kind) (i : ℕ) → T (listed s k i) ↔ Names s k i

pub sound_lists : (s : Site) → Sound s → ListsNamed s
sound_lists s h user u = (h.acceptable.users u, λ n. (h.consistent owner u n.0 n.1).first)
sound_lists s h area a = (h.acceptable.areas a, λ n. (h.consistent owner n.0 a n.1).second)
sound_lists s h object o = (λ t. let d = h.acceptable.objects o t in (d.place, d.defined), λ n. (h.consistent definition o n.0 n.1).first)

abbrev pub SamePairs : (s t : Site) → Type 0
SamePairs s t = (r : Relation) (i j : ℕ) → i < limit (first_kind r) → j < limit area → related s r i j ≡ related t r i j

follows : (s t : Site) → Shaped s → SamePairs s t → (r : Relation) (i j : ℕ) → T (related s r i j) → T (related t r i j)
follows s t shaped same r i j b = let h = related_inside s r i j shaped b in subst T (same r i j h.0 h.1) b

names_follow : (s t : Site) → Shaped s → SamePairs s t → (k : Kind) (i : ℕ) → Names s k i → Names t k i
names_follow s t shaped same user u n = (n.0, follows s t shaped same owner u n.0 n.1)
names_follow s t shaped same area a n = (n.0, follows s t shaped same owner n.0 a n.1)
names_follow s t shaped same object o n = (n.0, follows s t shaped same definition o n.0 n.1)

pub same_by_names : (s t : Site) → Shaped s → Shaped t → ListsNamed s → ListsNamed t → SamePairs s t → s ≡ t
same_by_names s t shaped-s shaped-t lists-s lists-t same =
    one_record s t shaped-s shaped-t
    (record {
      lists = λ k i h. same_test (listed s k i) (listed t k i)
          (λ b. (lists-t k i).1 (names_follow s t shaped-s same k i ((lists-s k i).0 b)))
          (λ b. (lists-s k i).1 (names_follow t s shaped-t (λ r m n hm hn. sym (same r m n hm hn)) k i ((lists-t k i).0 b)));
      pairs = same;
    })
