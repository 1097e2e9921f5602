-- The claims of specs/Claims.antt and the laws of specs/Laws.antt, each proved under its name.
-- Assumes nothing.
use Prim.Native.Nat.{ℕ, suc, ◌≤◌, ◌<◌}
use mathlib.Core.Path.{◌≡◌, refl, sym, ap, subst, ◌∙◌}
use mathlib.Core.Logic.{◌⊎◌, inl, inr}
use mathlib.Core.Bool.{Bool, true, false}
use mathlib.Core.List.{List, []}
use native.Mathlib.Omega.{arith}
use native.Mathlib.Decide.{dec_lt}
use lib.Dec.{T}
use Rattle.std.proofs.Common.{Some, None}
use lib.ListN.{length}
use Rattle.state.proofs.Bools.{fails, holds}
use Rattle.access.specs.Lending.{Lending, step}
use Rattle.access.specs.Chain.{ObjectChain}
use Rattle.access.specs.Answer.{Answer, longest, answer, access}
use Rattle.access.specs.Claims.{Right, is_steps}
use Rattle.access.proofs.Laws.{answer_is_right, one_answer, never_above, access_is_steps}
use Rattle.chains.specs.Chains.{ChainTo, Lower, FirstChain}
use Rattle.chains.specs.First.{is_open, lowest_open, walk, chain_for, first_chain}
use Rattle.chains.specs.Claims
use Rattle.chains.specs.Laws
use Rattle.chains.proofs.Lists.{chain_list, list_chain, passes_front, lower_compares}
use Rattle.chains.proofs.Walks.{passes_open, walk_passes, walk_lowest, leads_same, walk_same}

-- ---- chains and lists
pub chain_is_list : Claims.ChainIsList
chain_is_list l n a = (
  λ c. let w = chain_list (step l) l.defined_in c in (w.areas, record { definer = w.from; defines = w.starts; passes = w.passes }, w.sized),
  λ w. list_chain (step l) l.defined_in n w.1.defines w.1.passes w.2,
)

-- a list is not empty
sized : (l : Lending) (a : ℕ) (areas : List ℕ) → ChainTo l a areas → (n : ℕ) × (length areas ≡ suc n)
sized l a areas c = let front = passes_front (step l) c.passes in (length front.0, ap length front.1)

module _ (l : Lending) (a : ℕ) where
  -- n steps lead from a definer to the area
  abbrev is_open_in : ℕ → Bool
  is_open_in n = is_open (step l) a n l.defined_in

  open_chain : (n : ℕ) → T (is_open_in n) → ObjectChain l n a
  open_chain n t = let w = walk_passes (step l) a n l.defined_in t in list_chain (step l) l.defined_in n w.starts w.passes w.sized

  chain_open : (n : ℕ) → ObjectChain l n a → T (is_open_in n)
  chain_open n c = let w = chain_list (step l) l.defined_in c in passes_open (step l) a l.defined_in n w.starts w.passes w.sized

  -- ---- found by trying one number of steps after the other
  by_trying : (n : ℕ) → n ≤ longest → is_open_in n ≡ true → ((m : ℕ) → m < n → is_open_in m ≡ false) → answer l a ≡ Some n
  by_trying n h t none =
      one_answer l a (answer l a) (Some n) (answer_is_right l a)
      (record { shortest = record { chain = open_chain n (holds t); least = λ m c. longer m c (dec_lt m n) }; short = h })
    where
      longer : (m : ℕ) → ObjectChain l m a → Dec (m < n) → n ≤ m
      longer m c (yes k) = absurd (fails (none m k) (chain_open m c))
      longer m c (no k) = omega arith

  -- ---- the first chain
  walk_first : (n : ℕ) → Right l a (Some n) → FirstChain l a (walk (step l) a n l.defined_in)
  walk_first n r =
      let w = walk_passes (step l) a n l.defined_in (chain_open n r.shortest.chain) in
      let size : length (walk (step l) a n l.defined_in) ≡ suc n = w.sized in
      record {
        chain = record { definer = lowest_open (step l) a n l.defined_in; defines = w.starts; passes = w.passes };
        shortest = λ others c.
            let m = sized l a others c in
            let least : n ≤ m.0 = r.shortest.least m.0 ((chain_is_list l m.0 a).1 (others, c, m.1)) in
            let more : length others ≡ suc m.0 = m.1 in
            omega arith;
        lowest = λ others c e. walk_lowest (step l) a n l.defined_in c.defines c.passes (e ∙ size);
      }

  first_for : (x : Answer) → Right l a x → T (is_steps x) → FirstChain l a (chain_for l a x)
  first_for (Some n) r t = walk_first n r
  first_for None r t = absurd t

  length_for : (n : ℕ) → Right l a (Some n) → length (chain_for l a (Some n)) ≡ suc n
  length_for n r = (walk_passes (step l) a n l.defined_in (chain_open n r.shortest.chain)).sized

pub first_by_trying : Laws.FirstByTrying
unfolding first_chain
first_by_trying l a n h t none = ap (chain_for l a) (by_trying l a n h t none)

pub none_by_trying : Laws.NoneByTrying
unfolding first_chain
none_by_trying l a none =
    ap (chain_for l a) (one_answer l a (answer l a) None (answer_is_right l a) (λ m h c. fails (none m h) (chain_open l a m c)))

pub same_leads : Laws.SameLeads
same_leads move move' same a = leads_same move move' same a

pub same_walk : Laws.SameWalk
same_walk start start' move move' starts same a n t = walk_same move move' same a start start' starts n (holds t)

pub first_is_first : Claims.FirstIsFirst
unfolding first_chain
first_is_first l a t = first_for l a (answer l a) (answer_is_right l a) (subst T (access_is_steps l a) t)

pub one_first : Claims.OneFirst
one_first l a xs ys p q = go (lower_compares xs ys same)
  where
    same : length xs ≡ length ys
    same =
        let there : length xs ≤ length ys = p.shortest ys q.chain in
        let back : length ys ≤ length xs = q.shortest xs p.chain in
        omega arith

    go : (xs ≡ ys) ⊎ (Lower xs ys ⊎ Lower ys xs) → xs ≡ ys
    go (inl e) = e
    go (inr (inl lower)) = absurd (q.lowest xs p.chain same lower)
    go (inr (inr lower)) = absurd (p.lowest ys q.chain (sym same) lower)

pub first_length : Claims.FirstLength
unfolding first_chain
first_length l a n e = ap (λ (x : Answer). length (chain_for l a x)) e ∙ length_for l a n (subst (Right l a) e (answer_is_right l a))

pub nine_at_most : Claims.NineAtMost
unfolding first_chain
nine_at_most l a = go (answer l a) refl
  where
    go : (x : Answer) → answer l a ≡ x → length (chain_for l a x) ≤ 9
    go (Some n) e =
        let size = length_for l a n (subst (Right l a) e (answer_is_right l a)) in
        let most = never_above l a n e in
        omega arith
    go None e = omega arith

pub none_exactly : Claims.NoneExactly
unfolding first_chain
none_exactly l a = go (answer l a) (answer_is_right l a) (access_is_steps l a)
  where
    go : (x : Answer) → Right l a x → access l a ≡ is_steps x → ((chain_for l a x ≡ []) → access l a ≡ false) × ((access l a ≡ false) → chain_for l a x ≡ [])
    go (Some n) r e = (λ none. let size = length_for l a n r in let empty = ap length none in absurd (omega arith), λ far. absurd (fails (sym e ∙ far) tt))
    go None r e = (λ none. e, λ far. refl)
