-- The pairs that are lost in a state, and the first of them.
--     lost_found, lost_by            what the test of a pair says
--     first_of                       the pair that is named of a relation is lost, and no earlier one is
--     none_lost                      where none is named, none is lost
--     some_of                        a state that is not valid has lost one
--     lost_of_one, lost_is_own       where one object alone has lost pairs
--     given_shaped                   the state that an instruction would give has its shape
--     eleven_fits, eleven_valid      what 11 says of the bytes, and of the state given
--     eleven_removes, eleven_invalid what 11 says of the instruction, and of the state that it would give
-- Assumes nothing.
use Prim.Native.Nat.{ℕ, ◌≤◌, ◌<◌}
use mathlib.Core.Path.{◌≡◌, refl, sym, ap, subst, ◌∙◌}
use mathlib.Core.Logic.{◌⊎◌, inl, inr}
use mathlib.Core.Bool.{Bool, true, false, ◌&&◌, not}
use mathlib.Core.List.{◌∷◌, ◌++◌}
use native.Mathlib.Omega.{arith}
use native.Mathlib.Decide.{ℕ_discrete, dec_lt}
use borrow.Author.Tests.{lt-ltb}
use lib.Dec.{T, ltb→lt, lt→ltb}
use Rattle.std.proofs.Common.{Ok, Err}
use Rattle.verdicts.specs.declared.Refusal.{Refusal}
use Rattle.state.specs.Checks.{◌when◌, first_met, met_at}
use Rattle.state.specs.Site.{Site, user, area, object, limit, with_listed, Relation, first_kind, owner, definition, structure, import, export, related, with_pair, Shaped}
use Rattle.state.proofs.Below.{some_at, some_by, first_is, first_none, first_met_lem, first_under, first_found}
use Rattle.state.proofs.Bools.{and_both, and_left, and_right, is_true, is_false, fails, holds, not_so, so_not, test}
use Rattle.state.proofs.Checks.{once, met, met_at_lem}
use Rattle.state.proofs.Laws.{related_inside, list_keeps_pairs, remove_adds_none, relate_shaped, list_shaped}
use Rattle.access.specs.Lending.{Lending, lending}
use Rattle.access.specs.Answer.{access}
use Rattle.access.proofs.Laws.{other_pairs, lists_do_not_matter}
use Rattle.soundness.specs.Sound.{Valid}
use Rattle.soundness.specs.Tests.{is_well_formed, is_valid, no_own_import, is_sound}
use Rattle.soundness.proofs.Laws.{valid_decided}
use Rattle.instructions.specs.Instructions.{Bytes, rule}
use Rattle.instructions.specs.Decode.{Decoded, decode_of, misfits}
use Rattle.instructions.specs.declared.Target.{Target}
use Rattle.instructions.specs.declared.Target.TheVariants.{TheArea, Owner, Definition, Structure, Import, Export}
use Rattle.successors.specs.Successor.{keeps_listed, without_owner, changed, successor_of}
use Rattle.refusals.specs.Refusals.{bears_access, checks_of, refusals}
use Rattle.machine.specs.Step.{step_refusal}
use Rattle.reasons.specs.Claims.{LostPair, NotAfter, FirstOf}
use Rattle.reasons.specs.Lost.{is_lost, loses, first_object, first_area, some_lost, first_entry, first_lost, lost_of}
use Rattle.reasons.specs.Laws

module _ (t : Site) (r : Relation) where
  lost_found : (o a : ℕ) → T (is_lost t r o a) → LostPair t r o a
  unfolding is_lost
  lost_found o a h =
      record { left = and_left (related t r o a) _ h; lacks = is_false _ (not_so (access (lending t o) a) (and_right (related t r o a) _ h)) }

  lost_by : (o a : ℕ) → LostPair t r o a → T (is_lost t r o a)
  unfolding is_lost
  lost_by o a p = and_both (related t r o a) _ p.left (so_not (access (lending t o) a) (fails p.lacks))

  module _ (shaped : Shaped t) (kind : first_kind r ≡ object) where
    inside : (o a : ℕ) → LostPair t r o a → (o < limit object) × (a < limit area)
    inside o a p = let h = related_inside t r o a shaped p.left in (rw kind at h.0, h.1)

    lost_loses : (o a : ℕ) → LostPair t r o a → T (loses t r o)
    lost_loses o a p = some_by (is_lost t r o) (limit area) a (inside o a p).1 (lost_by o a p)

    pub first_of : T (some_lost t r) → FirstOf t r (first_entry t r)
    unfolding first_object first_area
    first_of named =
        let o = first_object t r in
        let a = first_area t r o in
        let area = first_found (is_lost t r o) (limit area) (holds (first_met_lem (loses t r) (limit object) (ltb→lt o (limit object) named))) in
        record { lost = lost_found o a area.1; none_earlier = λ p c q. later p c q (dec_lt (first_object t r) p) }
      where
        -- no area of the same object is before
        same : (p c : ℕ) → LostPair t r p c → first_object t r ≡ p → Dec (c < first_area t r (first_object t r)) → first_area t r (first_object t r) ≤ c
        same p c q e (yes h) =
            let here : LostPair t r (first_object t r) c = rw e q in
            absurd (fails (first_under (is_lost t r (first_object t r)) (limit area) c h) (lost_by (first_object t r) c here))
        same p c q e (no h) = omega arith

        -- no object is before
        later : (p c : ℕ) → LostPair t r p c → Dec (first_object t r < p) → NotAfter (first_object t r) (first_area t r (first_object t r)) p c
        later p c q (yes h) = inl h
        later p c q (no h) = go (dec_lt p (first_object t r))
          where
            go : Dec (p < first_object t r) → NotAfter (first_object t r) (first_area t r (first_object t r)) p c
            go (yes k) = absurd (fails (first_under (loses t r) (limit object) p k) (lost_loses p c q))
            go (no k) =
                let e : first_object t r ≡ p = omega arith in
                inr (e, same p c q e (dec_lt c (first_area t r (first_object t r))))

    pub none_lost : some_lost t r ≡ false → (o a : ℕ) → LostPair t r o a → ⊥
    unfolding first_object
    none_lost none o a p =
        let found = first_found (loses t r) (limit object) (some_by (loses t r) (limit object) o (inside o a p).0 (lost_loses o a p)) in
        fails none (lt→ltb (first_object t r) (limit object) found.0)

-- a state that is not valid has lost an import or an export pair
pub some_of : (t : Site) → Shaped t → is_valid t ≡ false → some_lost t import ≡ false → some_lost t export ≡ false → ⊥
some_of t shaped invalid imports exports =
    fails invalid ((valid_decided t).1 (record { imported = has import refl imports; exported = has export refl exports }))
  where
    has : (r : Relation) → first_kind r ≡ object → some_lost t r ≡ false → (o a : ℕ) → T (related t r o a) → T (access (lending t o) a)
    has r kind none o a p = go (test (access (lending t o) a))
      where
        go : T (access (lending t o) a) ⊎ (access (lending t o) a ≡ false) → T (access (lending t o) a)
        go (inl q) = q
        go (inr q) = absurd (none_lost t r shaped kind none o a (record { left = p; lacks = q }))

-- ---- the pairs of one object
-- where each lost pair of the relation is one of object b
module _ (t : Site) (b : ℕ) (h : b < limit object) (r : Relation) (own : (o a : ℕ) → T (is_lost t r o a) → o ≡ b) where
  other : (o : ℕ) → (o ≡ b → ⊥) → loses t r o ≡ false
  other o ne = is_false (loses t r o) (λ f. let q = some_at (is_lost t r o) (limit area) f in ne (own o q.place q.met))

  own_object : T (loses t r b) → first_object t r ≡ b
  unfolding first_object
  own_object f = first_is (loses t r) (limit object) b h (is_true _ f) (λ m k. other m (λ e. omega arith))

  no_object : loses t r b ≡ false → first_object t r ≡ limit object
  unfolding first_object
  no_object none = first_none (loses t r) (limit object) (λ k l. go k (ℕ_discrete k b))
    where
      go : (k : ℕ) → Dec (k ≡ b) → loses t r k ≡ false
      go k (yes e) = rw e none
      go k (no e) = other k e

pub lost_of_one : Laws.LostOfOne
unfolding first_lost lost_of
lost_of_one t b h imports exports = go (test (loses t import b)) (test (loses t export b))
  where
    go : T (loses t import b) ⊎ (loses t import b ≡ false) → T (loses t export b) ⊎ (loses t export b ≡ false) → first_lost t ≡ lost_of t b
    go (inl i) e =
        rw (own_object t b h import imports i, is_true (loses t import b) i, lt-ltb b (limit object) h) refl
    go (inr i) (inl e) =
        rw (no_object t b h import imports i, i, own_object t b h export exports e, is_true (loses t export b) e, lt-ltb b (limit object) h) refl
    go (inr i) (inr e) = rw (no_object t b h import imports i, i, no_object t b h export exports e, e) refl

-- ---- a pair of an object taken from a valid state
-- a pair that is lost afterwards, of another object, was lost before
module _ (s t : Site) (valid : Valid s) (b : ℕ) (same : (o : ℕ) → (o ≡ b → ⊥) → lending t o ≡ lending s o)
    (kept : (r : Relation) (o a : ℕ) → T (related t r o a) → T (related s r o a)) where
  lost_before : (r : Relation) → ((o a : ℕ) → T (related s r o a) → T (access (lending s o) a)) → (o a : ℕ) → T (is_lost t r o a) → o ≡ b
  lost_before r has o a l = go (ℕ_discrete o b)
    where
      go : Dec (o ≡ b) → o ≡ b
      go (yes e) = e
      go (no e) =
          let p = lost_found t r o a l in
          absurd (fails (ap (λ (k : Lending). access k a) (sym (same o e)) ∙ p.lacks) (has o a (kept r o a p.left)))

  own_lost : b < limit object → first_lost t ≡ lost_of t b
  own_lost h = lost_of_one t b h (lost_before import valid.imported) (lost_before export valid.exported)

pub lost_is_own : Laws.LostIsOwn
lost_is_own s valid TheArea k u a b h = absurd k
lost_is_own s valid Owner k u a b h = absurd k
lost_is_own s valid Structure k u a b h = absurd k
lost_is_own s valid Definition k u a b h =
    let listed = with_listed s object b false in
    own_lost s (with_pair listed definition b a false) valid b
    (λ o ne. other_pairs listed definition b a false o (inr (refl, ne)) ∙ lists_do_not_matter s object b false o)
    (λ r o c p. subst T (list_keeps_pairs s object b false r o c) (remove_adds_none listed definition r b a o c p)) h
lost_is_own s valid Import k u a b h =
    own_lost s (with_pair s import b a false) valid b (λ o ne. other_pairs s import b a false o (inr (refl, ne))) (λ r o c p. remove_adds_none s import r b a o c p) h
lost_is_own s valid Export k u a b h =
    own_lost s (with_pair s export b a false) valid b (λ o ne. other_pairs s export b a false o (inr (refl, ne))) (λ r o c p. remove_adds_none s export r b a o c p) h

-- ---- the state that an instruction would give
without_shaped : (s : Site) → Shaped s → (u a : ℕ) → Shaped (without_owner s u a)
without_shaped s h u a =
    let t = with_pair s owner u a false in
    list_shaped t user u (keeps_listed t u) (relate_shaped s owner u a false h)

changed_shaped : (s : Site) → Shaped s → (target : Target) (v : Bool) (u a b : ℕ) → Shaped (changed s target v u a b)
changed_shaped s h TheArea true u a b = relate_shaped (with_listed s area a true) owner u a true (list_shaped s area a true h)
changed_shaped s h TheArea false u a b = list_shaped (without_owner s u a) area a false (without_shaped s h u a)
changed_shaped s h Owner true u a b = relate_shaped (with_listed s user b true) owner b a true (list_shaped s user b true h)
changed_shaped s h Owner false u a b = without_shaped s h b a
changed_shaped s h Definition v u a b = relate_shaped (with_listed s object b v) definition b a v (list_shaped s object b v h)
changed_shaped s h Structure v u a b = relate_shaped s structure a b v h
changed_shaped s h Import v u a b = relate_shaped s import b a v h
changed_shaped s h Export v u a b = relate_shaped s export b a v h

pub given_shaped : (s : Site) (x : Bytes) (d : Decoded) → Shaped s → Shaped (successor_of s x d)
given_shaped s x (Ok y) h = changed_shaped s h (rule y).target (rule y).adds x.activator x.a x.b
given_shaped s x (Err r) h = h

-- 11: "codes 6, 8, 10, 12: the state it would give has an import or export pair whose area lacks access"
eleven_met : (s : Site) (x : Bytes) (d : Decoded) → decode_of x ≡ d → step_refusal s x ≡ 11 → T (met_at 11 ((12 when not (is_sound s)) ∷ (misfits d ++ checks_of s x d)))
unfolding step_refusal
eleven_met s x d q e = rw q at (met_at_lem 11 tt (refusals s x) (once_in (decode_of x)) e)
  where
    once_in : (d : Decoded) → T (once 11 ((12 when not (is_sound s)) ∷ (misfits d ++ checks_of s x d)))
    once_in (Ok y) = tt
    once_in (Err r) = tt

-- the bytes fit an instruction, and the state is valid
pub eleven_fits : (s : Site) (x : Bytes) → step_refusal s x ≡ 11 → (r : Refusal) → decode_of x ≡ Err r → ⊥
eleven_fits s x e r q = eleven_met s x (Err r) q e

pub eleven_valid : (s : Site) (x : Bytes) → step_refusal s x ≡ 11 → Valid s
unfolding step_refusal is_sound
eleven_valid s x e = go (test (is_sound s))
  where
    go : T (is_sound s) ⊎ (is_sound s ≡ false) → Valid s
    go (inl t) = (valid_decided s).0 (and_right (is_well_formed s) (is_valid s) (and_left (is_well_formed s && is_valid s) (no_own_import s) t))
    go (inr f) = let unsound : first_met (refusals s x) ≡ 12 = met _ _ (ap not f) in absurd (omega arith)

pub eleven_removes : Laws.ElevenRemoves
eleven_removes s x y fit e =
    let removes = not (rule y).adds in
    let bears = bears_access (rule y).target in
    let both = and_left (removes && bears) (not (is_valid (successor_of s x (Ok y)))) (eleven_met s x (Ok y) fit e) in
    (is_false (rule y).adds (not_so (rule y).adds (and_left removes bears both)), and_right removes bears both)

pub eleven_invalid : (s : Site) (x : Bytes) → step_refusal s x ≡ 11 → is_valid (successor_of s x (decode_of x)) ≡ false
eleven_invalid s x e = go (decode_of x) refl
  where
    go : (d : Decoded) → decode_of x ≡ d → is_valid (successor_of s x d) ≡ false
    go (Ok y) q =
        let valid = is_valid (successor_of s x (Ok y)) in
        is_false valid (not_so valid (and_right (not (rule y).adds && bears_access (rule y).target) (not valid) (eleven_met s x (Ok y) q e)))
    go (Err r) q = absurd (eleven_met s x (Err r) q e)
