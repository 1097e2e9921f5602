-- Texts laid over a buffer one behind the other.
--     laid_exactly, place_counts                  the claims
--     laid_length, laid_past                      the buffer stays as long; past its end nothing changes
--     Placed                                      what a function that lays a text promises of its answer and its buffer
--     placed_none, placed_then, placed_3          nothing, one text behind another, and three
--     placed_length, placed_known                 the buffer stays as long
--     Turns, LaidTo                               a loop that lays a text in turns, and what it has laid
--     turns_none, turns_more, turns_all           before the first turn, one turn more, after the last
-- Assumes nothing.
use Prim.Native.Nat.{ℕ, suc, ◌+◌, ◌^◌, ◌≤◌, ◌<◌}
use mathlib.Core.Path.{◌≡◌, refl, sym, ap, subst, ◌∙◌}
use mathlib.Core.List.{List, [], ◌∷◌, ◌++◌, append_assoc, append-nil}
use native.Mathlib.Nat.{add-zero}
use native.Mathlib.Omega.{arith}
use native.Mathlib.Decide.{dec_lt}
use lib.ListN.{length, take, drop, set, length-append, length-set, take-append-drop}
use lib.Seq.{length-sets, set_out, take_all, take-length, take-append_seam, take-suc-set, drop-set-lt, append_snoc}
use Rattle.state.proofs.Stores.{sets_append}
use Rattle.output.specs.Buffer.{laid, last_place, place_behind}
use Rattle.output.specs.Claims.{LaidExactly, PlaceCounts}

-- ---- one text
pub place_counts : PlaceCounts
unfolding place_behind
place_counts at text h = omega arith

place_stops : (at : ℕ) (text : List ℕ) → last_place ≤ at + length text → place_behind at text ≡ last_place
unfolding place_behind
place_stops at text h = omega arith

pub laid_length : (text : List ℕ) (at : ℕ) (buffer : List ℕ) → length (laid text at buffer) ≡ length buffer
unfolding laid
laid_length text at buffer = length-sets buffer at text

pub laid_past : (text : List ℕ) (at : ℕ) (buffer : List ℕ) → length buffer ≤ at → laid text at buffer ≡ buffer
unfolding laid
laid_past [] at buffer h = refl
laid_past (x ∷ text) at buffer h = rw (set_out buffer at x h) (laid_past text (suc at) buffer (omega arith))

-- one byte more of the text, inside the buffer
laid_inside : (x : ℕ) (text : List ℕ) (at : ℕ) (b : List ℕ) → at < length b
    → take (suc at) (set b at x) ++ text ++ drop (suc at + length text) (set b at x) ≡ take at b ++ (x ∷ text) ++ drop (at + suc (length text)) b
laid_inside x text at b h =
    let end : suc at + length text ≡ at + suc (length text) = omega arith in
    rw (take-suc-set b at x h, drop-set-lt (suc at + length text) b at x (omega arith))
    (ap (λ (l : List ℕ). l ++ drop (suc at + length text) b) (append_snoc (take at b) x text)
    ∙ ap (λ (k : ℕ). take at b ++ (x ∷ text) ++ drop k b) end)

-- past the buffer's end the text is dropped
laid_outside : (text : List ℕ) (at : ℕ) (b rest : List ℕ) → length b ≤ at → take (length b) (take at b ++ text ++ rest) ≡ b
laid_outside text at b rest h =
    rw (take_all at b h, append_assoc b text rest) (take-append_seam b (text ++ rest))

pub laid_exactly : LaidExactly
unfolding laid
laid_exactly [] at b = sym (rw (add-zero at, append-nil (take at b), take-append-drop at b) (take-length b))
laid_exactly (x ∷ text) at b = go (dec_lt at (length b)) (laid_exactly text (suc at) (set b at x))
  where
    go : Dec (at < length b)
        → laid text (suc at) (set b at x) ≡ take (length (set b at x)) (take (suc at) (set b at x) ++ text ++ drop (suc at + length text) (set b at x))
        → laid text (suc at) (set b at x) ≡ take (length b) (take at b ++ (x ∷ text) ++ drop (at + suc (length text)) b)
    go (yes h) e = e ∙ rw (length-set b at x, laid_inside x text at b h) refl
    go (no h) e =
        let out : length b ≤ at = omega arith in
        laid_past (x ∷ text) at b out ∙ sym (laid_outside (x ∷ text) at b _ out)

-- ---- one text behind another
-- what a function that lays a text promises: its answer is the place behind the text, and the buffer has the text
abbrev pub Placed : (text : List ℕ) (at : ℕ) (before : List ℕ) (end : ℕ) (after : List ℕ) → Type 0
Placed text at before end after = (end ≡ place_behind at text) × (after ≡ laid text at before)

pub placed_length : (t : List ℕ) (at : ℕ) (b : List ℕ) (end : ℕ) (c : List ℕ) → Placed t at b end c → length c ≡ length b
placed_length t at b end c p = ap length p.1 ∙ laid_length t at b

-- so a length is known of it too
pub placed_known : (t : List ℕ) (at : ℕ) (b : List ℕ) (end : ℕ) (c : List ℕ) → Placed t at b end c → length b < 2 ^ 64 → length c < 2 ^ 64
placed_known t at b end c p h = subst (λ (n : ℕ). n < 2 ^ 64) (sym (placed_length t at b end c p)) h

place_then : (t u : List ℕ) (at : ℕ) → place_behind (place_behind at t) u ≡ place_behind at (t ++ u)
unfolding place_behind
place_then t u at = let both : length (t ++ u) ≡ length t + length u = length-append t u in omega arith

laid_append : (t u : List ℕ) (at : ℕ) (b : List ℕ) → laid (t ++ u) at b ≡ laid u (at + length t) (laid t at b)
unfolding laid
laid_append t u at b = sets_append b at t u

-- a place that is counted no further stands past the end of the buffer: no slice has more bytes
laid_then : (t u : List ℕ) (at : ℕ) (b : List ℕ) → length b < 2 ^ 64 → laid u (place_behind at t) (laid t at b) ≡ laid (t ++ u) at b
laid_then t u at b known = go (dec_lt last_place (at + length t))
  where
    go : Dec (last_place < at + length t) → laid u (place_behind at t) (laid t at b) ≡ laid (t ++ u) at b
    go (no h) = ap (λ (k : ℕ). laid u k (laid t at b)) (place_counts at t (omega arith)) ∙ sym (laid_append t u at b)
    go (yes h) =
        let same : length (laid t at b) ≡ length b = laid_length t at b in
        let last : place_behind at t ≡ last_place = place_stops at t (omega arith) in
        laid_past u (place_behind at t) (laid t at b) (omega arith) ∙ sym (laid_append t u at b ∙ laid_past u (at + length t) (laid t at b) (omega arith))

pub placed_none : (at : ℕ) (b : List ℕ) → at < 2 ^ 64 → Placed [] at b at b
unfolding place_behind laid
placed_none at b fits = (omega arith, refl)

pub placed_then : (t u : List ℕ) (at : ℕ) (b : List ℕ) → length b < 2 ^ 64 → (m : ℕ) (c : List ℕ) (end : ℕ) (d : List ℕ)
    → Placed t at b m c → Placed u m c end d → Placed (t ++ u) at b end d
placed_then t u at b known m c end d p q =
    (q.0 ∙ rw p.0 (place_then t u at), q.1 ∙ rw (p.0, p.1) (laid_then t u at b known))

pub placed_3 : (t u v : List ℕ) (at : ℕ) (b : List ℕ) → length b < 2 ^ 64 → (m : ℕ) (c : List ℕ) (n : ℕ) (d : List ℕ) (end : ℕ) (e : List ℕ)
    → Placed t at b m c → Placed u m c n d → Placed v n d end e → Placed (t ++ u ++ v) at b end e
placed_3 t u v at b known m c n d end e p q r =
    placed_then (t ++ u) v at b known n d end e (placed_then t u at b known m c n d p q) r

-- ---- a loop that lays a text in n turns: part i in turn i, before which rest i is still to come
pub record Turns (n : ℕ) (part rest : ℕ → List ℕ) : Type 0 where
  pub more : (i : ℕ) → i < n → rest i ≡ part i ++ rest (i + 1)
  pub none : rest n ≡ []

-- before turn i the text up to it is laid
pub record LaidTo (n : ℕ) (rest : ℕ → List ℕ) (i at₀ : ℕ) (b₀ : List ℕ) (at : ℕ) (b : List ℕ) : Type 0 where
  pub known : length b₀ < 2 ^ 64
  pub within : i ≤ n
  pub done : List ℕ
  pub split : rest 0 ≡ done ++ rest i
  pub placed : Placed done at₀ b₀ at b

pub turns_none : (n : ℕ) (rest : ℕ → List ℕ) (at : ℕ) (b : List ℕ) → at < 2 ^ 64 → length b < 2 ^ 64 → LaidTo n rest 0 at b at b
turns_none n rest at b fits known =
    record { known = known; within = omega arith; done = []; split = refl; placed = placed_none at b fits }

module _ (n : ℕ) (part rest : ℕ → List ℕ) (turns : Turns n part rest) (i at₀ : ℕ) (b₀ : List ℕ) (at : ℕ) (b : List ℕ) (p : LaidTo n rest i at₀ b₀ at b) where
  parted : i < n → rest 0 ≡ p.done ++ part i ++ rest (i + 1)
  parted h = p.split ∙ ap (λ (r : List ℕ). p.done ++ r) (turns.more i h) ∙ sym (append_assoc p.done (part i) (rest (i + 1)))

  pub turns_more : i < n → (end : ℕ) (c : List ℕ) → Placed (part i) at b end c → LaidTo n rest (i + 1) at₀ b₀ end c
  turns_more h end c q =
      record {
        known = p.known;
        within = omega arith;
        done = p.done ++ part i;
        split = parted h;
        placed = placed_then p.done (part i) at₀ b₀ p.known at b end c p.placed q;
      }

  pub turns_all : n ≤ i → Placed (rest 0) at₀ b₀ at b
  turns_all h =
      let within : i ≤ n = p.within in
      let last : i ≡ n = omega arith in
      let whole : rest 0 ≡ p.done = p.split ∙ ap (λ (r : List ℕ). p.done ++ r) (ap rest last ∙ turns.none) ∙ append-nil p.done in
      rw whole p.placed
