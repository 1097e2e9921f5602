-- Tables that were written one behind the other stand where the header states them.
-- Assumes nothing.
use Prim.Native.Nat.{ℕ, ◌+◌}
use mathlib.Core.Path.{◌≡◌, sym, ap, ap₂, subst, ◌∙◌}
use mathlib.Core.List.{List, [], ◌∷◌, ◌++◌, append_assoc, append-nil}
use lib.Dec.{T, eqb, eqb_refl}
use lib.ListN.{length, take, drop, length-append}
use lib.Seq.{take-append_seam, drop-append_seam}
use Rattle.state.specs.Site.{Site}
use Rattle.state.proofs.Bools.{and_both}
use Rattle.site_format.specs.Format.{Content, offset_in, size_in, part}
use Rattle.site_header.specs.Header.{placed_from}
use Rattle.site_format.proofs.Tables.{Each}
use Rattle.site_encoding.specs.Encode.{content_of, body_of}

module _ (file : List ℕ) (s : Site) (l : List ℕ) where
  -- the header states of each table where it stands and how many bytes it has
  abbrev pub Stated : List Content → ℕ → Type 0
  Stated [] at = Unit
  Stated (c ∷ rest) at = (offset_in file c ≡ at) × (size_in file c ≡ length (content_of s l c)) × Stated rest (at + length (content_of s l c))

  -- one table further on
  tail : (c : Content) (rest : List Content) (front : List ℕ) → file ≡ front ++ (content_of s l c ++ body_of s l rest) → file ≡ (front ++ content_of s l c) ++ body_of s l rest
  tail c rest front e = e ∙ sym (append_assoc front (content_of s l c) (body_of s l rest))

  further : (c : Content) (rest : List Content) (front : List ℕ) → Stated rest (length front + length (content_of s l c)) → Stated rest (length (front ++ content_of s l c))
  further c rest front st = subst (Stated rest) (sym (length-append front (content_of s l c))) st

  -- each table's bytes are those that were written
  pub all_written : (cs : List Content) (front : List ℕ) → file ≡ front ++ body_of s l cs → Stated cs (length front) → Each (λ c. part file c ≡ content_of s l c) cs
  all_written [] front e st = tt
  all_written (c ∷ rest) front e st =
      (ap₂ (λ (n at : ℕ). take n (drop at file)) st.1 st.0 ∙ here, all_written rest (front ++ content_of s l c) (tail c rest front e) (further c rest front st.2))
    where
      here : take (length (content_of s l c)) (drop (length front) file) ≡ content_of s l c
      here =
          ap (λ (f : List ℕ). take (length (content_of s l c)) (drop (length front) f)) e
          ∙ ap (take (length (content_of s l c))) (drop-append_seam front (content_of s l c ++ body_of s l rest))
          ∙ take-append_seam (content_of s l c) (body_of s l rest)

  pub all_placed : (cs : List Content) (front : List ℕ) → file ≡ front ++ body_of s l cs → Stated cs (length front) → T (placed_from file cs (length front))
  all_placed [] front e st = subst (λ (n : ℕ). T (eqb (length front) n)) (ap length (sym (append-nil front)) ∙ ap length (sym e)) (eqb_refl (length front))
  all_placed (c ∷ rest) front e st =
      and_both (eqb (offset_in file c) (length front)) (placed_from file rest (length front + size_in file c))
      (subst (λ (n : ℕ). T (eqb n (length front))) (sym st.0) (eqb_refl (length front)))
      (subst (λ (n : ℕ). T (placed_from file rest n)) (length-append front (content_of s l c) ∙ ap (λ (n : ℕ). length front + n) (sym st.1))
      (all_placed rest (front ++ content_of s l c) (tail c rest front e) (further c rest front st.2)))
