-- Which instructions are refused as 15. From the number: the checks before 15 are not met and its own is, so the
-- activator owns area a and the instruction is the one that adds an import. To the number: soundness passes the checks
-- before 15.
-- Assumes nothing.
use Prim.Native.Nat.{ℕ}
use mathlib.Core.Path.{◌≡◌, refl, sym, ap, subst, ◌∙◌}
use mathlib.Core.Logic.{◌⊎◌, inl, inr}
use mathlib.Core.Bool.{Bool, false, ◌&&◌, ◌||◌, not}
use borrow.Author.Tests.{eqb-true, lt-ltb}
use lib.Dec.{T, eqb}
use Rattle.std.proofs.Common.{Some, Ok, Err}
use Rattle.state.specs.Site.{user, area, object, listed, owner, definition, owns, defines, imports}
use Rattle.state.specs.Site.{Site}
use Rattle.state.specs.Checks.{◌when◌, first_met}
use Rattle.state.proofs.Bools.{is_true, is_false, or_cases, not_so, so}
use Rattle.state.proofs.Checks.{met, passed, met_at_lem, unmet_before}
use Rattle.state.proofs.Laws.{related_inside}
use Rattle.soundness.specs.Sound.{Named, Sound}
use Rattle.instructions.specs.Instructions.{Bytes, instruction_of, rule}
use Rattle.instructions.specs.Decode.{Decoded, decode_of}
use Rattle.instructions.proofs.Laws.{fits_exactly}
use Rattle.instructions.specs.declared.Instruction.{Instruction}
use Rattle.instructions.specs.declared.Instruction.TheVariants.{AddImport}
use Rattle.readings.specs.Readings.{seen_of}
use Rattle.readings.specs.declared.Seen.{Seen}
use Rattle.refusals.specs.Refusals.{entitled, own_import}
use Rattle.guarantees.specs.OwnImport
use Rattle.guarantees.specs.OwnImport.{OwnImport}
use Rattle.guarantees.proofs.Rows.{picks_one, by_code}
use Rattle.guarantees.proofs.Kept.{unmet, both_unmet, table_of, from_3}
use Rattle.guarantees.proofs.Demand3.{by_table}

-- ---- code 9
-- the condition of 15
abbrev asks15 : Seen → Instruction → Bool
asks15 v x = (rule x).adds && own_import v (rule x).target

-- an instruction that is not of code 9 does not meet it
import_code : (v : Seen) (code : ℕ) (x : Instruction) → instruction_of code ≡ Some x → T (asks15 v x) → code ≡ 9
import_code v code x picks t = go (or_cases (eqb code 9) (not (asks15 v x)) (by_code (λ k y. eqb k 9 || not (asks15 v y)) tt code x picks))
  where
    go : T (eqb code 9) ⊎ T (not (asks15 v x)) → code ≡ 9
    go (inl e) = eqb-true code 9 (is_true (eqb code 9) e)
    go (inr f) = absurd (not_so (asks15 v x) f t)

module _ (s : Site) (bytes : Bytes) where
  abbrev seen : Seen
  seen = seen_of s bytes.activator bytes.a bytes.b

  -- ---- from the number
  from_number : (d : Decoded) → decode_of bytes ≡ d → first_met (table_of s bytes d) ≡ 15 → OwnImport s bytes
  from_number (Err refusal) fit e = absurd (met_at_lem 15 tt (table_of s bytes (Err refusal)) tt e)
  from_number (Ok x) fit e =
      let entitles = unmet_before 5 15 (table_of s bytes (Ok x)) tt e in
      let asked = met_at_lem 15 tt (table_of s bytes (Ok x)) tt e in
      let picked : instruction_of bytes.code ≡ Some x = ((fits_exactly bytes x).0 fit).picked in
      let code = import_code seen bytes.code x picked asked in
      let adds : x ≡ AddImport = picks_one (sym picked ∙ ap instruction_of code) in
      record {
        code = code;
        owned = so (owns s bytes.activator bytes.a) (subst (λ (y : Instruction). not (entitled seen (rule y).ownership) ≡ false) adds entitles);
        defined = subst (λ (y : Instruction). T (asks15 seen y)) adds asked;
      }

  -- ---- to the number
  module _ (h : Sound s) (own : OwnImport s bytes) where
    owner_named : Named s owner bytes.activator bytes.a
    owner_named = h.consistent owner bytes.activator bytes.a own.owned

    object_named : Named s definition bytes.b bytes.a
    object_named = h.consistent definition bytes.b bytes.a own.defined

    fitting : decode_of bytes ≡ Ok AddImport
    fitting =
        let u = related_inside s owner bytes.activator bytes.a h.shaped own.owned in
        let b = related_inside s definition bytes.b bytes.a h.shaped own.defined in
        (fits_exactly bytes AddImport).1
        (record {
          picked = ap instruction_of own.code;
          is_in_range = rw (lt-ltb _ _ u.0, lt-ltb _ _ u.1, lt-ltb _ _ b.0) tt;
        })

    to_number : first_met (table_of s bytes (Ok AddImport)) ≡ 15
    to_number =
        from_3 s (rule AddImport) bytes.activator bytes.a bytes.b h
        ∙ passed (3 when _) _ (unmet (listed s user bytes.activator) owner_named.first)
        ∙ passed (4 when _) _ (both_unmet (listed s area bytes.a) (listed s object bytes.b) object_named.second object_named.first)
        ∙ passed (5 when _) _ (unmet (owns s bytes.activator bytes.a) own.owned)
        ∙ passed (6 when _) _ (is_false (imports s bytes.b bytes.a) (λ p. h.has_no_own_import bytes.b bytes.a p own.defined))
        ∙ passed (7 when _) _ refl
        ∙ met (15 when _) _ (is_true (defines s bytes.b bytes.a) own.defined)

pub own_import_exactly : OwnImport.OwnImportExactly
own_import_exactly s h bytes = (
  λ e. from_number s bytes (decode_of bytes) refl (sym (by_table s bytes (decode_of bytes) refl) ∙ e),
  λ own. by_table s bytes (Ok AddImport) (fitting s bytes h own) ∙ to_number s bytes h own,
)
