-- The claims of specs/Claims.antt, each proved under its name.
-- Assumes nothing.
use Prim.Native.Nat.{ℕ}
use mathlib.Core.Path.{◌≡◌, sym, ap, subst, ◌∙◌}
use mathlib.Core.Bool.{Bool}
use mathlib.Core.List.{List, [], ◌∷◌}
use Rattle.bits.specs.Rows.{Rows, cells_of}
use Rattle.state.specs.Site.{Site, user, area, object, owner, definition, structure, import, export, site_of, Verdict}
use Rattle.state.specs.Stands.{site, Sized, Fits}
use Rattle.state.specs.declared.State.{State}
use Rattle.relations.specs.Claims.{packed}
use Rattle.relations.proofs.Laws.{packed_length, packed_fit, cells_of_packed, packed_of_cells}
use Rattle.soundness.specs.Sound.{Sound}
use Rattle.instructions.specs.Instructions.{Bytes}
use Rattle.machine.specs.Step.{step_of, run, reply_of}
use Rattle.machine.proofs.Laws.{run_none, run_more}
use Rattle.refinement.specs.Refinement.{record_of}
use Rattle.refinement.specs.Claims
use Rattle.refinement.specs.Claims.{Outcome, Steps, run_by}

-- ---- one to one
sized : (n : ℕ) (cells : List Bool) → Sized n (packed n cells)
sized n cells = record { long = packed_length n cells; fit = packed_fit n cells }

back : (n : ℕ) (rows : Rows) → Sized n rows → packed n (cells_of rows) ≡ rows
back n rows h = ap (λ (m : ℕ). packed m (cells_of rows)) (sym h.long) ∙ packed_of_cells rows h.fit

pub new_of_old : Claims.NewOfOld
unfolding site record_of
new_of_old t h =
    record {
      fits = record {
        users = sized 1 t.users;
        areas = sized 1 t.areas;
        objects = sized 2 t.objects;
        owners = sized 32 t.owners;
        definitions = sized 64 t.definitions;
        structure = sized 32 t.structure;
        imports = sized 64 t.imports;
        exports = sized 64 t.exports;
      };
      stands = λ i.
          site_of (cells_of_packed 1 t.users (h.sets user) i) (cells_of_packed 1 t.areas (h.sets area) i)
          (cells_of_packed 2 t.objects (h.sets object) i) (cells_of_packed 32 t.owners (h.relations owner) i)
          (cells_of_packed 64 t.definitions (h.relations definition) i) (cells_of_packed 32 t.structure (h.relations structure) i)
          (cells_of_packed 64 t.imports (h.relations import) i) (cells_of_packed 64 t.exports (h.relations export) i);
    }

pub old_of_new : Claims.OldOfNew
unfolding site record_of
old_of_new s h i =
    record {
      users = back 1 s.users h.users i;
      areas = back 1 s.areas h.areas i;
      objects = back 2 s.objects h.objects i;
      owners = back 32 s.owners h.owners i;
      definitions = back 64 s.definitions h.definitions i;
      structure = back 32 s.structure h.structure i;
      imports = back 64 s.imports h.imports i;
      exports = back 64 s.exports h.exports i;
    }

pub sound_alike : Claims.SoundAlike
sound_alike t h =
    let e = (new_of_old t h).stands in
    (λ s. subst Sound (sym e) s, λ s. subst Sound e s)

-- ---- the same answers
module _ (step : State → Bytes → Outcome) (keeps : Steps step) where
  -- what stands for the state after a step is the state after the step
  stands : (s : State) (x : Bytes) → site (step s x).state ≡ (step_of (site s) x).state
  stands s x = ap (λ (v : Verdict). v.state) (keeps.promise s x)

  run_stands : (s : State) (list : List Bytes) → Fits s → (site (run_by step s list) ≡ run (site s) list) × Fits (run_by step s list)
  run_stands s [] h = (sym (run_none (site s)), h)
  run_stands s (x ∷ rest) h =
      let after = run_stands (step s x).state rest (keeps.fits s x h) in
      (after.0 ∙ ap (λ (t : Site). run t rest) (stands s x) ∙ sym (run_more (site s) x rest), after.1)

pub steps_by_contract : Claims.StepsByContract
steps_by_contract answer left fits promise = record { fits = fits; promise = promise }

pub same_step : Claims.SameStep
same_step step keeps t h x =
    let new = new_of_old t h in
    let e : verdict_of ≡ step_of t x = keeps.promise (record_of t) x ∙ ap (λ (u : Site). step_of u x) new.stands in
    record {
      number = ap (λ (v : Verdict). v.refusal) e;
      state = sym (old_of_new (step (record_of t) x).state (keeps.fits (record_of t) x new.fits)) ∙ ap record_of (ap (λ (v : Verdict). v.state) e);
    }
  where
    verdict_of : Verdict
    verdict_of = record { refusal = (step (record_of t) x).refusal; state = site (step (record_of t) x).state }

pub same_run : Claims.SameRun
same_run step keeps t h list =
    let new = new_of_old t h in
    let after = run_stands step keeps (record_of t) list new.fits in
    sym (old_of_new (run_by step (record_of t) list) after.1) ∙ ap record_of (after.0 ∙ ap (λ (u : Site). run u list) new.stands)

pub same_reply : Claims.SameReply
same_reply ask promise t h a b = promise (record_of t) a b ∙ ap (λ (u : Site). reply_of u a b) (new_of_old t h).stands
