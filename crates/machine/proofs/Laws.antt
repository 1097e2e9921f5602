-- The claims of specs/Claims.antt and the laws of specs/Laws.antt, each proved under its name.
-- Assumes nothing.
use Rattle.std.proofs.Common.{Ok, Err}
use Prim.Native.Nat.{ℕ}
use mathlib.Core.Path.{refl, sym, ap, ◌∙◌}
use mathlib.Core.Bool.{Bool, true, false, not, cond}
use mathlib.Core.List.{◌∷◌, ◌++◌}
use lib.Dec.{T, eqb, ltb, ltb→lt}
use borrow.Author.Tests.{eq-eqb, ne_eqb}
use Rattle.state.specs.Site.{Site}
use Rattle.state.proofs.Bools.{not_so, holds}
use Rattle.state.proofs.Checks.{each_of, first_meets, among_meets, none_met_at, met, passed}
use Rattle.state.specs.Checks.{◌when◌, first_met, among, each_number, numbered}
use Rattle.access.specs.Lending.{lending}
use Rattle.access.specs.Answer.{Answer, answer}
use Rattle.access.proofs.Laws.{answer_is_right}
use Rattle.soundness.specs.Tests.{is_sound}
use Rattle.successors.specs.Successor.{successor_of}
use Rattle.instructions.specs.Instructions.{Bytes}
use Rattle.instructions.specs.Decode.{Decoded, decode_of, misfits}
use Rattle.refusals.specs.Refusals.{checks_of, further_refusals, refusals, step_numbers}
use Rattle.machine.specs.Step.{step_refusal, step_of, run, refused_or, reply_of, question_refusals, AnswerMeans}
use Rattle.machine.specs.Step.{Refused, Answered}
use Rattle.machine.specs.Claims
use Rattle.machine.specs.Laws

-- each number of the table is one of the list
a_number : ℕ → Bool
a_number n = among n (0 ∷ step_numbers)

each : (s : Site) (bytes : Bytes) (d : Decoded) → T (each_number a_number (misfits d ++ checks_of s bytes d))
unfolding a_number
each s bytes (Ok x) = tt
each s bytes (Err refusal) = tt

pub refusal_numbers : Claims.RefusalNumbers
unfolding a_number step_of step_refusal
refusal_numbers s bytes = first_meets a_number (refusals s bytes) tt (each s bytes (decode_of bytes))

-- and what holds of each number of the list holds of the one that is given
pub number_meets : (test : ℕ → Bool) → T (each_of test (0 ∷ step_numbers)) → (s : Site) (bytes : Bytes) → T (test (step_of s bytes).refusal)
number_meets test e s bytes = among_meets test (0 ∷ step_numbers) _ e (refusal_numbers s bytes)

pub never_thirteen : Claims.NeverThirteen
never_thirteen s bytes e = not_so (eqb (step_of s bytes).refusal 13) (number_meets (λ n. not (eqb n 13)) tt s bytes) (holds (eq-eqb _ 13 e))

pub two_digits : Laws.TwoDigits
two_digits s bytes = ltb→lt (step_of s bytes).refusal 100 (number_meets (λ n. ltb n 100) tt s bytes)

all_numbered : (s : Site) (bytes : Bytes) (d : Decoded) → T (numbered (misfits d ++ checks_of s bytes d))
all_numbered s bytes (Ok x) = tt
all_numbered s bytes (Err refusal) = tt

pub accepted_meets_none : Claims.AcceptedMeetsNone
unfolding step_of step_refusal
accepted_meets_none s bytes e n = none_met_at (refusals s bytes) (all_numbered s bytes (decode_of bytes)) e n

pub number_is_refusal : Laws.NumberIsRefusal
unfolding step_of
number_is_refusal s bytes = refl

pub number_by_first : Laws.NumberByFirst
unfolding step_of step_refusal
number_by_first s bytes = refl

pub accepted_gives : Laws.AcceptedGives
unfolding step_of
accepted_gives s bytes e = ap (λ (b : Bool). cond b (successor_of s bytes (decode_of bytes)) s) (eq-eqb (step_refusal s bytes) 0 e)

-- 12 is not one of the further numbers
not_twelve : ℕ → Bool
not_twelve n = not (eqb n 12)

each_other : (s : Site) (bytes : Bytes) (d : Decoded) → T (each_number not_twelve (misfits d ++ checks_of s bytes d))
unfolding not_twelve
each_other s bytes (Ok x) = tt
each_other s bytes (Err refusal) = tt

pub sound_never_twelve : Laws.SoundNeverTwelve
unfolding not_twelve
sound_never_twelve s bytes e q =
    not_so (eqb (first_met (further_refusals s bytes)) 12) (first_meets not_twelve (further_refusals s bytes) tt (each_other s bytes (decode_of bytes)))
    (holds (eq-eqb _ 12 (sym (number_by_first s bytes ∙ passed (12 when not (is_sound s)) _ (ap not e)) ∙ q)))

pub unsound_refused : Laws.UnsoundRefused
unfolding step_of step_refusal
unsound_refused s bytes e = met (12 when not (is_sound s)) _ (ap not e)

pub unsound_unanswered : Laws.UnsoundUnanswered
unfolding reply_of
unsound_unanswered s a b e =
    ap (λ (n : ℕ). refused_or n (answer (lending s b) a)) (met (12 when not (is_sound s)) _ (ap not e))

pub reply_by_first : Laws.ReplyByFirst
unfolding reply_of
reply_by_first s a b = refl

pub refused_unchanged : Claims.RefusedUnchanged
unfolding step_of
refused_unchanged s bytes f = ap (λ (b : Bool). cond b (successor_of s bytes (decode_of bytes)) s) (ne_eqb (step_refusal s bytes) 0 f)

pub run_none : Laws.RunNone
unfolding run
run_none s = refl

pub run_more : Laws.RunMore
unfolding run
run_more s bytes rest = refl

pub question_order : Claims.QuestionOrder
question_order s a b = refl

pub reply_is_right : Claims.ReplyIsRight
reply_is_right s a b = rw (reply_by_first s a b) (go (eqb (first_met (question_refusals s a b)) 0))
  where
    x : Answer
    x = answer (lending s b) a

    go : (v : Bool) → AnswerMeans s a b (cond v (Answered x) (Refused (first_met (question_refusals s a b))))
    go true = answer_is_right (lending s b) a
    go false = tt
