-- `transcript::print` meets its contract: no transcript is too long for the buffer.
-- Assumes nothing.
use Rattle.std.proofs.Common.{◌≡◌, ℕ, ◌≤◌, Result, Ok, Err, length, sym, ap, ◌∙◌, arith}
use Rattle.std.specs.Result.{result_unwrap_or}
use Rattle.verdicts.specs.declared.Refusal.{Refusal}
use Rattle.verdicts.proofs.Laws.{never_zero}
use Rattle.output.specs.Buffer.{Written, written, as_written}
use Rattle.output.proofs.Buffer.{fits_written}
use Rattle.transcript.specs.Transcript.{most_printed, transcript_of}
use Rattle.transcript.proofs.Printed.{printed_at_most}
use Rattle.transcript.proofs.print.Goals as goal

-- what is not refused is the count
counted : (r : Result ℕ Refusal) {n : ℕ} → as_written r ≡ written 0 n → result_unwrap_or r 0 ≡ n
counted (Ok count) e = ap (λ (w : Written). w.length) e
counted (Err refusal) e = absurd (never_zero refusal (ap (λ (w : Written). w.refusal) e))

pub returns : goal.returns
returns c =
    let most : length (transcript_of c.args.input.now) ≤ most_printed = printed_at_most _ in
    let room : length (transcript_of c.args.input.now) ≤ length c.args.output.now = omega (arith, most) in
    let count : c.unwrap_or.result ≡ length (transcript_of c.args.input.now) =
    c.unwrap_or.ensures ∙ counted c.write.result (c.write.ensures.written ∙ sym (fits_written _ _ room)) in
    record { count = count; within = omega (arith, count, most); buffer = c.write.ensures.buffer }
