-- `instructions::decode` meets its contract: the number is that of what was decoded.
-- Assumes nothing.
use Rattle.std.proofs.Common.{rules, ◌≡◌, ap, ◌∙◌, Ok, Err}
use Rattle.verdicts.specs.declared.Refusal.TheVariants.{OutOfRange}
use Rattle.state.specs.Checks.{first_met}
use Rattle.instructions.specs.Instructions.{Bytes, instruction_of}
use Rattle.instructions.specs.Decode.{Decoded, decode_of, decoded_number, misfits}
use Rattle.instructions.proofs.Laws.{decoded_by_table}
use Rattle.instructions.proofs.decode.Goals as goal

number_of : (bytes : Bytes) (d : Decoded) → d ≡ decode_of bytes → decoded_number d ≡ first_met (misfits (decode_of bytes))
number_of bytes d e = ap decoded_number e ∙ decoded_by_table bytes (instruction_of bytes.code)

pub returns-in_err-x-clause-number : goal.returns-in_err-x-clause-number
returns-in_err-x-clause-number c = number_of c.args.bytes c.from_residual.result (search rules)

pub returns-then-not-is_in_range-clause-number : goal.returns-then-not-is_in_range-clause-number
returns-then-not-is_in_range-clause-number c = number_of c.args.bytes (Err OutOfRange) (search rules)

pub returns-clause-number : goal.returns-clause-number
returns-clause-number c = number_of c.args.bytes (Ok c.in_ok-x.x) (search rules)
