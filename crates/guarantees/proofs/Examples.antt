-- The paper's examples, computed.
-- Assumes nothing.
use mathlib.Core.Path.{refl}
use Rattle.state.specs.Cells.{member, mark, pair, put}
use Rattle.state.specs.Site.{empty, founding}
use Rattle.state.specs.Tabulate.{tabulate, tabulate_from}
use Rattle.state.specs.Walk.{some_from, some_member, some_pair, count}
use Rattle.access.specs.Lending.{step}
use Rattle.access.specs.Answer.{longest, spread, reached, access}
use Rattle.soundness.specs.Tests.{named, all_own, all_owned, once, all_defined, some_listed, is_valid, disjoint, is_sound}
use Rattle.state.specs.Checks.{first_met}
use Rattle.machine.specs.Step.{step_refusal, step_of, run}
use Rattle.guarantees.specs.Examples

pub papers_examples : Examples.PapersExamples
unfolding member mark pair put empty founding tabulate tabulate_from some_from some_member some_pair step longest spread reached access named all_own all_owned once all_defined some_listed is_valid disjoint is_sound first_met step_refusal step_of run count Examples.examples Examples.session Examples.numbers_from Examples.AllHold
papers_examples =
    record {
      refused = (refl, (refl, (refl, (refl, (refl, (refl, (refl, (refl, (refl, (refl, tt))))))))));
      session_lines = refl;
      session_end = refl;
    }
