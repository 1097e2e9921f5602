-- `capi::panelrights_access` meets its contract: the machine's reply for the state that the bytes stand for.
-- Assumes nothing.
use Prim.Native.Nat.{ℕ}
use mathlib.Core.Path.{◌≡◌, sym, ap, ◌∙◌}
use mathlib.Core.List.{List}
use Rattle.state.specs.Site.{Site}
use Rattle.records.specs.Record.{state_of}
use Rattle.machine.specs.Step.{Reply, reply_of}
use Rattle.interface.specs.Interface.{answer_of, access_number}
use Rattle.interface.proofs.Steps.{reply_is}
use Rattle.capi.proofs.panelrights_access.Goals as goal

answered : (state : List ℕ) (a b : ℕ) {s : Site} {r : Reply} {n : ℕ} → n ≡ answer_of r → r ≡ reply_of s a b → s ≡ state_of state → n ≡ access_number state a b
answered state a b n r s = n ∙ ap answer_of (r ∙ ap (λ (t : Site). reply_of t a b) s) ∙ sym (reply_is state a b)

pub returns : goal.returns
returns c = answered _ _ _ c.answer_of.ensures c.ask.ensures.equation c.state_of.ensures
