use Rattle.std.proofs.Common.{◌≡◌, None, map}
use Rattle.std.specs.Prelude.{string_bytes}
use Rattle.cmwq_advice.specs.ExplainOption.{first_place}
use Rattle.cmwq_advice.proofs.explain_option.take_explain.Given as goal

-- the words are as they were, and the option isn't among the first ones
abbrev pub invariant-loop-place : goal.invariant-loop-place
invariant-loop-place l = record { same : l.words.items ≡ l.fn.words.items; none : first_place (map string_bytes l.fn.words.items) l.place ≡ None }
