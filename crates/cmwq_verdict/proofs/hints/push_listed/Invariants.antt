use Rattle.std.proofs.Common.{◌≡◌, ◌++◌, take}
use Rattle.std.specs.Prelude.{map}
use Rattle.cmwq_verdict.specs.Hints.{things_list}
use Rattle.cmwq_verdict.proofs.hints.push_listed.Given as goal

abbrev pub invariant-loop-word : goal.invariant-loop-word
invariant-loop-word l = l.list.items ≡ l.fn.list.items ++ things_list (map (λ word. word.now) (take l.word-index l.words))
