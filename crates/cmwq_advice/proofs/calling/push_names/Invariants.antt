use Rattle.std.proofs.Common.{◌≡◌, ◌++◌, take}
use Rattle.std.specs.Prelude.{map}
use Rattle.cmwq_advice.specs.Advice.{name_list}
use Rattle.cmwq_advice.proofs.calling.push_names.Given as goal

-- the names so far are there
abbrev pub invariant-loop-name : goal.invariant-loop-name
invariant-loop-name l = l.line.items ≡ l.fn.line.items ++ name_list (map (λ name. name.now) (take l.name-index l.names))
