use Rattle.std.proofs.Common.{◌≡◌, take}
use Rattle.std.specs.Prelude.{map}
use Rattle.cmwq_advice.proofs.on_scenario.work_names.Given as goal

-- the names so far
abbrev pub invariant-loop-work : goal.invariant-loop-work
invariant-loop-work l = map (λ name. name.now) l.names.items ≡ map (λ work. work.name) (take l.work-index l.scenario.works)
