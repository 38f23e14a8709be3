use Rattle.std.proofs.Common.{◌≡◌, ◌++◌, None, drop}
use Rattle.cmwq_render.specs.Acts.{acts_from}
use Rattle.cmwq_render.proofs.act_lines.push_acts.Given as goal

-- what is written, and what those that are left come to, is the whole
abbrev pub invariant-loop-act : goal.invariant-loop-act
invariant-loop-act l = l.text.items ++ acts_from l.scenario l.before (drop l.act-index l.acts) ≡ l.fn.text.items ++ acts_from l.scenario None l.acts
