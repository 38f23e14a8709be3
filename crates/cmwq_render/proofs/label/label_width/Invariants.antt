use Rattle.std.proofs.Common.{◌≡◌, drop, max}
use Rattle.cmwq_render.specs.Labels.{longest}
use Rattle.cmwq_render.proofs.label.label_width.Given as goal

-- the longest of those so far and of those that are left is the longest
abbrev pub invariant-loop-row : goal.invariant-loop-row
invariant-loop-row l = max l.width (longest l.scenario l.letters (drop l.row-index l.rows)) ≡ longest l.scenario l.letters l.rows
