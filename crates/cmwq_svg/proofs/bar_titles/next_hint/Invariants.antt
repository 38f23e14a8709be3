use Rattle.std.proofs.Common.{◌≡◌, drop}
use Rattle.cmwq_svg.specs.BarTitles.{hint_text, hints_behind}
use Rattle.cmwq_svg.proofs.bar_titles.next_hint.Given as goal

-- none of those so far is of the row
abbrev pub invariant-loop-number : goal.invariant-loop-number
invariant-loop-number l = record {
  hint : hint_text l.at (drop l.number l.hints) ≡ hint_text l.at l.hints;
  left : hints_behind l.at (drop l.number l.hints) ≡ hints_behind l.at l.hints;
}
