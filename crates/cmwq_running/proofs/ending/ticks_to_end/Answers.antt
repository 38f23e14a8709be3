use Rattle.std.proofs.Common.{ℕ, sym, ap, ◌∙◌}
use Rattle.std.specs.Prelude.{min, ◌-◌}
use Rattle.cmwq_running.proofs.EndLemmas.{none_before, none_before_next}
use Rattle.cmwq_running.proofs.ending.ticks_to_end.Goals as goal

pub returns-in-None-clause-none_ends : goal.returns-in-None-clause-none_ends
returns-in-None-clause-none_ends c =
    none_before c.args.works.now.scenario c.args.works.now.runs c.requires.long c.args.time c.args.most (λ end is. absurd (let none = sym c.next_end.ensures ∙ c.in-None.is in cc))

pub returns-in-Some-clause-none_ends : goal.returns-in-Some-clause-none_ends
returns-in-Some-clause-none_ends c =
    none_before_next c.args.works.now.scenario c.args.works.now.runs c.args.time c.in-Some.end c.min.result c.args.most c.requires.long c.requires.timely (sym c.next_end.ensures ∙ c.in-Some.is)
    (c.min.ensures ∙ ap (λ (a : ℕ). min a c.from.result) c.saturating_sub.ensures ∙ ap (λ (b : ℕ). min (c.in-Some.end - c.args.time) b) c.from.ensures)
