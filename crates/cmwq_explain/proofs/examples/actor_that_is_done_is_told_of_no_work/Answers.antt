-- The definitions compute the text.
use Rattle.std.proofs.Common.{◌≡◌, ◌&&◌, ℕ, Bool, List, Option, codes, nat_lt, option_map, refl, subst, sym}
use Rattle.std.specs.Fmt.{digits}
use Rattle.std.specs.Prelude.{if◌then◌else◌}
use Rattle.cmwq_types.specs.Contents.{ScenarioContents}
use Rattle.cmwq_table.specs.State.{State}
use Rattle.cmwq_table.specs.Table.{table}
use Rattle.cmwq_types.specs.Scenario.{work_named}
use Rattle.cmwq_question.specs.declared.question.Looks.TheVariants.{Settled}
use Rattle.cmwq_explain.specs.Changes.{changes_text}
use Rattle.cmwq_explain.specs.Examples.{to_the_end, two_works}
use Rattle.cmwq_explain.specs.Explained.{is_work_unfinished, line_of_work, with_stop}
use Rattle.cmwq_explain.proofs.examples.actor_that_is_done_is_told_of_no_work.Goals as goal

-- what is said of a work by its name
abbrev said_by : List ℕ → ScenarioContents → Bool → State → Option (List ℕ)
said_by name S is_last s =
    let line = line_of_work S s (work_named S name) in
    if is_last && (nat_lt s.spent S.steps && is_work_unfinished s (work_named S name)) then option_map with_stop line else line

told : changes_text (said_by (codes "b")) Settled two_works to_the_end ≡ codes "at 0 now 0 b not pending\nat 3 now 0 b burns\nat 5 now 1 b not pending\n"
unfolding table digits
told = refl

pub returns : goal.returns
returns c = λ name is. subst (λ (x : List ℕ). changes_text (said_by x) Settled two_works to_the_end ≡ codes "at 0 now 0 b not pending\nat 3 now 0 b burns\nat 5 now 1 b not pending\n") (sym is) told
