use Rattle.std.proofs.Common.{refl}
use Rattle.std.specs.Fmt.{digits}
use Rattle.cmwq_explored.specs.Answers.{gave_up_line, whole_line}
use Rattle.cmwq_command_examples.proofs.exploring.answers_count_what_was_asked_for.Goals as goal

pub returns-clause-holds : goal.returns-clause-holds
unfolding whole_line gave_up_line digits
returns-clause-holds c = refl

pub returns-clause-within : goal.returns-clause-within
unfolding whole_line gave_up_line digits
returns-clause-within c = refl

pub returns-clause-vacuous : goal.returns-clause-vacuous
unfolding whole_line gave_up_line digits
returns-clause-vacuous c = refl

pub returns-clause-never : goal.returns-clause-never
unfolding whole_line gave_up_line digits
returns-clause-never c = refl

pub returns-clause-together : goal.returns-clause-together
unfolding whole_line gave_up_line digits
returns-clause-together c = refl

pub returns-clause-one_never_runs : goal.returns-clause-one_never_runs
unfolding whole_line gave_up_line digits
returns-clause-one_never_runs c = refl

pub returns-clause-stuck : goal.returns-clause-stuck
unfolding whole_line gave_up_line digits
returns-clause-stuck c = refl

pub returns-clause-gave_up : goal.returns-clause-gave_up
unfolding whole_line gave_up_line digits
returns-clause-gave_up c = refl
