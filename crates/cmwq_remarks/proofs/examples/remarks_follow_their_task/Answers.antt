-- The definitions compute the lines.
use Rattle.std.proofs.Common.{◌≡◌, Bool, [], not, refl, subst, sym}
use Rattle.std.specs.Fmt.{digits}
use Rattle.std.specs.Prelude.{codes, if◌then◌else◌}
use Rattle.cmwq_types.specs.Contents.{ActorContents}
use Rattle.cmwq_table.specs.Table.{table}
use Rattle.cmwq_remarks.specs.Examples.{beside, one_pending, queued_and_thawed}
use Rattle.cmwq_remarks.specs.Remarks.{pending_told}
use Rattle.cmwq_remarks.proofs.examples.remarks_follow_their_task.Goals as goal

abbrev its_actor : ActorContents
its_actor = record { name = codes "t"; lines = queued_and_thawed }

pub returns-clause-run : goal.returns-clause-run
unfolding table digits
returns-clause-run c = refl

pub returns-clause-told : goal.returns-clause-told
unfolding table digits
returns-clause-told c = refl

pub returns-clause-settled : goal.returns-clause-settled
unfolding table digits
returns-clause-settled c = refl

pub returns-clause-told_settled : goal.returns-clause-told_settled
unfolding table digits
returns-clause-told_settled c = refl

pub returns-clause-listed : goal.returns-clause-listed
unfolding table digits
returns-clause-listed c = refl

pub returns-clause-settled_text : goal.returns-clause-settled_text
unfolding table digits
returns-clause-settled_text c = refl

pub returns-clause-drawn : goal.returns-clause-drawn
unfolding table digits
returns-clause-drawn c = λ of is. subst (λ (settle : Bool). (if not settle then pending_told beside its_actor else []) ≡ one_pending) (sym is) refl

pub returns-clause-asked : goal.returns-clause-asked
unfolding table digits
returns-clause-asked c = λ of is. subst (λ (settle : Bool). (if not settle then pending_told beside its_actor else []) ≡ one_pending) (sym is) refl

pub returns-clause-settled_drawn : goal.returns-clause-settled_drawn
unfolding table
returns-clause-settled_drawn c = λ of is. subst (λ (settle : Bool). (if not settle then pending_told beside its_actor else []) ≡ []) (sym is) refl

pub returns-clause-settled_asked : goal.returns-clause-settled_asked
unfolding table
returns-clause-settled_asked c = λ of is. subst (λ (settle : Bool). (if not settle then pending_told beside its_actor else []) ≡ []) (sym is) refl
