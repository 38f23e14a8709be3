-- What follows an instruction, in parts.
use Rattle.std.proofs.Common.{◌≡◌, ℕ, List, ◌++◌, length, Option, Result, Ok, Err, OnOk, ap, append_assoc}
use Rattle.std.specs.List.{flat_map}
use Rattle.cmwq_types.specs.Contents.{ScenarioContents}
use Rattle.cmwq_types.specs.declared.instr.Instr.{Instr}
use Rattle.cmwq_types.specs.declared.reply.Reply.{Reply}
use Rattle.cmwq_table.specs.State.{State}
use Rattle.cmwq_table.specs.declared.state.Pending.{Pending}
use Rattle.cmwq_table.specs.declared.state.Running.{Running}
use Rattle.cmwq_events.specs.Followed.{Followed, followed, followed_on}
use Rattle.cmwq_events.specs.KernelEvents.{doer_of, end_events, instance_events, stamped_below}
use Rattle.cmwq_events.specs.declared.doer.Doer.{Doer}
use Rattle.cmwq_events.specs.declared.kernel_event.KernelEvent.{KernelEvent}
use Rattle.cmwq_events.specs.declared.stamped.Stamped.{Stamped}

pub on-ok-then : {E : Type 0} (r : Result (Unit {0}) E) (P Q : Type 0) → (P → Q) → OnOk r P → OnOk r Q
on-ok-then (Ok done) P Q then is = then is
on-ok-then (Err error) P Q then is = tt

pub followed-is : (L : ScenarioContents) (s t : State) (i : Instr) (reply : Reply) (old : Followed) (stamp next : ℕ) (pending : List (Option Pending)) (running : List (Option Running))
    (ended events : List KernelEvent) (doer : Doer) (found : List Stamped)
    → stamp ≡ s.next → doer ≡ doer_of L s i (t, reply) → found ≡ stamped_below t stamp (length L.works) → ended ≡ old.events ++ end_events doer reply
    → events ≡ ended ++ flat_map (λ one. instance_events doer stamp reply one.work one.instance) found → next ≡ t.next → pending ≡ t.pending → running ≡ t.running
    → followed next pending running events ≡ followed_on L s i (t, reply) old
followed-is L s t i reply old stamp next pending running ended events doer found at by are end all stamps pend run =
    rw (stamps, pend, run, all, end, are, by, at)
    (ap (λ (es : List KernelEvent). followed t.next t.pending t.running es)
    (append_assoc old.events (end_events (doer_of L s i (t, reply)) reply)
    (flat_map (λ one. instance_events (doer_of L s i (t, reply)) s.next reply one.work one.instance) (stamped_below t s.next (length L.works)))))
