-- What an instruction adds to the events of a run.
use Rattle.std.proofs.Common.{◌≡◌, ℕ, suc, ◌+◌, ◌-◌, ◌<◌, List, ◌∷◌, ◌++◌, length, replicate, Result, Ok, Err, OnErr, OnOk, ap, ◌∙◌, arith}
use Rattle.cmwq_types.specs.Contents.{ScenarioContents}
use Rattle.cmwq_types.specs.declared.instr.Instr.{Instr}
use Rattle.cmwq_types.specs.declared.reply.Reply.{Reply}
use Rattle.cmwq_types.proofs.SettingLemmas.{IsSetting-valid}
use Rattle.cmwq_types.specs.Faults.{IsValid}
use Rattle.cmwq_types.specs.Setting.{IsSetting}
use Rattle.cmwq_table.specs.State.{State}
use Rattle.cmwq_table.specs.Table.{table}
use Rattle.cmwq_events.proofs.CallerLemmas.{running-length}
use Rattle.cmwq_events.specs.Followed.{Followed, followed_on}
use Rattle.cmwq_kernel_trace.specs.Recording.{IsAt}

pub on-ok : {E : Type 0} (r : Result (Unit {0}) E) (P Q : Type 0) → (P → Q) → OnOk r P → OnOk r Q
on-ok (Ok done) P Q then is = then is
on-ok (Err error) P Q then is = tt

pub on-err : {E : Type 0} (r : Result (Unit {0}) E) (P Q : Type 0) → (P → Q) → OnErr r P → OnErr r Q
on-err (Ok done) P Q then is = tt
on-err (Err error) P Q then is = then is

pub any-err : {E : Type 0} (r : Result (Unit {0}) E) (P : Type 0) → P → OnErr r P
any-err (Ok done) P is = tt
any-err (Err error) P is = is

-- as many works may run as before
pub as_long : (S : ScenarioContents) (s t : State) (i : Instr) (reply : Reply) → (t, reply) ≡ table S s i → length t.running ≡ length s.running
as_long S s t i reply is = ap (λ (p : State × Reply). length p.0.running) is ∙ running-length S s i

-- the events lead on with the machine
pub at_next : (S : ScenarioContents) (s t : State) (i : Instr) (reply : Reply) (old new : Followed) → (t, reply) ≡ table S s i → IsAt S old s
    → new ≡ followed_on S s i (t, reply) old → IsAt S new t
at_next S s t i reply old new is at step =
    record {
      leads =
          record {
            next = ap (λ (k : Followed). k.next) step;
            pending = ap (λ (k : Followed). k.pending) step;
            running = ap (λ (k : Followed). k.running) step;
          };
      works = as_long S s t i reply is ∙ at.works;
    }

-- an instruction that is left to be carried out, and the others
pub one_left : (i : Instr) (times turn : ℕ) (more : List Instr) → turn < times
    → i ∷ (replicate (times - (turn + 1)) i ++ more) ≡ replicate (times - turn) i ++ more
one_left i times turn more less =
    let left : suc (times - (turn + 1)) ≡ times - turn = omega arith in
    ap (λ n. replicate n i ++ more) left

pub is_setting : (S : ScenarioContents) → IsValid S → IsSetting S
is_setting = IsSetting-valid
