-- An instruction that is carried out several times.
use Rattle.std.proofs.Common.{◌≡◌, ℕ, zero, suc, ◌+◌, arith, refl, sym, ap, ◌∙◌}
use Rattle.cmwq_types.specs.Contents.{ScenarioContents}
use Rattle.cmwq_types.specs.declared.instr.Instr.{Instr}
use Rattle.cmwq_types.specs.declared.reply.Reply.{Reply}
use Rattle.cmwq_table.specs.Repeats.{after_times, reply_behind}
use Rattle.cmwq_table.specs.State.{State}
use Rattle.cmwq_table.specs.Table.{table}

-- once more is one time at the end
pub after_times-last : (S : ScenarioContents) (i : Instr) (count : ℕ) (s : State) → after_times S s i (suc count) ≡ (table S (after_times S s i count) i).0
after_times-last S i zero s = refl
after_times-last S i (suc count) s = after_times-last S i count (table S s i).0

-- a machine that has carried it out so often, and does once more
pub one_more : (S T : ScenarioContents) (s t after : State) (i : Instr) (reply : Reply) (count : ℕ)
    → T ≡ S → t ≡ after_times S s i count → (after, reply) ≡ table T t i
    → (after ≡ after_times S s i (suc count)) × (reply ≡ reply_behind S s i count)
one_more S T s t after i reply count same is exact =
    let told = exact ∙ ap (λ (x : ScenarioContents). table x t i) same ∙ ap (λ (x : State). table S x i) is in
    (ap (λ (p : State × Reply). p.0) told ∙ sym (after_times-last S i count s), ap (λ (p : State × Reply). p.1) told)

-- so often and then so often more
pub after_times-more : (S : ScenarioContents) (i : Instr) (count more : ℕ) (s : State) → after_times S (after_times S s i count) i more ≡ after_times S s i (count + more)
after_times-more S i zero more s = let place : more ≡ zero + more = omega arith in ap (after_times S s i) place
after_times-more S i (suc count) more s =
    let place : suc (count + more) ≡ suc count + more = omega arith in
    after_times-more S i count more (table S s i).0 ∙ ap (after_times S s i) place

pub reply_behind-more : (S : ScenarioContents) (i : Instr) (count more : ℕ) (s : State) → reply_behind S (after_times S s i count) i more ≡ reply_behind S s i (count + more)
reply_behind-more S i count more s = ap (λ (x : State). (table S x i).1) (after_times-more S i count more s)
