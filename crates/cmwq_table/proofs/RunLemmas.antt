-- Runs of several parts.
use Rattle.std.proofs.Common.{◌≡◌, List, [], ◌∷◌, ◌++◌, refl, ap}
use Rattle.cmwq_types.specs.Contents.{ScenarioContents}
use Rattle.cmwq_types.specs.declared.instr.Instr.{Instr}
use Rattle.cmwq_types.specs.declared.reply.Reply.{Reply}
use Rattle.cmwq_table.specs.State.{State}
use Rattle.cmwq_table.specs.Table.{after_all, replies_from, table}

pub after_all-append : (S : ScenarioContents) (s : State) (xs ys : List Instr) → after_all S s (xs ++ ys) ≡ after_all S (after_all S s xs) ys
after_all-append S s [] ys = refl
after_all-append S s (x ∷ xs) ys = after_all-append S (table S s x).0 xs ys

pub replies_from-append : (S : ScenarioContents) (s : State) (xs ys : List Instr) → replies_from S s (xs ++ ys) ≡ replies_from S s xs ++ replies_from S (after_all S s xs) ys
replies_from-append S s [] ys = refl
replies_from-append S s (x ∷ xs) ys =
    let after = table S s x in
    ap (λ (rs : List Reply). after.1 ∷ rs) (replies_from-append S after.0 xs ys)
