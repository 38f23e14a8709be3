-- A run by which the premises of the laws hold.
use Rattle.std.specs.Prelude.{List, [], ◌∷◌, ◌++◌, Some, None, codes, replicate}
use Rattle.cmwq_types.specs.Contents.{ScenarioContents}
use Rattle.cmwq_types.specs.Scenario.{plain_flags}
use Rattle.cmwq_types.specs.declared.instr.Instr.{Instr}
use Rattle.cmwq_types.specs.declared.instr.Instr.TheVariants as instr
use Rattle.cmwq_types.specs.declared.reply.Place.TheVariants as place
use Rattle.cmwq_types.specs.declared.scenario.Op.TheVariants as op
use Rattle.cmwq_ledger.specs.Contents.{LedgerContents, TotalsContents}
use Rattle.cmwq_ledger.specs.Ledger.{no_ticks}
use Rattle.cmwq_ledger.specs.declared.account.Account.{Account}
use Rattle.cmwq_ledger.specs.declared.times_line.Fate.TheVariants as fate
use Rattle.cmwq_ledger.specs.declared.times_line.TimesLine.{TimesLine}

-- two works of a queue of two: a burns for two ticks and sleeps for two; b burns for one, and queues a
abbrev pub queues_the_other : ScenarioContents
queues_the_other = record {
  cpus = 1;
  workers = 2;
  steps = 100;
  flushes = 0;
  queues = record { name = codes "q"; max = 2; flags = plain_flags } ∷ [];
  works = record { name = codes "a"; queue = record { 0 = 0 }; body = op.Burn 2 ∷ op.Sleep 2 ∷ op.Finish ∷ [] }
      ∷ record { name = codes "b"; queue = record { 0 = 0 }; body = op.Burn 1 ∷ op.Queue (record { 0 = 0 }) 0 ∷ op.Finish ∷ [] } ∷ [];
  actors = [];
}

-- a burns while b is listed; while a sleeps b runs, queues a, which is inactive, and finishes at 3; a is listed, and then deferred, until it
-- finishes at 4, and begins again. At 5 b is delayed, and at 6 modified. At 7 a sleeps, and b has a timer.
abbrev pub until_it_sleeps_again : List Instr
until_it_sleeps_again =
    instr.Queue (record { 0 = 0 }) 0 ∷ instr.Queue (record { 0 = 1 }) 0 ∷ replicate 16 instr.Next
    ++ instr.Delay (record { 0 = 1 }) 0 5 ∷ instr.Next ∷ instr.Mod (record { 0 = 1 }) 0 3 ∷ instr.Next ∷ instr.Next ∷ []

-- the second instance of a, at 7
abbrev pub second_of_a : Account
second_of_a = record { since = 3; ticks = record no_ticks { deferred = 1; burned = 2; slept = 1 } }

-- the third one of b
abbrev pub third_of_b : Account
third_of_b = record { since = 6; ticks = record no_ticks { timer = 1 } }

abbrev pub ledger_then : LedgerContents
ledger_then = record { pending = None ∷ Some third_of_b ∷ []; running = Some second_of_a ∷ None ∷ [] }

-- the lines of the instances that end
abbrev pub ended_then : List TimesLine
ended_then =
    record { time = 3; work = record { 0 = 1 }; fate = fate.Finished; account = record { since = 0; ticks = record no_ticks { listed = 2; burned = 1 } } }
    ∷ record { time = 4; work = record { 0 = 0 }; fate = fate.Finished; account = record { since = 0; ticks = record no_ticks { burned = 2; slept = 2 } } }
    ∷ record { time = 6; work = record { 0 = 1 }; fate = fate.Cancelled; account = record { since = 5; ticks = record no_ticks { timer = 1 } } } ∷ []

-- and of those that are there at the end
abbrev pub left_then : List TimesLine
left_then =
    record { time = 7; work = record { 0 = 0 }; fate = fate.StillRunning; account = second_of_a }
    ∷ record { time = 7; work = record { 0 = 1 }; fate = fate.StillPending (place.Timer 9 0); account = third_of_b } ∷ []

abbrev pub totals_then : TotalsContents
totals_then =
    record {
      queues = record { started = 3; finished = 2; cancelled = 1; rescued = 0; burned = 5; most = 2; longest = 2 } ∷ [];
      pools = 5 ∷ 0 ∷ 0 ∷ 0 ∷ [];
      idle = 2 ∷ [];
    }

-- two works of a queue: a delays b, burns for a tick, modifies b, burns for another one, and cancels b
abbrev pub takes_the_other_off : ScenarioContents
takes_the_other_off = record {
  cpus = 1;
  workers = 2;
  steps = 50;
  flushes = 0;
  queues = record { name = codes "q"; max = 2; flags = plain_flags } ∷ [];
  works = record {
    name = codes "a";
    queue = record { 0 = 0 };
    body = op.Delay (record { 0 = 1 }) 5 ∷ op.Burn 1 ∷ op.Mod (record { 0 = 1 }) 3 ∷ op.Burn 1 ∷ op.Cancel (record { 0 = 1 }) ∷ op.Finish ∷ [];
  }
      ∷ record { name = codes "b"; queue = record { 0 = 0 }; body = op.Finish ∷ [] } ∷ [];
  actors = [];
}

-- a starts and delays b at 0, modifies it at 1, cancels it at 2, and finishes
abbrev pub until_it_is_cancelled : List Instr
until_it_is_cancelled = instr.Queue (record { 0 = 0 }) 0 ∷ replicate 9 instr.Next

-- b ends twice, each time after a tick on its timer
abbrev pub ended_by_a_body : List TimesLine
ended_by_a_body =
    record { time = 1; work = record { 0 = 1 }; fate = fate.Cancelled; account = record { since = 0; ticks = record no_ticks { timer = 1 } } }
    ∷ record { time = 2; work = record { 0 = 1 }; fate = fate.Cancelled; account = record { since = 1; ticks = record no_ticks { timer = 1 } } }
    ∷ record { time = 2; work = record { 0 = 0 }; fate = fate.Finished; account = record { since = 0; ticks = record no_ticks { burned = 2 } } } ∷ []

abbrev pub totals_by_a_body : TotalsContents
totals_by_a_body =
    record {
      queues = record { started = 1; finished = 1; cancelled = 2; rescued = 0; burned = 2; most = 1; longest = 0 } ∷ [];
      pools = 2 ∷ 0 ∷ 0 ∷ 0 ∷ [];
      idle = 0 ∷ [];
    }
