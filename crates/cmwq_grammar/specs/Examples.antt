-- Short texts, and what reading them gives.
use Rattle.std.specs.Prelude.{◌≡◌, ℕ, true, ◌+◌, List, [], ◌∷◌, ◌++◌, map, replicate, take, Ok, Err, codes}
use Rattle.std.specs.List.{range_with_len}
use Rattle.cmwq_types.specs.Contents.{ScenarioContents, ActorContents}
use Rattle.cmwq_types.specs.Scenario.{plain_flags}
use Rattle.cmwq_types.specs.declared.instr.Instr.TheVariants as instr
use Rattle.cmwq_types.specs.declared.scenario.Line.{Line}
use Rattle.cmwq_types.specs.declared.scenario.Op.TheVariants as op
use Rattle.cmwq_types.specs.declared.scenario.QueueDecl.{QueueDecl}
use Rattle.cmwq_grammar.specs.Meaning.{reads, fault_at}
use Rattle.cmwq_grammar.specs.Offers.{IsNextAfter, words_of_next}
use Rattle.cmwq_grammar.specs.Stages.{head_of}
use Rattle.cmwq_grammar.specs.declared.next.Next.{Next}
use Rattle.cmwq_grammar.specs.declared.why.Why.{Why}
use Rattle.cmwq_types.specs.Listing.{text_of_lines}

-- the first fault of a text is at this line, for this reason
abbrev pub FaultIs : List ℕ → ℕ → Why → Type 0
FaultIs bytes line reason = reads bytes ≡ Err (fault_at line reason)

-- the text reads as this scenario
abbrev pub ReadsAs : List ℕ → ScenarioContents → Type 0
ReadsAs bytes S = reads bytes ≡ Ok S

-- a line after these may begin with these words
abbrev pub OfferedAre : List (List ℕ) → List (List ℕ) → Type 0
OfferedAre lines words = (next : Next) × IsNextAfter lines next × (words_of_next next ≡ words)

-- the least head that a text can have, with 8 steps
abbrev pub head_lines : List (List ℕ)
head_lines = codes "cpus 1" ∷ codes "workers 1" ∷ codes "steps 8" ∷ codes "flushes 0" ∷ []

-- the scenario of that head alone
abbrev pub head_alone : ScenarioContents
head_alone = head_of 1 1 8 0

-- the same, written freely
abbrev pub free_head : List ℕ
free_head =
    codes "# a scenario of nothing\r\n\ncpus\t1 # one CPU\r\n  workers 1\t\r\n\t\r\nsteps \t 8#steps\nflushes 0\r\n# the end"

-- the head and then these lines
abbrev pub after_head : List (List ℕ) → List ℕ
after_head lines = text_of_lines (head_lines ++ lines)

-- a queue, a work and its body, which queues the work
abbrev pub work_and_body : List (List ℕ)
work_and_body =
    codes "queue q max 1" ∷ codes "work a q" ∷ codes "body a" ∷ codes "queue a 0" ∷ codes "finish" ∷ []

-- the work that queues itself until no steps are left
abbrev pub itself_text_lines : List (List ℕ)
itself_text_lines =
    (codes "cpus 1" ∷ codes "workers 4" ∷ codes "steps 8" ∷ codes "flushes 2" ∷ [])
    ++ work_and_body ++ codes "actor t" ∷ codes "queue a 0" ∷ codes "next * 8" ∷ codes "state a" ∷ []

-- what the first lines of that text tell: the numbers and the queue, then the work too, then the actor too
abbrev pub queue_alone : List QueueDecl → ScenarioContents
queue_alone queues = record (head_of 1 4 8 2) { queues = queues }

abbrev pub queue_q : List QueueDecl
queue_q = record { name = codes "q"; max = 1; flags = plain_flags } ∷ []

abbrev pub one_work : List ActorContents → ScenarioContents
one_work actors =
    record (queue_alone queue_q) {
      works = record { name = codes "a"; queue = record { 0 = 0 }; body = op.Queue (record { 0 = 0 }) 0 ∷ op.Finish ∷ [] } ∷ [];
      actors = actors;
    }

-- an actor `t` of these lines
abbrev pub actor_t : List Line → List ActorContents
actor_t lines = record { name = codes "t"; lines = lines } ∷ []

abbrev pub itself_lines : List Line
itself_lines =
    record { instr = instr.Queue (record { 0 = 0 }) 0; times = 1 } ∷ record { instr = instr.Next; times = 8 }
    ∷ record { instr = instr.State (record { 0 = 0 }); times = 1 } ∷ []

abbrev pub itself_scenario : ScenarioContents
itself_scenario = one_work (actor_t itself_lines)

-- that text up to the actor's name, and then these lines
abbrev pub in_actor_t : List (List ℕ) → List ℕ
in_actor_t lines = text_of_lines (take 10 itself_text_lines ++ lines)

-- that text up to the body's name, and then these lines
abbrev pub in_body_a : List (List ℕ) → List ℕ
in_body_a lines = text_of_lines (take 7 itself_text_lines ++ lines)

-- one work, whose body delays it by 0 and by 1,000,000 ticks, mods it by 7 ticks, and cancels it
abbrev pub delaying_scenario : ScenarioContents
delaying_scenario =
    record (queue_alone queue_q) {
      works = record {
        name = codes "a";
        queue = record { 0 = 0 };
        body = op.Delay (record { 0 = 0 }) 0 ∷ op.Delay (record { 0 = 0 }) 1000000 ∷ op.Mod (record { 0 = 0 }) 7 ∷ op.Cancel (record { 0 = 0 }) ∷ op.Finish ∷ [];
      } ∷ [];
    }

abbrev pub disabling_lines : List Line
disabling_lines =
    record { instr = instr.Disable (record { 0 = 0 }); times = 2 } ∷ record { instr = instr.Enable (record { 0 = 0 }); times = 1 } ∷ []

abbrev pub pressing_lines : List Line
pressing_lines = record { instr = instr.Pressure; times = 2 } ∷ record { instr = instr.Relief; times = 1 } ∷ []

-- `queue q max 1 ordered mem_reclaim`
abbrev pub queue_with_memory : List QueueDecl
queue_with_memory =
    record { name = codes "q"; max = 1; flags = record plain_flags { ordered = true; mem_reclaim = true } } ∷ []

-- that text cut after n lines
abbrev pub cut_after : ℕ → List ℕ
cut_after n = text_of_lines (take n itself_text_lines)

-- that text with a byte after line 8 that no UTF-8 has
abbrev pub with_bad_byte : List ℕ
with_bad_byte = text_of_lines (take 7 itself_text_lines ++ (codes "queue a 0" ++ 255 ∷ []) ∷ codes "finish" ∷ [])

-- One line's reason, by the lines that stand before it.

-- as the first line of a text
abbrev pub FirstLineIs : List ℕ → Why → Type 0
FirstLineIs line reason = FaultIs (text_of_lines (line ∷ [])) 1 reason

-- after the head
abbrev pub DeclaredIs : List ℕ → Why → Type 0
DeclaredIs line reason = FaultIs (after_head (codes "queue q max 1" ∷ line ∷ [])) 6 reason

-- in the body of the first of two works
abbrev pub InBodyIs : List ℕ → Why → Type 0
InBodyIs line reason =
    FaultIs (after_head (codes "queue q max 1" ∷ codes "work a q" ∷ codes "work b q" ∷ codes "body a" ∷ line ∷ [])) 9 reason

-- after the body of the first of two works
abbrev pub AfterBodyIs : List ℕ → Why → Type 0
AfterBodyIs line reason =
    FaultIs (after_head (codes "queue q max 1" ∷ codes "work a q" ∷ codes "work b q" ∷ codes "body a" ∷ codes "finish" ∷ line ∷ [])) 10 reason

-- as an actor's line
abbrev pub InActorIs : List ℕ → Why → Type 0
InActorIs line reason = FaultIs (after_head (work_and_body ++ codes "actor t" ∷ line ∷ [])) 11 reason

-- sixteen actors `a` to `p`, which do nothing
abbrev pub letters : List (List ℕ)
letters = map (λ k. (97 + k) ∷ []) (range_with_len 0 16)

abbrev pub sixteen_actor_lines : List (List ℕ)
sixteen_actor_lines = map (λ name. codes "actor " ++ name) letters

abbrev pub sixteen_actors : List ActorContents
sixteen_actors = map (λ name. record { name = name; lines = [] }) letters

-- a body of 63 operations that isn't ended
abbrev pub long_body : List (List ℕ)
long_body = codes "queue q max 1" ∷ codes "work a q" ∷ codes "body a" ∷ replicate 63 (codes "burn 1")
