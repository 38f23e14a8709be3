-- The words of an instruction have no line feed, ASCII alone, and few bytes.
use Rattle.std.proofs.Common.{ℕ, zero, suc, ◌+◌, List, [], ◌∷◌, ◌++◌, get_or, codes, arith, refl}
use Rattle.std.specs.List.{AllByRecursion, join_with_byte}
use Rattle.cmwq_types.specs.Contents.{ScenarioContents, WorkContents}
use Rattle.cmwq_types.specs.Fields.{fields_of, shape_of, word_of}
use Rattle.cmwq_types.specs.Listing.{instr_words, operand_words}
use Rattle.cmwq_types.specs.Mnemonics.{spelling}
use Rattle.cmwq_types.specs.Scenario.{plain_flags}
use Rattle.cmwq_types.specs.Values.{AreFields, IsInstr, IsQueueDecl, IsWorkDecl}
use Rattle.cmwq_types.specs.declared.fields.Fields.{Fields}
use Rattle.cmwq_types.specs.declared.fields.Shape.{Shape}
use Rattle.cmwq_types.specs.declared.fields.Shape.TheVariants as shape
use Rattle.cmwq_types.specs.declared.instr.Instr.{Instr}
use Rattle.cmwq_types.specs.declared.mnemonic.Mnemonic.{Mnemonic}
use Rattle.cmwq_types.specs.declared.mnemonic.Mnemonic.TheVariants as mnemonic
use Rattle.cmwq_types.specs.declared.scenario.QueueDecl.{QueueDecl}
use Rattle.cmwq_annotated.specs.Notes.{Piece}
use Rattle.cmwq_annotated.proofs.PieceLemmas.{joint, literal, named, number, within}

-- each word is spelled so
spelled : (m : Mnemonic) → Piece 13 (spelling m)
spelled mnemonic.Queue = literal 13 (codes "queue") refl refl
spelled mnemonic.Delay = literal 13 (codes "delay") refl refl
spelled mnemonic.Mod = literal 13 (codes "mod") refl refl
spelled mnemonic.Cancel = literal 13 (codes "cancel") refl refl
spelled mnemonic.CancelSync = literal 13 (codes "cancel_sync") refl refl
spelled mnemonic.Flush = literal 13 (codes "flush") refl refl
spelled mnemonic.FlushDelayed = literal 13 (codes "flush_delayed") refl refl
spelled mnemonic.FlushQueue = literal 13 (codes "flush_queue") refl refl
spelled mnemonic.SetMax = literal 13 (codes "set_max") refl refl
spelled mnemonic.Freeze = literal 13 (codes "freeze") refl refl
spelled mnemonic.Thaw = literal 13 (codes "thaw") refl refl
spelled mnemonic.Fire = literal 13 (codes "fire") refl refl
spelled mnemonic.Step = literal 13 (codes "step") refl refl
spelled mnemonic.Tick = literal 13 (codes "tick") refl refl
spelled mnemonic.Next = literal 13 (codes "next") refl refl
spelled mnemonic.Ask = literal 13 (codes "ask") refl refl
spelled mnemonic.Busy = literal 13 (codes "busy") refl refl
spelled mnemonic.State = literal 13 (codes "state") refl refl
spelled mnemonic.Disable = literal 13 (codes "disable") refl refl
spelled mnemonic.Enable = literal 13 (codes "enable") refl refl
spelled mnemonic.Pressure = literal 13 (codes "pressure") refl refl
spelled mnemonic.Relief = literal 13 (codes "relief") refl refl
spelled mnemonic.Until = literal 13 (codes "until") refl refl
spelled mnemonic.Wait = literal 13 (codes "wait") refl refl
spelled mnemonic.Quiet = literal 13 (codes "quiet") refl refl

-- a space and a word behind another
spaced : {a b : ℕ} {xs ys : List ℕ} → Piece a xs → Piece b ys → Piece (a + (1 + b)) (xs ++ 32 ∷ ys)
spaced x y = joint x (joint (literal 1 (codes " ") refl refl) y)

-- a name, which is empty where none is declared
work_at_piece : (works : List WorkContents) (work : ℕ) → AllByRecursion IsWorkDecl works
    → Piece 15 (get_or works work (record { name = []; queue = record { 0 = 0 }; body = [] })).name
work_at_piece [] work are = literal 15 [] refl refl
work_at_piece (w ∷ works) zero are = named w.name are.0.name
work_at_piece (w ∷ works) (suc work) are = work_at_piece works work are.1

queue_at_piece : (queues : List QueueDecl) (queue : ℕ) → AllByRecursion IsQueueDecl queues
    → Piece 15 (get_or queues queue (record { name = []; max = 0; flags = plain_flags })).name
queue_at_piece [] queue are = literal 15 [] refl refl
queue_at_piece (q ∷ queues) zero are = named q.name are.0.name
queue_at_piece (q ∷ queues) (suc queue) are = queue_at_piece queues queue are.1

module _ (S : ScenarioContents) (works : AllByRecursion IsWorkDecl S.works) (queues : AllByRecursion IsQueueDecl S.queues) where
  words : (m : Mnemonic) (s : Shape) (f : Fields) → AreFields s f → Piece 90 (join_with_byte 32 (spelling m ∷ operand_words S s f))
  words m shape.Alone f are = within 90 (spelled m) refl
  words m shape.Ticks f are = within 90 (spaced (spelled m) (number f.number (omega (arith, are)))) refl
  words m shape.Work f are = within 90 (spaced (spelled m) (work_at_piece S.works f.id works)) refl
  words m shape.WorkCpu f are =
      within 90 (spaced (spelled m) (spaced (work_at_piece S.works f.id works) (number f.cpu (omega (arith, are.1))))) refl
  words m shape.WorkTicks f are =
      within 90 (spaced (spelled m) (spaced (work_at_piece S.works f.id works) (number f.number (omega (arith, are.1))))) refl
  words m shape.WorkCpuTicks f are =
      within 90
      (spaced (spelled m) (spaced (work_at_piece S.works f.id works) (spaced (number f.cpu (omega (arith, are.1))) (number f.number (omega (arith, are.2))))))
      refl
  words m shape.Queue f are = within 90 (spaced (spelled m) (queue_at_piece S.queues f.id queues)) refl
  words m shape.QueueNumber f are =
      within 90 (spaced (spelled m) (spaced (queue_at_piece S.queues f.id queues) (number f.number (omega (arith, are.1))))) refl
  words m shape.Pool f are = within 90 (spaced (spelled m) (number f.cpu (omega (arith, are)))) refl
  words m shape.Flush f are = within 90 (spaced (spelled m) (number f.id (omega (arith, are)))) refl
  words m shape.Time f are = within 90 (spaced (spelled m) (number f.number (omega (arith, are)))) refl

  -- an instruction as the listing has it
  pub instr_piece : (i : Instr) → IsInstr i → Piece 90 (join_with_byte 32 (instr_words S i))
  instr_piece i is = words (word_of i) (shape_of (word_of i)) (fields_of i) is
