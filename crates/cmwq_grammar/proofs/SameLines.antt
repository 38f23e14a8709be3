-- A line is the same for two scenarios whose names are.
use Rattle.std.proofs.Common.{◌≡◌, ℕ, true, List, [], ◌∷◌, map, get_or, refl, sym, ap, ◌∙◌, codes}
use Rattle.std.specs.Fmt.{decimal}
use Rattle.cmwq_types.specs.Contents.{ScenarioContents, WorkContents}
use Rattle.cmwq_types.specs.Listing.{Words, actor_line, instr_words, op_line, operand_words, work_line}
use Rattle.cmwq_types.specs.Operations.{op_fields_of, op_shape_of, op_spelling, op_word_of}
use Rattle.cmwq_types.specs.Scenario.{queue_at, work_at}
use Rattle.cmwq_types.specs.declared.fields.Fields.{Fields}
use Rattle.cmwq_types.specs.declared.fields.Shape.{Shape}
use Rattle.cmwq_types.specs.declared.fields.Shape.TheVariants as shape
use Rattle.cmwq_types.specs.declared.instr.Instr.{Instr}
use Rattle.cmwq_types.specs.declared.scenario.Line.{Line}
use Rattle.cmwq_types.specs.declared.scenario.Op.{Op}
use Rattle.cmwq_types.specs.declared.scenario.QueueDecl.{QueueDecl}
use Rattle.cmwq_grammar.specs.Instructions.{work_names}
use Rattle.cmwq_grammar.proofs.Continuations.{bare}
use Rattle.cmwq_grammar.proofs.LineLemmas.{has_op, has_op_of}
use Rattle.cmwq_grammar.proofs.NameLists.{name_of_work}
use Rattle.cmwq_grammar.proofs.Soundness.{names_of_bare}

pub same_queue_name : (D S : ScenarioContents) (queue : ℕ) → S.queues ≡ D.queues → (queue_at D queue).name ≡ (queue_at S queue).name
same_queue_name D S queue e = ap (λ (qs : List QueueDecl). (queue_at (record D { queues = qs }) queue).name) (sym e)

pub same_work_name : (D S : ScenarioContents) (work : ℕ) → work_names D ≡ work_names S → (work_at D work).name ≡ (work_at S work).name
same_work_name D S work e = sym (name_of_work D work) ∙ ap (λ (ns : List (List ℕ)). get_or ns work []) e ∙ name_of_work S work

pub same_work_names : (D S : ScenarioContents) → D.works ≡ map bare S.works → work_names D ≡ work_names S
same_work_names D S e = ap (map (λ (w : WorkContents). w.name)) e ∙ names_of_bare S.works

pub same_work_line : (D S : ScenarioContents) (work : WorkContents) → S.queues ≡ D.queues → work_line D work ≡ work_line S work
same_work_line D S work e = ap (λ (n : List ℕ). Words (codes "work" ∷ work.name ∷ n ∷ [])) (same_queue_name D S work.queue.0 e)

same_operands : (D S : ScenarioContents) (s : Shape) (f : Fields) → work_names D ≡ work_names S → has_op s ≡ true → operand_words D s f ≡ operand_words S s f
same_operands D S shape.Alone f e has = refl
same_operands D S shape.Ticks f e has = refl
same_operands D S shape.Work f e has = ap (λ (n : List ℕ). n ∷ []) (same_work_name D S f.id e)
same_operands D S shape.WorkCpu f e has = ap (λ (n : List ℕ). n ∷ decimal f.cpu ∷ []) (same_work_name D S f.id e)
same_operands D S shape.WorkTicks f e has = ap (λ (n : List ℕ). n ∷ decimal f.number ∷ []) (same_work_name D S f.id e)
same_operands D S _ f e has = cc

pub same_op_line : (D S : ScenarioContents) (o : Op) → work_names D ≡ work_names S → op_line D o ≡ op_line S o
same_op_line D S o e =
    ap (λ (ws : List (List ℕ)). Words (op_spelling (op_word_of o) ∷ ws)) (same_operands D S (op_shape_of (op_word_of o)) (op_fields_of o) e (has_op_of (op_word_of o)))

pub same_instr_words : (D S : ScenarioContents) (i : Instr) → S.queues ≡ D.queues → S.works ≡ D.works → instr_words D i ≡ instr_words S i
same_instr_words D S i queues works =
    ap (λ (qs : List QueueDecl). instr_words (record D { queues = qs }) i) (sym queues)
    ∙ ap (λ (ws : List WorkContents). instr_words (record D { queues = S.queues; works = ws }) i) (sym works)

pub same_actor_line : (D S : ScenarioContents) (line : Line) → S.queues ≡ D.queues → S.works ≡ D.works → actor_line D line ≡ actor_line S line
same_actor_line D S line queues works =
    ap (λ (qs : List QueueDecl). actor_line (record D { queues = qs }) line) (sym queues)
    ∙ ap (λ (ws : List WorkContents). actor_line (record D { queues = S.queues; works = ws }) line) (sym works)
