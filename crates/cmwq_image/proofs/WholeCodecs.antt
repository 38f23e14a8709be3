-- Works, actors and the whole: what is read of each is what is written.
use Rattle.std.proofs.Common.{◌≡◌, ℕ, ◌≤◌, List, [], ◌∷◌, ◌++◌, length, Result, Ok, Err, refl, sym, ap, subst, ◌∙◌, arith}
use Rattle.std.proofs.lemmas.List.{append-nil}
use Rattle.std.specs.Int.{w8, w16, w32}
use Rattle.std.specs.List.{flat_map, AllByRecursion}
use Rattle.std.specs.Prelude.{IsTrue}
use Rattle.cmwq_types.specs.Contents.{ScenarioContents, WorkContents, ActorContents}
use Rattle.cmwq_types.specs.Name.{is_name}
use Rattle.cmwq_types.specs.declared.instr.Instr.{Instr}
use Rattle.cmwq_types.specs.declared.scenario.Line.{Line}
use Rattle.cmwq_types.specs.declared.scenario.Op.{Op}
use Rattle.cmwq_types.specs.declared.scenario.QueueDecl.{QueueDecl}
use Rattle.cmwq_image.specs.Image.{in_order, number, name_field, queue_image, op_image, work_image, word_image, instr_word, line_image, actor_image, image, magic}
use Rattle.cmwq_image.specs.ImageFault.{Place, Reader, ◌>>=◌, hand_on, done, many, read_number, read_byte, read_short, read_long, read_version, read_name, read_queue, read_op, read_work, read_instr, read_line, read_actor, read_head, scenario_at}
use Rattle.cmwq_image.specs.Limits.{HasBodySize, HasLinesSize, HasSize}
use Rattle.cmwq_image.specs.Versions.{IsQueueOf, AreQueuesOf, IsOpOf, AreBodiesOf, IsLineOf, AreLinesOf, HasVersion}
use Rattle.cmwq_types.specs.Values.{IsQueueDecl, IsOp, IsWorkDecl, IsLine, IsActor, IsScenario}
use Rattle.cmwq_image.specs.declared.error.ImageError.{ImageError}
use Rattle.cmwq_image.specs.declared.head.Head.{Head}
use Rattle.cmwq_image.specs.declared.version.TheConstants.{FIRST_VERSION, VERSION}
use Rattle.cmwq_image.proofs.Codec.{Codec, nothing, one_then}
use Rattle.cmwq_image.proofs.FieldCodecs.{InRange, Each, names, versions, many_of}
use Rattle.cmwq_image.proofs.PartCodecs.{QueueFits, bytes_of, shorts, longs, queues}
use Rattle.cmwq_image.proofs.VersionLemmas.{all_are, both_all}
use Rattle.cmwq_image.proofs.WordCodecs.{InstrFits, OpFits, ops, instrs}

-- ---- works

abbrev work_with : List ℕ → ℕ → List Op → WorkContents
work_with name queue body = record { name = name; queue = record { 0 = queue }; body = body }

same_work : (n n' : List ℕ) (q q' : ℕ) (b : List Op) → n ≡ n' → q ≡ q' → work_with n q b ≡ work_with n' q' b
same_work n n' q q' b e f = ap (λ (x : List ℕ). work_with x q b) e ∙ ap (λ x. work_with n' x b) f

works_body : (version : ℕ) (name : List ℕ) (queue count : ℕ)
    → Codec (many (read_op version) count >>= λ body. done (work_with name queue body)) (λ w. in_order (flat_map op_image w.body ∷ []))
    (λ w. (w.name ≡ name) × (w.queue.0 ≡ queue) × Each (OpFits version) count w.body)
works_body version name queue count =
    one_then (many (read_op version) count) (λ body. done (work_with name queue body)) (λ w. w.body) (flat_map op_image) (Each (OpFits version) count)
    (λ w. []) (λ body w. w ≡ work_with name queue body) (λ w. in_order (flat_map op_image w.body ∷ []))
    (λ w. (w.name ≡ name) × (w.queue.0 ≡ queue) × Each (OpFits version) count w.body)
    (many_of (read_op version) op_image (OpFits version) (ops version) count) (λ body fits. nothing (work_with name queue body)) (record {
      join = λ body w fits e.
          let body_is : w.body ≡ body = ap (λ (x : WorkContents). x.body) e in
          (body_is, (ap (λ (x : WorkContents). x.name) e, ap (λ (x : WorkContents). x.queue.0) e, subst (Each (OpFits version) count) (sym body_is) fits));
      cut = λ w h. (h.2, same_work w.name name w.queue.0 queue w.body h.0 h.1);
      written = λ w h. refl;
    })

works_count : (version : ℕ) (name : List ℕ) (queue : ℕ)
    → Codec (read_number w8 1 64 >>= λ count. many (read_op version) count >>= λ body. done (work_with name queue body)) (λ w. in_order (number w8 (length w.body) ∷ flat_map op_image w.body ∷ []))
    (λ w. (w.name ≡ name) × (w.queue.0 ≡ queue) × HasBodySize w × AllByRecursion (OpFits version) w.body)
works_count version name queue =
    one_then (read_number w8 1 64) (λ count. many (read_op version) count >>= λ body. done (work_with name queue body)) (λ w. length w.body) (number w8) (InRange 1 64)
    (λ w. in_order (flat_map op_image w.body ∷ [])) (λ count w. (w.name ≡ name) × (w.queue.0 ≡ queue) × Each (OpFits version) count w.body)
    (λ w. in_order (number w8 (length w.body) ∷ flat_map op_image w.body ∷ []))
    (λ w. (w.name ≡ name) × (w.queue.0 ≡ queue) × HasBodySize w × AllByRecursion (OpFits version) w.body)
    (bytes_of 1 64 (omega arith) (omega arith)) (λ count fits. works_body version name queue count) (record {
      join = λ count w fits h. (h.2.0, (h.0, h.1, (omega (arith, h.2.0, fits.0), omega (arith, h.2.0, fits.1)), h.2.1));
      cut = λ w h. ((h.2.0, h.2.1), (h.0, h.1, (refl, h.3)));
      written = λ w h. refl;
    })

works_queue : (version : ℕ) (name : List ℕ)
    → Codec (read_byte >>= λ queue. read_number w8 1 64 >>= λ count. many (read_op version) count >>= λ body. done (work_with name queue body))
    (λ w. in_order (number w8 w.queue.0 ∷ number w8 (length w.body) ∷ flat_map op_image w.body ∷ []))
    (λ w. (w.name ≡ name) × (w.queue.0 ≤ 255) × HasBodySize w × AllByRecursion (OpFits version) w.body)
works_queue version name =
    one_then read_byte (λ queue. read_number w8 1 64 >>= λ count. many (read_op version) count >>= λ body. done (work_with name queue body)) (λ w. w.queue.0) (number w8) (InRange 0 255)
    (λ w. in_order (number w8 (length w.body) ∷ flat_map op_image w.body ∷ [])) (λ queue w. (w.name ≡ name) × (w.queue.0 ≡ queue) × HasBodySize w × AllByRecursion (OpFits version) w.body)
    (λ w. in_order (number w8 w.queue.0 ∷ number w8 (length w.body) ∷ flat_map op_image w.body ∷ []))
    (λ w. (w.name ≡ name) × (w.queue.0 ≤ 255) × HasBodySize w × AllByRecursion (OpFits version) w.body)
    (bytes_of 0 255 (omega arith) (omega arith)) (λ queue fits. works_count version name queue) (record {
      join = λ queue w fits h. (h.1, (h.0, omega (arith, h.1, fits.1), h.2, h.3));
      cut = λ w h. ((omega arith, h.1), (h.0, refl, h.2, h.3));
      written = λ w h. refl;
    })

abbrev WorkFits : ℕ → WorkContents → Type 0
WorkFits version w = IsWorkDecl w × (HasBodySize w × AllByRecursion (IsOpOf version) w.body)

pub works : (version : ℕ) → Codec (read_work version) work_image (WorkFits version)
unfolding read_work
works version =
    one_then read_name (λ name. read_byte >>= λ queue. read_number w8 1 64 >>= λ count. many (read_op version) count >>= λ body. done (work_with name queue body)) (λ w. w.name) name_field (λ name. IsTrue (is_name name))
    (λ w. in_order (number w8 w.queue.0 ∷ number w8 (length w.body) ∷ flat_map op_image w.body ∷ [])) (λ name w. (w.name ≡ name) × (w.queue.0 ≤ 255) × HasBodySize w × AllByRecursion (OpFits version) w.body)
    work_image (WorkFits version)
    names (λ name fits. works_queue version name) (record {
      join = λ name w fits h. (
        h.0,
        (
          record { name = ap is_name h.0 ∙ fits; queue = omega (arith, h.1); body = all_are (OpFits version) IsOp (λ o is. is.0) w.body h.3 },
          (h.2, all_are (OpFits version) (IsOpOf version) (λ o is. is.1) w.body h.3),
        ),
      );
      cut = λ w h. (h.0.name, (refl, omega (arith, h.0.queue), h.1.0, both_all IsOp (IsOpOf version) w.body h.0.body h.1.1));
      written = λ w h. refl;
    })

-- ---- lines and actors

abbrev line_with : Instr → ℕ → Line
line_with instr times = record { instr = instr; times = times }

lines_times : (instr : Instr) → Codec (read_long >>= λ times. done (line_with instr times)) (λ l. in_order (number w32 l.times ∷ [])) (λ l. (l.instr ≡ instr) × (l.times ≤ 4294967295))
lines_times instr =
    one_then read_long (λ times. done (line_with instr times)) (λ l. l.times) (number w32) (InRange 0 4294967295)
    (λ l. []) (λ times l. l ≡ line_with instr times) (λ l. in_order (number w32 l.times ∷ [])) (λ l. (l.instr ≡ instr) × (l.times ≤ 4294967295))
    (longs 0 4294967295 (omega arith) (omega arith)) (λ times fits. nothing (line_with instr times)) (record {
      join = λ times l fits e.
          let times_is : l.times ≡ times = ap (λ (x : Line). x.times) e in
          (times_is, (ap (λ (x : Line). x.instr) e, omega (arith, fits.1)));
      cut = λ l h. ((omega arith, h.1), ap (λ (x : Instr). line_with x l.times) h.0);
      written = λ l h. refl;
    })

abbrev LineFits : ℕ → Line → Type 0
LineFits version l = IsLine l × IsLineOf version l

pub lines : (version : ℕ) → Codec (read_line version) line_image (LineFits version)
unfolding read_line
lines version =
    one_then (read_instr version) (λ instr. read_long >>= λ times. done (line_with instr times)) (λ l. l.instr) (λ i. word_image (instr_word i)) (InstrFits version)
    (λ l. in_order (number w32 l.times ∷ [])) (λ instr l. (l.instr ≡ instr) × (l.times ≤ 4294967295)) line_image (LineFits version)
    (instrs version) (λ instr fits. lines_times instr) (record {
      join = λ instr l fits h.
          let known : InstrFits version l.instr = subst (InstrFits version) (sym h.0) fits in
          (h.0, (record { instr = known.0; times = omega (arith, h.1) }, known.1));
      cut = λ l h. ((h.0.instr, h.1), (refl, omega (arith, h.0.times)));
      written = λ l h. refl;
    })

abbrev actor_with : List ℕ → List Line → ActorContents
actor_with name lines = record { name = name; lines = lines }

abbrev ActorFits : ℕ → ActorContents → Type 0
ActorFits version a = IsActor a × (HasLinesSize a × AllByRecursion (IsLineOf version) a.lines)

actors_lines : (version : ℕ) (name : List ℕ) (count : ℕ)
    → Codec (many (read_line version) count >>= λ lines. done (actor_with name lines)) (λ a. in_order (flat_map line_image a.lines ∷ [])) (λ a. (a.name ≡ name) × Each (LineFits version) count a.lines)
actors_lines version name count =
    one_then (many (read_line version) count) (λ lines. done (actor_with name lines)) (λ a. a.lines) (flat_map line_image) (Each (LineFits version) count)
    (λ a. []) (λ lines a. a ≡ actor_with name lines) (λ a. in_order (flat_map line_image a.lines ∷ [])) (λ a. (a.name ≡ name) × Each (LineFits version) count a.lines)
    (many_of (read_line version) line_image (LineFits version) (lines version) count) (λ lines fits. nothing (actor_with name lines)) (record {
      join = λ lines a fits e.
          let lines_are : a.lines ≡ lines = ap (λ (x : ActorContents). x.lines) e in
          (lines_are, (ap (λ (x : ActorContents). x.name) e, subst (Each (LineFits version) count) (sym lines_are) fits));
      cut = λ a h. (h.1, ap (λ (x : List ℕ). actor_with x a.lines) h.0);
      written = λ a h. refl;
    })

actors_count : (version : ℕ) (name : List ℕ)
    → Codec (read_number w16 0 4096 >>= λ count. many (read_line version) count >>= λ lines. done (actor_with name lines)) (λ a. in_order (number w16 (length a.lines) ∷ flat_map line_image a.lines ∷ []))
    (λ a. (a.name ≡ name) × HasLinesSize a × AllByRecursion (LineFits version) a.lines)
actors_count version name =
    one_then (read_number w16 0 4096) (λ count. many (read_line version) count >>= λ lines. done (actor_with name lines)) (λ a. length a.lines) (number w16) (InRange 0 4096)
    (λ a. in_order (flat_map line_image a.lines ∷ [])) (λ count a. (a.name ≡ name) × Each (LineFits version) count a.lines)
    (λ a. in_order (number w16 (length a.lines) ∷ flat_map line_image a.lines ∷ [])) (λ a. (a.name ≡ name) × HasLinesSize a × AllByRecursion (LineFits version) a.lines)
    (shorts 0 4096 (omega arith) (omega arith)) (λ count fits. actors_lines version name count) (record {
      join = λ count a fits h. (h.1.0, (h.0, omega (arith, h.1.0, fits.1), h.1.1));
      cut = λ a h. ((omega arith, h.1), (h.0, (refl, h.2)));
      written = λ a h. refl;
    })

pub actors : (version : ℕ) → Codec (read_actor version) actor_image (ActorFits version)
unfolding read_actor
actors version =
    one_then read_name (λ name. read_number w16 0 4096 >>= λ count. many (read_line version) count >>= λ lines. done (actor_with name lines)) (λ a. a.name) name_field (λ name. IsTrue (is_name name))
    (λ a. in_order (number w16 (length a.lines) ∷ flat_map line_image a.lines ∷ [])) (λ name a. (a.name ≡ name) × HasLinesSize a × AllByRecursion (LineFits version) a.lines)
    actor_image (ActorFits version)
    names (λ name fits. actors_count version name) (record {
      join = λ name a fits h. (
        h.0,
        (
          record { name = ap is_name h.0 ∙ fits; lines = all_are (LineFits version) IsLine (λ l is. is.0) a.lines h.2 },
          (h.1, all_are (LineFits version) (IsLineOf version) (λ l is. is.1) a.lines h.2),
        ),
      );
      cut = λ a h. (h.0.name, (refl, h.1.0, both_all IsLine (IsLineOf version) a.lines h.0.lines h.1.1));
      written = λ a h. refl;
    })

-- ---- the head

abbrev head_with : (cpus workers steps flushes queues works actors : ℕ) → Head
head_with cpus workers steps flushes queues works actors =
    record { cpus = cpus; workers = workers; steps = steps; flushes = flushes; queues = queues; works = works; actors = actors }

same_head : (a b c d e f g a' b' c' d' e' f' : ℕ) → a ≡ a' → b ≡ b' → c ≡ c' → d ≡ d' → e ≡ e' → f ≡ f' → head_with a b c d e f g ≡ head_with a' b' c' d' e' f' g
same_head a b c d e f g a' b' c' d' e' f' p q r s t u =
    ap (λ x. head_with x b c d e f g) p ∙ ap (λ x. head_with a' x c d e f g) q ∙ ap (λ x. head_with a' b' x d e f g) r
    ∙ ap (λ x. head_with a' b' c' x e f g) s ∙ ap (λ x. head_with a' b' c' d' x f g) t ∙ ap (λ x. head_with a' b' c' d' e' x g) u

heads_actors : (cpus workers steps flushes queues works : ℕ)
    → Codec (read_number w8 0 16 >>= λ actors. done (head_with cpus workers steps flushes queues works actors))
    (λ h. in_order (number w8 h.actors ∷ [])) (λ h. (h.cpus ≡ cpus) × (h.workers ≡ workers) × (h.steps ≡ steps) × (h.flushes ≡ flushes) × (h.queues ≡ queues) × (h.works ≡ works) × (h.actors ≤ 16))
heads_actors cpus workers steps flushes queues works =
    one_then (read_number w8 0 16) (λ actors. done (head_with cpus workers steps flushes queues works actors)) (λ h. h.actors) (number w8) (InRange 0 16)
    (λ h. []) (λ actors h. h ≡ head_with cpus workers steps flushes queues works actors)
    (λ h. in_order (number w8 h.actors ∷ [])) (λ h. (h.cpus ≡ cpus) × (h.workers ≡ workers) × (h.steps ≡ steps) × (h.flushes ≡ flushes) × (h.queues ≡ queues) × (h.works ≡ works) × (h.actors ≤ 16))
    (bytes_of 0 16 (omega arith) (omega arith)) (λ actors fits. nothing (head_with cpus workers steps flushes queues works actors)) (record {
      join = λ actors h fits e.
          let actors_is : h.actors ≡ actors = ap (λ (x : Head). x.actors) e in
          (actors_is, (ap (λ (x : Head). x.cpus) e, ap (λ (x : Head). x.workers) e, ap (λ (x : Head). x.steps) e, ap (λ (x : Head). x.flushes) e, ap (λ (x : Head). x.queues) e, ap (λ (x : Head). x.works) e, omega (arith, fits.1)));
      cut = λ h i. ((omega arith, i.6), same_head h.cpus h.workers h.steps h.flushes h.queues h.works h.actors cpus workers steps flushes queues works i.0 i.1 i.2 i.3 i.4 i.5);
      written = λ h i. refl;
    })

heads_works : (cpus workers steps flushes queues : ℕ)
    → Codec (read_number w16 0 256 >>= λ works. read_number w8 0 16 >>= λ actors. done (head_with cpus workers steps flushes queues works actors))
    (λ h. in_order (number w16 h.works ∷ number w8 h.actors ∷ [])) (λ h. (h.cpus ≡ cpus) × (h.workers ≡ workers) × (h.steps ≡ steps) × (h.flushes ≡ flushes) × (h.queues ≡ queues) × (h.works ≤ 256) × (h.actors ≤ 16))
heads_works cpus workers steps flushes queues =
    one_then (read_number w16 0 256) (λ works. read_number w8 0 16 >>= λ actors. done (head_with cpus workers steps flushes queues works actors)) (λ h. h.works) (number w16) (InRange 0 256)
    (λ h. in_order (number w8 h.actors ∷ [])) (λ works h. (h.cpus ≡ cpus) × (h.workers ≡ workers) × (h.steps ≡ steps) × (h.flushes ≡ flushes) × (h.queues ≡ queues) × (h.works ≡ works) × (h.actors ≤ 16))
    (λ h. in_order (number w16 h.works ∷ number w8 h.actors ∷ [])) (λ h. (h.cpus ≡ cpus) × (h.workers ≡ workers) × (h.steps ≡ steps) × (h.flushes ≡ flushes) × (h.queues ≡ queues) × (h.works ≤ 256) × (h.actors ≤ 16))
    (shorts 0 256 (omega arith) (omega arith)) (λ works fits. heads_actors cpus workers steps flushes queues works) (record {
      join = λ works h fits i. (i.5, (i.0, i.1, i.2, i.3, i.4, omega (arith, i.5, fits.1), i.6));
      cut = λ h i. ((omega arith, i.5), (i.0, i.1, i.2, i.3, i.4, refl, i.6));
      written = λ h i. refl;
    })

heads_queues : (cpus workers steps flushes : ℕ)
    → Codec (read_number w8 0 32 >>= λ queues. read_number w16 0 256 >>= λ works. read_number w8 0 16 >>= λ actors. done (head_with cpus workers steps flushes queues works actors))
    (λ h. in_order (number w8 h.queues ∷ number w16 h.works ∷ number w8 h.actors ∷ [])) (λ h. (h.cpus ≡ cpus) × (h.workers ≡ workers) × (h.steps ≡ steps) × (h.flushes ≡ flushes) × (h.queues ≤ 32) × (h.works ≤ 256) × (h.actors ≤ 16))
heads_queues cpus workers steps flushes =
    one_then (read_number w8 0 32) (λ queues. read_number w16 0 256 >>= λ works. read_number w8 0 16 >>= λ actors. done (head_with cpus workers steps flushes queues works actors)) (λ h. h.queues) (number w8) (InRange 0 32)
    (λ h. in_order (number w16 h.works ∷ number w8 h.actors ∷ [])) (λ queues h. (h.cpus ≡ cpus) × (h.workers ≡ workers) × (h.steps ≡ steps) × (h.flushes ≡ flushes) × (h.queues ≡ queues) × (h.works ≤ 256) × (h.actors ≤ 16))
    (λ h. in_order (number w8 h.queues ∷ number w16 h.works ∷ number w8 h.actors ∷ [])) (λ h. (h.cpus ≡ cpus) × (h.workers ≡ workers) × (h.steps ≡ steps) × (h.flushes ≡ flushes) × (h.queues ≤ 32) × (h.works ≤ 256) × (h.actors ≤ 16))
    (bytes_of 0 32 (omega arith) (omega arith)) (λ queues fits. heads_works cpus workers steps flushes queues) (record {
      join = λ queues h fits i. (i.4, (i.0, i.1, i.2, i.3, omega (arith, i.4, fits.1), i.5, i.6));
      cut = λ h i. ((omega arith, i.4), (i.0, i.1, i.2, i.3, refl, i.5, i.6));
      written = λ h i. refl;
    })

heads_flushes : (cpus workers steps : ℕ)
    → Codec (read_short >>= λ flushes. read_number w8 0 32 >>= λ queues. read_number w16 0 256 >>= λ works. read_number w8 0 16 >>= λ actors. done (head_with cpus workers steps flushes queues works actors))
    (λ h. in_order (number w16 h.flushes ∷ number w8 h.queues ∷ number w16 h.works ∷ number w8 h.actors ∷ [])) (λ h. (h.cpus ≡ cpus) × (h.workers ≡ workers) × (h.steps ≡ steps) × (h.flushes ≤ 65535) × (h.queues ≤ 32) × (h.works ≤ 256) × (h.actors ≤ 16))
heads_flushes cpus workers steps =
    one_then read_short (λ flushes. read_number w8 0 32 >>= λ queues. read_number w16 0 256 >>= λ works. read_number w8 0 16 >>= λ actors. done (head_with cpus workers steps flushes queues works actors)) (λ h. h.flushes) (number w16) (InRange 0 65535)
    (λ h. in_order (number w8 h.queues ∷ number w16 h.works ∷ number w8 h.actors ∷ [])) (λ flushes h. (h.cpus ≡ cpus) × (h.workers ≡ workers) × (h.steps ≡ steps) × (h.flushes ≡ flushes) × (h.queues ≤ 32) × (h.works ≤ 256) × (h.actors ≤ 16))
    (λ h. in_order (number w16 h.flushes ∷ number w8 h.queues ∷ number w16 h.works ∷ number w8 h.actors ∷ [])) (λ h. (h.cpus ≡ cpus) × (h.workers ≡ workers) × (h.steps ≡ steps) × (h.flushes ≤ 65535) × (h.queues ≤ 32) × (h.works ≤ 256) × (h.actors ≤ 16))
    (shorts 0 65535 (omega arith) (omega arith)) (λ flushes fits. heads_queues cpus workers steps flushes) (record {
      join = λ flushes h fits i. (i.3, (i.0, i.1, i.2, omega (arith, i.3, fits.1), i.4, i.5, i.6));
      cut = λ h i. ((omega arith, i.3), (i.0, i.1, i.2, refl, i.4, i.5, i.6));
      written = λ h i. refl;
    })

heads_steps : (cpus workers : ℕ)
    → Codec (read_long >>= λ steps. read_short >>= λ flushes. read_number w8 0 32 >>= λ queues. read_number w16 0 256 >>= λ works. read_number w8 0 16 >>= λ actors. done (head_with cpus workers steps flushes queues works actors))
    (λ h. in_order (number w32 h.steps ∷ number w16 h.flushes ∷ number w8 h.queues ∷ number w16 h.works ∷ number w8 h.actors ∷ [])) (λ h. (h.cpus ≡ cpus) × (h.workers ≡ workers) × (h.steps ≤ 4294967295) × (h.flushes ≤ 65535) × (h.queues ≤ 32) × (h.works ≤ 256) × (h.actors ≤ 16))
heads_steps cpus workers =
    one_then read_long (λ steps. read_short >>= λ flushes. read_number w8 0 32 >>= λ queues. read_number w16 0 256 >>= λ works. read_number w8 0 16 >>= λ actors. done (head_with cpus workers steps flushes queues works actors)) (λ h. h.steps) (number w32) (InRange 0 4294967295)
    (λ h. in_order (number w16 h.flushes ∷ number w8 h.queues ∷ number w16 h.works ∷ number w8 h.actors ∷ [])) (λ steps h. (h.cpus ≡ cpus) × (h.workers ≡ workers) × (h.steps ≡ steps) × (h.flushes ≤ 65535) × (h.queues ≤ 32) × (h.works ≤ 256) × (h.actors ≤ 16))
    (λ h. in_order (number w32 h.steps ∷ number w16 h.flushes ∷ number w8 h.queues ∷ number w16 h.works ∷ number w8 h.actors ∷ [])) (λ h. (h.cpus ≡ cpus) × (h.workers ≡ workers) × (h.steps ≤ 4294967295) × (h.flushes ≤ 65535) × (h.queues ≤ 32) × (h.works ≤ 256) × (h.actors ≤ 16))
    (longs 0 4294967295 (omega arith) (omega arith)) (λ steps fits. heads_flushes cpus workers steps) (record {
      join = λ steps h fits i. (i.2, (i.0, i.1, omega (arith, i.2, fits.1), i.3, i.4, i.5, i.6));
      cut = λ h i. ((omega arith, i.2), (i.0, i.1, refl, i.3, i.4, i.5, i.6));
      written = λ h i. refl;
    })

heads_workers : (cpus : ℕ)
    → Codec (read_byte >>= λ workers. read_long >>= λ steps. read_short >>= λ flushes. read_number w8 0 32 >>= λ queues. read_number w16 0 256 >>= λ works. read_number w8 0 16 >>= λ actors. done (head_with cpus workers steps flushes queues works actors))
    (λ h. in_order (number w8 h.workers ∷ number w32 h.steps ∷ number w16 h.flushes ∷ number w8 h.queues ∷ number w16 h.works ∷ number w8 h.actors ∷ [])) (λ h. (h.cpus ≡ cpus) × (h.workers ≤ 255) × (h.steps ≤ 4294967295) × (h.flushes ≤ 65535) × (h.queues ≤ 32) × (h.works ≤ 256) × (h.actors ≤ 16))
heads_workers cpus =
    one_then read_byte (λ workers. read_long >>= λ steps. read_short >>= λ flushes. read_number w8 0 32 >>= λ queues. read_number w16 0 256 >>= λ works. read_number w8 0 16 >>= λ actors. done (head_with cpus workers steps flushes queues works actors)) (λ h. h.workers) (number w8) (InRange 0 255)
    (λ h. in_order (number w32 h.steps ∷ number w16 h.flushes ∷ number w8 h.queues ∷ number w16 h.works ∷ number w8 h.actors ∷ [])) (λ workers h. (h.cpus ≡ cpus) × (h.workers ≡ workers) × (h.steps ≤ 4294967295) × (h.flushes ≤ 65535) × (h.queues ≤ 32) × (h.works ≤ 256) × (h.actors ≤ 16))
    (λ h. in_order (number w8 h.workers ∷ number w32 h.steps ∷ number w16 h.flushes ∷ number w8 h.queues ∷ number w16 h.works ∷ number w8 h.actors ∷ [])) (λ h. (h.cpus ≡ cpus) × (h.workers ≤ 255) × (h.steps ≤ 4294967295) × (h.flushes ≤ 65535) × (h.queues ≤ 32) × (h.works ≤ 256) × (h.actors ≤ 16))
    (bytes_of 0 255 (omega arith) (omega arith)) (λ workers fits. heads_steps cpus workers) (record {
      join = λ workers h fits i. (i.1, (i.0, omega (arith, i.1, fits.1), i.2, i.3, i.4, i.5, i.6));
      cut = λ h i. ((omega arith, i.1), (i.0, refl, i.2, i.3, i.4, i.5, i.6));
      written = λ h i. refl;
    })

abbrev HeadFits : Head → Type 0
HeadFits h = (h.cpus ≤ 255) × (h.workers ≤ 255) × (h.steps ≤ 4294967295) × (h.flushes ≤ 65535) × (h.queues ≤ 32) × (h.works ≤ 256) × (h.actors ≤ 16)

abbrev head_bytes : Head → List ℕ
head_bytes h = in_order (number w8 h.cpus ∷ number w8 h.workers ∷ number w32 h.steps ∷ number w16 h.flushes ∷ number w8 h.queues ∷ number w16 h.works ∷ number w8 h.actors ∷ [])

pub heads : Codec read_head head_bytes HeadFits
unfolding read_head
heads =
    one_then read_byte (λ cpus. read_byte >>= λ workers. read_long >>= λ steps. read_short >>= λ flushes. read_number w8 0 32 >>= λ queues. read_number w16 0 256 >>= λ works. read_number w8 0 16 >>= λ actors. done (head_with cpus workers steps flushes queues works actors)) (λ h. h.cpus) (number w8) (InRange 0 255)
    (λ h. in_order (number w8 h.workers ∷ number w32 h.steps ∷ number w16 h.flushes ∷ number w8 h.queues ∷ number w16 h.works ∷ number w8 h.actors ∷ [])) (λ cpus h. (h.cpus ≡ cpus) × (h.workers ≤ 255) × (h.steps ≤ 4294967295) × (h.flushes ≤ 65535) × (h.queues ≤ 32) × (h.works ≤ 256) × (h.actors ≤ 16))
    head_bytes HeadFits
    (bytes_of 0 255 (omega arith) (omega arith)) (λ cpus fits. heads_workers cpus) (record {
      join = λ cpus h fits i. (i.0, (omega (arith, i.0, fits.1), i.1, i.2, i.3, i.4, i.5, i.6));
      cut = λ h i. ((omega arith, i.0), (refl, i.1, i.2, i.3, i.4, i.5, i.6));
      written = λ h i. refl;
    })

-- ---- the whole

abbrev head_of : ScenarioContents → Head
head_of S = head_with S.cpus S.workers S.steps S.flushes (length S.queues) (length S.works) (length S.actors)

abbrev scenario_with : Head → List QueueDecl → List WorkContents → List ActorContents → ScenarioContents
scenario_with head queues works actors =
    record { cpus = head.cpus; workers = head.workers; steps = head.steps; flushes = head.flushes; queues = queues; works = works; actors = actors }

abbrev with_numbers : (cpus workers steps flushes : ℕ) → List QueueDecl → List WorkContents → List ActorContents → ScenarioContents
with_numbers cpus workers steps flushes queues works actors =
    record { cpus = cpus; workers = workers; steps = steps; flushes = flushes; queues = queues; works = works; actors = actors }

-- the numbers of a scenario are these
abbrev NumbersAre : Head → ScenarioContents → Type 0
NumbersAre head S = (S.cpus ≡ head.cpus) × (S.workers ≡ head.workers) × (S.steps ≡ head.steps) × (S.flushes ≡ head.flushes)

same_numbers : (a b c d a' b' c' d' : ℕ) (queues : List QueueDecl) (works : List WorkContents) (actors : List ActorContents)
    → a ≡ a' → b ≡ b' → c ≡ c' → d ≡ d' → with_numbers a b c d queues works actors ≡ with_numbers a' b' c' d' queues works actors
same_numbers a b c d a' b' c' d' queues works actors p q r s =
    ap (λ x. with_numbers x b c d queues works actors) p ∙ ap (λ x. with_numbers a' x c d queues works actors) q
    ∙ ap (λ x. with_numbers a' b' x d queues works actors) r ∙ ap (λ x. with_numbers a' b' c' x queues works actors) s

scenarios_actors : (version : ℕ) (head : Head) (queues : List QueueDecl) (works : List WorkContents)
    → Codec (many (read_actor version) head.actors >>= λ actors. done (scenario_with head queues works actors)) (λ S. in_order (flat_map actor_image S.actors ∷ []))
    (λ S. NumbersAre head S × (S.queues ≡ queues) × (S.works ≡ works) × Each (ActorFits version) head.actors S.actors)
scenarios_actors version head queues works =
    one_then (many (read_actor version) head.actors) (λ actors. done (scenario_with head queues works actors)) (λ S. S.actors) (flat_map actor_image) (Each (ActorFits version) head.actors)
    (λ S. []) (λ actors S. S ≡ scenario_with head queues works actors) (λ S. in_order (flat_map actor_image S.actors ∷ []))
    (λ S. NumbersAre head S × (S.queues ≡ queues) × (S.works ≡ works) × Each (ActorFits version) head.actors S.actors)
    (many_of (read_actor version) actor_image (ActorFits version) (actors version) head.actors) (λ actors fits. nothing (scenario_with head queues works actors)) (record {
      join = λ actors S fits e.
          let actors_are : S.actors ≡ actors = ap (λ (x : ScenarioContents). x.actors) e in (
            actors_are,
            (
              (ap (λ (x : ScenarioContents). x.cpus) e, ap (λ (x : ScenarioContents). x.workers) e, ap (λ (x : ScenarioContents). x.steps) e, ap (λ (x : ScenarioContents). x.flushes) e),
              ap (λ (x : ScenarioContents). x.queues) e,
              ap (λ (x : ScenarioContents). x.works) e,
              subst (Each (ActorFits version) head.actors) (sym actors_are) fits,
            ),
          );
      cut = λ S h. (
        h.3,
        same_numbers S.cpus S.workers S.steps S.flushes head.cpus head.workers head.steps head.flushes S.queues S.works S.actors h.0.0 h.0.1 h.0.2 h.0.3
            ∙ ap (λ (x : List QueueDecl). scenario_with head x S.works S.actors) h.1 ∙ ap (λ (x : List WorkContents). scenario_with head queues x S.actors) h.2,
      );
      written = λ S h. refl;
    })

scenarios_works : (version : ℕ) (head : Head) (queues : List QueueDecl)
    → Codec (many (read_work version) head.works >>= λ works. many (read_actor version) head.actors >>= λ actors. done (scenario_with head queues works actors))
    (λ S. in_order (flat_map work_image S.works ∷ flat_map actor_image S.actors ∷ []))
    (λ S. NumbersAre head S × (S.queues ≡ queues) × Each (WorkFits version) head.works S.works × Each (ActorFits version) head.actors S.actors)
scenarios_works version head queues =
    one_then (many (read_work version) head.works) (λ works. many (read_actor version) head.actors >>= λ actors. done (scenario_with head queues works actors)) (λ S. S.works) (flat_map work_image) (Each (WorkFits version) head.works)
    (λ S. in_order (flat_map actor_image S.actors ∷ [])) (λ works S. NumbersAre head S × (S.queues ≡ queues) × (S.works ≡ works) × Each (ActorFits version) head.actors S.actors)
    (λ S. in_order (flat_map work_image S.works ∷ flat_map actor_image S.actors ∷ []))
    (λ S. NumbersAre head S × (S.queues ≡ queues) × Each (WorkFits version) head.works S.works × Each (ActorFits version) head.actors S.actors)
    (many_of (read_work version) work_image (WorkFits version) (works version) head.works) (λ works fits. scenarios_actors version head queues works) (record {
      join = λ works S fits h. (h.2, (h.0, h.1, subst (Each (WorkFits version) head.works) (sym h.2) fits, h.3));
      cut = λ S h. (h.2, (h.0, h.1, refl, h.3));
      written = λ S h. refl;
    })

scenarios_queues : (version : ℕ) (head : Head)
    → Codec (many (read_queue version) head.queues >>= λ queues. many (read_work version) head.works >>= λ works. many (read_actor version) head.actors >>= λ actors. done (scenario_with head queues works actors))
    (λ S. in_order (flat_map queue_image S.queues ∷ flat_map work_image S.works ∷ flat_map actor_image S.actors ∷ []))
    (λ S. NumbersAre head S × Each (QueueFits version) head.queues S.queues × Each (WorkFits version) head.works S.works × Each (ActorFits version) head.actors S.actors)
scenarios_queues version head =
    one_then (many (read_queue version) head.queues) (λ queues. many (read_work version) head.works >>= λ works. many (read_actor version) head.actors >>= λ actors. done (scenario_with head queues works actors)) (λ S. S.queues) (flat_map queue_image) (Each (QueueFits version) head.queues)
    (λ S. in_order (flat_map work_image S.works ∷ flat_map actor_image S.actors ∷ []))
    (λ queues S. NumbersAre head S × (S.queues ≡ queues) × Each (WorkFits version) head.works S.works × Each (ActorFits version) head.actors S.actors)
    (λ S. in_order (flat_map queue_image S.queues ∷ flat_map work_image S.works ∷ flat_map actor_image S.actors ∷ []))
    (λ S. NumbersAre head S × Each (QueueFits version) head.queues S.queues × Each (WorkFits version) head.works S.works × Each (ActorFits version) head.actors S.actors)
    (many_of (read_queue version) queue_image (QueueFits version) (queues version) head.queues) (λ queues fits. scenarios_works version head queues) (record {
      join = λ queues S fits h. (h.1, (h.0, subst (Each (QueueFits version) head.queues) (sym h.1) fits, h.2, h.3));
      cut = λ S h. (h.1, (h.0, refl, h.2, h.3));
      written = λ S h. refl;
    })

-- what stands behind the version
abbrev parts_image : ScenarioContents → List ℕ
parts_image S = head_bytes (head_of S) ++ in_order (flat_map queue_image S.queues ∷ flat_map work_image S.works ∷ flat_map actor_image S.actors ∷ [])

-- what has an image, in this version
pub record HasParts (version : ℕ) (S : ScenarioContents) : Type 0 where
  pub contents : IsScenario S
  pub sized : HasSize S
  pub queues : AreQueuesOf version S.queues
  pub bodies : AreBodiesOf version S.works
  pub lines : AreLinesOf version S.actors

scenario_join : (version : ℕ) (head : Head) (S : ScenarioContents) → HeadFits head
    → NumbersAre head S × Each (QueueFits version) head.queues S.queues × Each (WorkFits version) head.works S.works × Each (ActorFits version) head.actors S.actors → (head_of S ≡ head) × HasParts version S
scenario_join version head S fits h =
    let head_is : head_of S ≡ head =
    ap (λ x. head_with x S.workers S.steps S.flushes (length S.queues) (length S.works) (length S.actors)) h.0.0
    ∙ ap (λ x. head_with head.cpus x S.steps S.flushes (length S.queues) (length S.works) (length S.actors)) h.0.1
    ∙ ap (λ x. head_with head.cpus head.workers x S.flushes (length S.queues) (length S.works) (length S.actors)) h.0.2
    ∙ ap (λ x. head_with head.cpus head.workers head.steps x (length S.queues) (length S.works) (length S.actors)) h.0.3
    ∙ ap (λ x. head_with head.cpus head.workers head.steps head.flushes x (length S.works) (length S.actors)) h.1.0
    ∙ ap (λ x. head_with head.cpus head.workers head.steps head.flushes head.queues x (length S.actors)) h.2.0
    ∙ ap (λ x. head_with head.cpus head.workers head.steps head.flushes head.queues head.works x) h.3.0 in (
      head_is,
      record {
        contents = record {
          cpus = omega (arith, h.0.0, fits.0);
          workers = omega (arith, h.0.1, fits.1);
          steps = omega (arith, h.0.2, fits.2);
          flushes = omega (arith, h.0.3, fits.3);
          queues = all_are (QueueFits version) IsQueueDecl (λ q is. is.0) S.queues h.1.1;
          works = all_are (WorkFits version) IsWorkDecl (λ w is. is.0) S.works h.2.1;
          actors = all_are (ActorFits version) IsActor (λ a is. is.0) S.actors h.3.1;
        };
        sized = record {
          queues = omega (arith, h.1.0, fits.4);
          works = omega (arith, h.2.0, fits.5);
          actors = omega (arith, h.3.0, fits.6);
          bodies = all_are (WorkFits version) HasBodySize (λ w is. is.1.0) S.works h.2.1;
          lines = all_are (ActorFits version) HasLinesSize (λ a is. is.1.0) S.actors h.3.1;
        };
        queues = all_are (QueueFits version) (IsQueueOf version) (λ q is. is.1) S.queues h.1.1;
        bodies = all_are (WorkFits version) (λ w. AllByRecursion (IsOpOf version) w.body) (λ w is. is.1.1) S.works h.2.1;
        lines = all_are (ActorFits version) (λ a. AllByRecursion (IsLineOf version) a.lines) (λ a is. is.1.1) S.actors h.3.1;
      },
    )

scenario_cut : (version : ℕ) (S : ScenarioContents) → HasParts version S
    → HeadFits (head_of S) × (NumbersAre (head_of S) S × Each (QueueFits version) (length S.queues) S.queues × Each (WorkFits version) (length S.works) S.works × Each (ActorFits version) (length S.actors) S.actors)
scenario_cut version S h = (
  (
    omega (arith, h.contents.cpus),
    omega (arith, h.contents.workers),
    omega (arith, h.contents.steps),
    omega (arith, h.contents.flushes),
    h.sized.queues,
    h.sized.works,
    h.sized.actors,
  ),
  (
    (refl, refl, refl, refl),
    (refl, both_all IsQueueDecl (IsQueueOf version) S.queues h.contents.queues h.queues),
    (
      refl,
      both_all IsWorkDecl (λ w. HasBodySize w × AllByRecursion (IsOpOf version) w.body) S.works h.contents.works
          (both_all HasBodySize (λ w. AllByRecursion (IsOpOf version) w.body) S.works h.sized.bodies h.bodies),
    ),
    (
      refl,
      both_all IsActor (λ a. HasLinesSize a × AllByRecursion (IsLineOf version) a.lines) S.actors h.contents.actors
          (both_all HasLinesSize (λ a. AllByRecursion (IsLineOf version) a.lines) S.actors h.sized.lines h.lines),
    ),
  ),
)

-- what stands behind the version is read
abbrev pub parts_at : ℕ → Reader ScenarioContents
parts_at version =
    read_head >>= λ head. many (read_queue version) head.queues >>= λ queues. many (read_work version) head.works >>= λ works. many (read_actor version) head.actors >>= λ actors. done (scenario_with head queues works actors)

parts : (version : ℕ) → Codec (parts_at version) parts_image (HasParts version)
parts version =
    one_then read_head (λ head. many (read_queue version) head.queues >>= λ queues. many (read_work version) head.works >>= λ works. many (read_actor version) head.actors >>= λ actors. done (scenario_with head queues works actors)) head_of head_bytes HeadFits
    (λ S. in_order (flat_map queue_image S.queues ∷ flat_map work_image S.works ∷ flat_map actor_image S.actors ∷ []))
    (λ head S. NumbersAre head S × Each (QueueFits version) head.queues S.queues × Each (WorkFits version) head.works S.works × Each (ActorFits version) head.actors S.actors)
    parts_image (HasParts version)
    heads (λ head fits. scenarios_queues version head) (record {
      join = λ head S fits h. scenario_join version head S fits h;
      cut = scenario_cut version;
      written = λ S h. refl;
    })

-- A version, and a scenario that has it.

abbrev pub Versioned : Type 0
Versioned = ℕ × ScenarioContents

abbrev pub versioned : ℕ → ScenarioContents → Versioned
versioned version S = (version, S)

pub record HasImage (p : Versioned) : Type 0 where
  pub contents : IsScenario p.1
  pub sized : HasSize p.1
  pub has : HasVersion p.1 p.0

-- the image, behind the magic bytes
abbrev pub rest_image : Versioned → List ℕ
rest_image p = number w16 p.0 ++ parts_image p.1

-- what stands behind the magic bytes is read, and the version is kept
abbrev pub versioned_at : Reader Versioned
versioned_at = read_version >>= λ version. parts_at version >>= λ S. done (versioned version S)

versioned_parts : (version : ℕ) → Codec (parts_at version >>= λ S. done (versioned version S)) (λ p. parts_image p.1) (λ p. (p.0 ≡ version) × HasParts version p.1)
versioned_parts version =
    one_then (parts_at version) (λ S. done (versioned version S)) (λ p. p.1) parts_image (HasParts version)
    (λ p. []) (λ S p. p ≡ versioned version S) (λ p. parts_image p.1) (λ p. (p.0 ≡ version) × HasParts version p.1)
    (parts version) (λ S fits. nothing (versioned version S)) (record {
      join = λ S p fits e.
          let scenario_is : p.1 ≡ S = ap (λ (x : Versioned). x.1) e in
          (scenario_is, (ap (λ (x : Versioned). x.0) e, subst (HasParts version) (sym scenario_is) fits));
      cut = λ p h. (h.1, ap (λ v. versioned v p.1) h.0);
      written = λ p h. sym (append-nil (parts_image p.1));
    })

pub images : Codec versioned_at rest_image HasImage
images =
    one_then read_version (λ version. parts_at version >>= λ S. done (versioned version S)) (λ p. p.0) (number w16) (InRange FIRST_VERSION VERSION)
    (λ p. parts_image p.1) (λ version p. (p.0 ≡ version) × HasParts version p.1) rest_image HasImage
    versions (λ version fits. versioned_parts version) (record {
      join = λ version p fits h. (
        h.0,
        record {
          contents = h.1.contents;
          sized = h.1.sized;
          has = record {
            first = omega (arith, h.0, fits.0);
            last = omega (arith, h.0, fits.1);
            queues = subst (λ v. AreQueuesOf v p.1.queues) (sym h.0) h.1.queues;
            bodies = subst (λ v. AreBodiesOf v p.1.works) (sym h.0) h.1.bodies;
            lines = subst (λ v. AreLinesOf v p.1.actors) (sym h.0) h.1.lines;
          };
        },
      );
      cut = λ p h. ((h.has.first, h.has.last), (refl, record { contents = h.contents; sized = h.sized; queues = h.has.queues; bodies = h.has.bodies; lines = h.has.lines }));
      written = λ p h. refl;
    })

pub image_is : (p : Versioned) → image p.0 p.1 ≡ magic ++ rest_image p
image_is p = refl

-- Reading, and keeping the version, gives what reading gives.

abbrev pub without_version : Result (Versioned × Place) ImageError → Result (ScenarioContents × Place) ImageError
without_version (Ok found) = Ok (found.0.1, found.1)
without_version (Err fault) = Err fault

pub read_with_version : (place : Place) → scenario_at place ≡ without_version (versioned_at place)
unfolding scenario_at
read_with_version place = by_version (read_version place)
  where
    kept : (version : ℕ) (r : Result (ScenarioContents × Place) ImageError) → r ≡ without_version (hand_on (λ S. done (versioned version S)) r)
    kept version (Ok found) = refl
    kept version (Err fault) = refl

    by_version : (r : Result (ℕ × Place) ImageError) → hand_on parts_at r ≡ without_version (hand_on (λ version. parts_at version >>= λ S. done (versioned version S)) r)
    by_version (Ok found) = kept found.0 (parts_at found.0 found.1)
    by_version (Err fault) = refl
