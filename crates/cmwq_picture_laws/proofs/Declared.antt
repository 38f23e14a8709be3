-- The rows of a picture are of works that there are, or of none.
use Rattle.std.proofs.Common.{◌≡◌, ℕ, zero, suc, ◌+◌, ◌*◌, ◌<◌, Bool, true, false, cond, List, [], ◌∷◌, ◌++◌, length, map, Option, arith}
use Rattle.std.specs.List.{filter, flat_map, range_with_len}
use Rattle.std.specs.Prelude.{slice_index_or}
use Rattle.cmwq_types.specs.Contents.{ScenarioContents}
use Rattle.cmwq_types.specs.declared.instr.WorkId.{WorkId}
use Rattle.cmwq_picture.specs.Laws.{IsDeclaredRow}
use Rattle.cmwq_picture.specs.Picture.{below, is_picked, titles, work_titles, worker_titles}
use Rattle.cmwq_picture.specs.declared.row.Title.{Title}
use Rattle.cmwq_picture.specs.declared.row.Title.TheVariants as title

module _ (S : ScenarioContents) where
  abbrev AllDeclared : List Title → Type 0
  AllDeclared [] = Unit {0}
  AllDeclared (row ∷ more) = IsDeclaredRow S row × AllDeclared more

  both-declared : (xs ys : List Title) → AllDeclared xs → AllDeclared ys → AllDeclared (xs ++ ys)
  both-declared [] ys one other = other
  both-declared (row ∷ xs) ys one other = (one.0, both-declared xs ys one.1 other)

  each-declared : (f : ℕ → Title) → ((n : ℕ) → IsDeclaredRow S (f n)) → (ns : List ℕ) → AllDeclared (map f ns)
  each-declared f declared [] = tt
  each-declared f declared (n ∷ ns) = (declared n, each-declared f declared ns)

  work-if : (w : ℕ) (b : Bool) (ws : List ℕ) → w < length S.works → AllDeclared (flat_map work_titles ws) → AllDeclared (flat_map work_titles (cond b (w ∷ ws) ws))
  work-if w true ws less others = (less, (less, others))
  work-if w false ws less others = others

  works-declared : (p : ℕ → Bool) (from n : ℕ) → from + n ≡ length S.works → AllDeclared (flat_map work_titles (filter p (range_with_len from n)))
  works-declared p from zero within = tt
  works-declared p from (suc n) within = work-if from (p from) (filter p (range_with_len (from + 1) n)) (omega arith) (works-declared p (from + 1) n (omega arith))

  workers-declared : (pools : List ℕ) → AllDeclared (flat_map (worker_titles S) pools)
  workers-declared [] = tt
  workers-declared (pool ∷ pools) =
      both-declared (worker_titles S pool) (flat_map (worker_titles S) pools) (each-declared (λ worker. title.Worker pool worker) (λ n. tt) (below S.workers)) (workers-declared pools)

  titles-declared : (works : Option (List WorkId)) → AllDeclared (titles S works)
  titles-declared works =
      let cpus = map (λ cpu. title.Cpu cpu) (below S.cpus) in
      let workers = flat_map (worker_titles S) (range_with_len (2 * S.cpus) 2) in
      let rescuers = map (λ queue. title.Rescuer (record { 0 = queue })) (below (length S.queues)) in
      let last : List Title = title.Frozen ∷ title.Pressed ∷ title.Actor ∷ [] in
      let of_works = flat_map work_titles (filter (is_picked works) (below (length S.works))) in
      let first = both-declared of_works cpus (works-declared (is_picked works) 0 (length S.works) (omega arith)) (each-declared (λ cpu. title.Cpu cpu) (λ n. tt) (below S.cpus)) in
      let second = both-declared (of_works ++ cpus) workers first (workers-declared (range_with_len (2 * S.cpus) 2)) in
      let third = both-declared (of_works ++ cpus ++ workers) rescuers second (each-declared (λ queue. title.Rescuer (record { 0 = queue })) (λ n. tt) (below (length S.queues))) in
      both-declared (of_works ++ cpus ++ workers ++ rescuers) last third (tt, (tt, (tt, tt)))

  at : (rows : List Title) (k : ℕ) (d : Title) → AllDeclared rows → k < length rows → IsDeclaredRow S (slice_index_or rows k d)
  at [] k d declared less = absurd (omega (arith, less))
  at (row ∷ rows) zero d declared less = declared.0
  at (row ∷ rows) (suc k) d declared less = at rows k d declared.1 (omega (arith, less))

  pub row-declared : (works : Option (List WorkId)) (k : ℕ) (d : Title) → k < length (titles S works) → IsDeclaredRow S (slice_index_or (titles S works) k d)
  row-declared works k d less = at (titles S works) k d (titles-declared works) less
