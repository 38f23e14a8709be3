-- What entering and leaving make of the idle workers' links.
use Rattle.std.proofs.Common.{◌≡◌, ◌≢◌, ◌⊎◌, ℕ, ◌*◌, ◌<◌, ◌≤◌, Bool, true, false, not, List, length, get_or, set, Option, Some, None, IfSome, arith, refl, sym, ap, subst, ◌∙◌, inl, inr}
use Rattle.std.specs.Prelude.{is_some}
use Rattle.std.proofs.lemmas.Bool.{cases_eq, cases_lt}
use Rattle.std.proofs.lemmas.Bool.Decides.{nat_tests}
use Rattle.std.proofs.lemmas.List.{get_or_default, get_or-set_same, get_or-set_other, get_or_past, length-set, set-get_or, set_past}
use Rattle.cmwq_types.specs.First.{by_greatest}
use Rattle.cmwq_types.proofs.FirstLemmas.{by_greatest-order, first_below-none, first_below-unique}
use Rattle.cmwq_types.specs.declared.limits.TheConstants.{MAX_WORKERS}
use Rattle.cmwq_table.specs.Counts.{idle_stamp}
use Rattle.cmwq_table.specs.State.{seat}
use Rattle.cmwq_idle.specs.Idle.{IsIdleBefore, last_idle_in, stamp_at}
use Rattle.cmwq_idle.specs.Links.{AreLinked, Before, IsIdle, IsLast, IsStack, IsKept, IsStackOf, since, worker_at}

-- Stacks, whatever they are of.

-- the same workers idle from the same stamps on, but for one; those who pass in one are those who pass in the other
record IsSameBut (stamp changed : ℕ → ℕ) (Passes Now : ℕ → Type 0) (x : ℕ) : Type 0 where
  stamps : (v : ℕ) → v ≢ x → changed v ≡ stamp v
  still : (v : ℕ) → v ≢ x → Passes v → Now v
  already : (v : ℕ) → v ≢ x → Now v → Passes v

-- a last one of a stack is a last one of another in which the same pass, by the same stamps
last_agree : (stamp changed : ℕ → ℕ) (Passes Now : ℕ → Type 0) (o : Option ℕ) → ((v : ℕ) → Passes v → Now v) → ((v : ℕ) → Now v → Passes v) → ((v : ℕ) → Passes v → changed v ≡ stamp v) → IsLast stamp Passes o → IsLast changed Now o
last_agree stamp changed Passes Now None still already stamps is = λ v n. is v (already v n)
last_agree stamp changed Passes Now (Some x) still already stamps is =
    (still x is.0, λ v n. (let e = stamps v (already v n) in let at = stamps x is.0 in let low = is.1 v (already v n) in omega (arith, e, at, low)))

-- a new one, idle from a greater stamp on than all others
push : (stamp changed : ℕ → ℕ) (Passes Now : ℕ → Type 0) (last : Option ℕ) (link relinked : ℕ → Option ℕ) (x : ℕ) → IsStack stamp Passes last link → IsSameBut stamp changed Passes Now x → (Passes x → false ≡ true) → Now x
    → ((v : ℕ) → Passes v → stamp v < changed x) → ((v : ℕ) → v ≢ x → relinked v ≡ link v) → relinked x ≡ last → IsStack changed Now (Some x) relinked
push stamp changed Passes Now last link relinked x stack same absent now newest links linked = record {
  last_is = (
    now,
    λ v n. elim (cases_eq v x) [
      | inl is ↦ rw is (omega arith)
      | inr differs ↦ (let low = newest v (same.already v differs n) in let e = same.stamps v differs in omega (arith, low, e))
    ],
  );
  link_is = λ v n. elim (cases_eq v x) [
    | inl is ↦ subst (λ (k : ℕ). IsLast changed (Before changed Now k) (relinked k)) (sym is) (subst (λ (o : Option ℕ). IsLast changed (Before changed Now x) o) (sym linked) (last_agree stamp changed Passes (Before changed Now x) last (below_x) (λ v before. was v before.0 before.1) (λ v p. same.stamps v (not_x v p)) stack.last_is))
    | inr differs ↦ subst (λ (o : Option ℕ). IsLast changed (Before changed Now v) o) (sym (links v differs)) (last_agree stamp changed (Before stamp Passes v) (Before changed Now v) (link v)
        (λ w before. (same.still w (not_x w before.0) before.0, (let e = same.stamps w (not_x w before.0) in let at = same.stamps v differs in let low = before.1 in omega (arith, e, at, low))))
        (λ w before. back v differs n w before.0 before.1 (cases_eq w x))
        (λ w before. same.stamps w (not_x w before.0)) (stack.link_is v (same.already v differs n)))
  ];
  apart = λ v w n m e. elim (cases_eq v x) [
    | inl is ↦ elim (cases_eq w x) [
      | inl as_well ↦ is ∙ sym as_well
      | inr other ↦ absurd (let low = newest w (same.already w other m) in let at = same.stamps w other in let here = ap changed is in omega (arith, low, at, here, e))
    ]
    | inr differs ↦ elim (cases_eq w x) [
      | inl as_well ↦ absurd (let low = newest v (same.already v differs n) in let at = same.stamps v differs in let here = ap changed as_well in omega (arith, low, at, here, e))
      | inr other ↦ stack.apart v w (same.already v differs n) (same.already w other m) (sym (same.stamps v differs) ∙ e ∙ same.stamps w other)
    ]
  ];
}
  where
    not_x : (v : ℕ) → Passes v → v ≢ x
    not_x v p is = absurd (let no = absent (subst (λ (k : ℕ). Passes k) is p) in cc)

    below_x : (v : ℕ) → Passes v → Before changed Now x v
    below_x v p = (same.still v (not_x v p) p, (let e = same.stamps v (not_x v p) in let low = newest v p in omega (arith, e, low)))

    was : (v : ℕ) → Now v → changed v < changed x → Passes v
    was v n low = elim (cases_eq v x) [
      | inl is ↦ absurd (let e = ap changed is in omega (arith, low, e))
      | inr differs ↦ same.already v differs n
    ]

    back : (v : ℕ) → v ≢ x → Now v → (w : ℕ) → Now w → changed w < changed v → (w ≡ x) ⊎ (w ≢ x) → Before stamp Passes v w
    back v differs n w m low (inl is) = absurd (let top = newest v (same.already v differs n) in let at = same.stamps v differs in let e = ap changed is in omega (arith, top, at, e, low))
    back v differs n w m low (inr other) = (same.already w other m, (let e = same.stamps w other in let at = same.stamps v differs in omega (arith, e, at, low)))

-- the last one is gone
pop : (stamp changed : ℕ → ℕ) (Passes Now : ℕ → Type 0) (link : ℕ → Option ℕ) (x : ℕ) → IsStack stamp Passes (Some x) link → IsSameBut stamp changed Passes Now x → (Now x → false ≡ true) → IsStack changed Now (link x) link
pop stamp changed Passes Now link x stack same gone = record {
  last_is = last_agree stamp changed (Before stamp Passes x) Now (link x) (λ v before. same.still v (λ is. absurd (let e = ap stamp is in let low = before.1 in omega (arith, e, low))) before.0) before_x (λ v before. same.stamps v (λ is. absurd (let e = ap stamp is in let low = before.1 in omega (arith, e, low)))) (stack.link_is x stack.last_is.0);
  link_is = λ v n. last_agree stamp changed (Before stamp Passes v) (Before changed Now v) (link v)
      (λ w before. (same.still w (below v n w before.0 before.1) before.0, (let e = same.stamps w (below v n w before.0 before.1) in let at = same.stamps v (not_x v n) in let low = before.1 in omega (arith, e, at, low))))
      (λ w before. (same.already w (not_x w before.0) before.0, (let e = same.stamps w (not_x w before.0) in let at = same.stamps v (not_x v n) in let low = before.1 in omega (arith, e, at, low))))
      (λ w before. same.stamps w (below v n w before.0 before.1)) (stack.link_is v (same.already v (not_x v n) n));
  apart = λ v w n m e. stack.apart v w (same.already v (not_x v n) n) (same.already w (not_x w m) m) (sym (same.stamps v (not_x v n)) ∙ e ∙ same.stamps w (not_x w m));
}
  where
    not_x : (v : ℕ) → Now v → v ≢ x
    not_x v n is = absurd (let no = gone (subst (λ (k : ℕ). Now k) is n) in cc)

    -- who was idle before another isn't the last one
    below : (v : ℕ) → Now v → (w : ℕ) → Passes w → stamp w < stamp v → w ≢ x
    below v n w p low is = absurd (let top = stack.last_is.1 v (same.already v (not_x v n) n) in let e = ap stamp is in omega (arith, top, e, low))

    before_x : (v : ℕ) → Now v → Before stamp Passes x v
    before_x v n = (same.already v (not_x v n) n, apart_low v n (cases_eq (stamp v) (stamp x)))
      where
        apart_low : (v : ℕ) → Now v → (stamp v ≡ stamp x) ⊎ (stamp v ≢ stamp x) → stamp v < stamp x
        apart_low v n (inl e) = absurd (not_x v n (stack.apart v x (same.already v (not_x v n) n) stack.last_is.0 e))
        apart_low v n (inr e) = (let low = stack.last_is.1 v (same.already v (not_x v n) n) in omega (arith, low, e))

-- The stacks of pools.

empty_seat : (idle : List (Option ℕ)) (workers pool v : ℕ) → IsIdle idle workers pool v → stamp_at idle (seat pool v) ≡ None → false ≡ true
empty_seat idle workers pool v is none = sym (ap is_some none) ∙ is.waits

-- two workers of pools have one seat only if they are one
apart_seats : (pool other v w : ℕ) → v < MAX_WORKERS → w < MAX_WORKERS → seat pool v ≡ seat other w → (pool ≡ other) × (v ≡ w)
apart_seats pool other v w small short e = (omega (arith, small, short, e), omega (arith, small, short, e))

fits : (pool pools v : ℕ) → pool < pools → v < MAX_WORKERS → seat pool v < MAX_WORKERS * pools
fits pool pools v small short = omega (arith, small, short)

-- a worker's seat is written, and the others stay
seats_but : (idle : List (Option ℕ)) (workers pool x : ℕ) (o : Option ℕ) → workers ≤ MAX_WORKERS → x < workers → IsSameBut (since idle pool) (since (set idle (seat pool x) o) pool) (IsIdle idle workers pool) (IsIdle (set idle (seat pool x) o) workers pool) x
seats_but idle workers pool x o few small = record {
  stamps = λ v differs. ap idle_stamp (other v differs);
  still = λ v differs is. record { small = is.small; waits = ap is_some (other v differs) ∙ is.waits };
  already = λ v differs is. record { small = is.small; waits = sym (ap is_some (other v differs)) ∙ is.waits };
}
  where
    other : (v : ℕ) → v ≢ x → stamp_at (set idle (seat pool x) o) (seat pool v) ≡ stamp_at idle (seat pool v)
    other v differs = get_or-set_other idle (seat pool x) (seat pool v) o None (λ e. differs (omega (arith, e)))

-- the stacks of other pools stay
other_stack : (idle links last : List (Option ℕ)) (workers pool other x : ℕ) (o l t : Option ℕ) → AreLinked idle links last workers → x < workers → other ≢ pool → other < length last
    → IsStackOf (set idle (seat pool x) o) (set links (seat pool x) l) (set last pool t) workers other
other_stack idle links last workers pool other x o l t linked small differs in_range =
    let stack = linked.stacks other in_range in
    record {
      last_is = subst (λ (top : Option ℕ). IsLast (since (set idle (seat pool x) o) other) (IsIdle (set idle (seat pool x) o) workers other) top) (sym (get_or-set_other last pool other t None differs))
          (last_agree (since idle other) (since (set idle (seat pool x) o) other) (IsIdle idle workers other) (IsIdle (set idle (seat pool x) o) workers other) (worker_at last other) there back (λ v is. stamps v is.small) stack.last_is);
      link_is = λ v is. subst (λ (top : Option ℕ). IsLast (since (set idle (seat pool x) o) other) (Before (since (set idle (seat pool x) o) other) (IsIdle (set idle (seat pool x) o) workers other) v) top)
          (sym (get_or-set_other links (seat pool x) (seat other v) l None (λ e. differs (apart_seats other pool v x (short v is.small) (short x small) e).0)))
          (last_agree (since idle other) (since (set idle (seat pool x) o) other) (Before (since idle other) (IsIdle idle workers other) v) (Before (since (set idle (seat pool x) o) other) (IsIdle (set idle (seat pool x) o) workers other) v) (worker_at links (seat other v))
          (λ w before. (there w before.0, (let e = stamps w before.0.small in let at = stamps v is.small in let low = before.1 in omega (arith, e, at, low))))
          (λ w before. (back w before.0, (let e = stamps w before.0.small in let at = stamps v is.small in let low = before.1 in omega (arith, e, at, low))))
          (λ w before. stamps w before.0.small) (stack.link_is v (back v is)));
      apart = λ v w is as_well e. stack.apart v w (back v is) (back w as_well) (sym (stamps v is.small) ∙ e ∙ stamps w as_well.small);
    }
  where
    short : (v : ℕ) → v < workers → v < MAX_WORKERS
    short v h = omega (arith, h, linked.few)

    same : (v : ℕ) → v < workers → stamp_at (set idle (seat pool x) o) (seat other v) ≡ stamp_at idle (seat other v)
    same v h = get_or-set_other idle (seat pool x) (seat other v) o None (λ e. differs (apart_seats other pool v x (short v h) (short x small) e).0)

    stamps : (v : ℕ) → v < workers → since (set idle (seat pool x) o) other v ≡ since idle other v
    stamps v h = ap idle_stamp (same v h)

    there : (v : ℕ) → IsIdle idle workers other v → IsIdle (set idle (seat pool x) o) workers other v
    there v is = record { small = is.small; waits = ap is_some (same v is.small) ∙ is.waits }

    back : (v : ℕ) → IsIdle (set idle (seat pool x) o) workers other v → IsIdle idle workers other v
    back v is = record { small = is.small; waits = sym (ap is_some (same v is.small)) ∙ is.waits }

-- a worker becomes idle
pub entered : (idle links last : List (Option ℕ)) (workers pool x stamp : ℕ) → AreLinked idle links last workers → pool < length last → x < workers → stamp_at idle (seat pool x) ≡ None → IsIdleBefore idle stamp
    → AreLinked (set idle (seat pool x) (Some stamp)) (set links (seat pool x) (worker_at last pool)) (set last pool (Some x)) workers
entered idle links last workers pool x stamp linked in_range small free newest = record {
  few = linked.few;
  idle_long = length-set idle (seat pool x) (Some stamp) ∙ linked.idle_long ∙ ap (λ (n : ℕ). MAX_WORKERS * n) (sym (length-set last pool (Some x)));
  links_long = length-set links (seat pool x) (worker_at last pool) ∙ linked.links_long ∙ sym (length-set idle (seat pool x) (Some stamp));
  stacks = λ other h. by_pool other (subst (λ (n : ℕ). other < n) (length-set last pool (Some x)) h) (cases_eq other pool);
}
  where
    at_seat : seat pool x < length idle
    at_seat = subst (λ (n : ℕ). seat pool x < n) (sym linked.idle_long) (fits pool (length last) x in_range (omega (arith, small, linked.few)))

    here : stamp_at (set idle (seat pool x) (Some stamp)) (seat pool x) ≡ Some stamp
    here = get_or-set_same idle (seat pool x) (Some stamp) None at_seat

    later : (v : ℕ) → IsIdle idle workers pool v → since idle pool v < since (set idle (seat pool x) (Some stamp)) pool x
    later v is = subst (λ (n : ℕ). since idle pool v < n) (sym (ap idle_stamp here)) (by_stamp (stamp_at idle (seat pool v)) is.waits (newest (seat pool v)))
      where
        by_stamp : (o : Option ℕ) → is_some o ≡ true → IfSome o (λ since. since < stamp) → idle_stamp o < stamp
        by_stamp None waits low = absurd (cc)
        by_stamp (Some t) waits low = low

    by_pool : (other : ℕ) → other < length last → (other ≡ pool) ⊎ (other ≢ pool) → IsStackOf (set idle (seat pool x) (Some stamp)) (set links (seat pool x) (worker_at last pool)) (set last pool (Some x)) workers other
    by_pool other h (inr differs) = other_stack idle links last workers pool other x (Some stamp) (worker_at last pool) (Some x) linked small differs h
    by_pool other h (inl is) = subst (λ (k : ℕ). IsStackOf (set idle (seat pool x) (Some stamp)) (set links (seat pool x) (worker_at last pool)) (set last pool (Some x)) workers k) (sym is)
        (subst (λ (top : Option ℕ). IsStack (since (set idle (seat pool x) (Some stamp)) pool) (IsIdle (set idle (seat pool x) (Some stamp)) workers pool) top (λ worker. worker_at (set links (seat pool x) (worker_at last pool)) (seat pool worker))) (sym (get_or-set_same last pool (Some x) None in_range))
        (push (since idle pool) (since (set idle (seat pool x) (Some stamp)) pool) (IsIdle idle workers pool) (IsIdle (set idle (seat pool x) (Some stamp)) workers pool) (worker_at last pool) (λ worker. worker_at links (seat pool worker)) (λ worker. worker_at (set links (seat pool x) (worker_at last pool)) (seat pool worker)) x
        (linked.stacks pool in_range) (seats_but idle workers pool x (Some stamp) linked.few small) (λ is. empty_seat idle workers pool x is free) (record { small = small; waits = ap is_some here }) later
        (λ v differs. get_or-set_other links (seat pool x) (seat pool v) (worker_at last pool) None (λ e. differs (omega (arith, e))))
        (get_or-set_same links (seat pool x) (worker_at last pool) None (subst (λ (n : ℕ). seat pool x < n) (sym linked.links_long) at_seat))))

-- the last idle worker gets work
pub left : (idle links last : List (Option ℕ)) (workers pool x : ℕ) → AreLinked idle links last workers → pool < length last → x < workers → worker_at last pool ≡ Some x → AreLinked (set idle (seat pool x) None) links (set last pool (worker_at links (seat pool x))) workers
left idle links last workers pool x linked in_range small top = record {
  few = linked.few;
  idle_long = length-set idle (seat pool x) None ∙ linked.idle_long ∙ ap (λ (n : ℕ). MAX_WORKERS * n) (sym (length-set last pool (worker_at links (seat pool x))));
  links_long = linked.links_long ∙ sym (length-set idle (seat pool x) None);
  stacks = λ other h. by_pool other (subst (λ (n : ℕ). other < n) (length-set last pool (worker_at links (seat pool x))) h) (cases_eq other pool);
}
  where
    gone : IsIdle (set idle (seat pool x) None) workers pool x → false ≡ true
    gone is = empty_seat (set idle (seat pool x) None) workers pool x is (get_or-set_same idle (seat pool x) None None (subst (λ (n : ℕ). seat pool x < n) (sym linked.idle_long) (fits pool (length last) x in_range (omega (arith, small, linked.few)))))

    by_pool : (other : ℕ) → other < length last → (other ≡ pool) ⊎ (other ≢ pool) → IsStackOf (set idle (seat pool x) None) links (set last pool (worker_at links (seat pool x))) workers other
    by_pool other h (inr differs) =
        let stacked = other_stack idle links last workers pool other x None None (worker_at links (seat pool x)) linked small differs h in
        record { last_is = stacked.last_is; link_is = linked_still other h differs; apart = stacked.apart }
      where
        linked_still : (other : ℕ) → other < length last → other ≢ pool → (v : ℕ) → IsIdle (set idle (seat pool x) None) workers other v → IsLast (since (set idle (seat pool x) None) other) (Before (since (set idle (seat pool x) None) other) (IsIdle (set idle (seat pool x) None) workers other) v) (worker_at links (seat other v))
        linked_still other h differs v is =
            let stacked = other_stack idle links last workers pool other x None None (worker_at links (seat pool x)) linked small differs h in
            subst (λ (o : Option ℕ). IsLast (since (set idle (seat pool x) None) other) (Before (since (set idle (seat pool x) None) other) (IsIdle (set idle (seat pool x) None) workers other) v) o) (get_or-set_other links (seat pool x) (seat other v) None None (λ e. differs (apart_seats other pool v x (omega (arith, is.small, linked.few)) (omega (arith, small, linked.few)) e).0)) (stacked.link_is v is)
    by_pool other h (inl is) = subst (λ (k : ℕ). IsStackOf (set idle (seat pool x) None) links (set last pool (worker_at links (seat pool x))) workers k) (sym is)
        (subst (λ (o : Option ℕ). IsStack (since (set idle (seat pool x) None) pool) (IsIdle (set idle (seat pool x) None) workers pool) o (λ worker. worker_at links (seat pool worker))) (sym (get_or-set_same last pool (worker_at links (seat pool x)) None in_range))
        (pop (since idle pool) (since (set idle (seat pool x) None) pool) (IsIdle idle workers pool) (IsIdle (set idle (seat pool x) None) workers pool) (λ worker. worker_at links (seat pool worker)) x
        (subst (λ (o : Option ℕ). IsStack (since idle pool) (IsIdle idle workers pool) o (λ worker. worker_at links (seat pool worker))) top (linked.stacks pool in_range)) (seats_but idle workers pool x None linked.few small) gone))

-- where nobody is idle, nobody is taken out
pub none_left : (idle links last : List (Option ℕ)) (workers pool x : ℕ) → AreLinked idle links last workers → pool < length last → x < workers → worker_at last pool ≡ None → stamp_at idle (seat pool x) ≡ None
none_left idle links last workers pool x linked in_range small empty = by_seat (stamp_at idle (seat pool x)) refl
  where
    by_seat : (o : Option ℕ) → stamp_at idle (seat pool x) ≡ o → o ≡ None
    by_seat None e = refl
    by_seat (Some t) e = absurd (let no = subst (λ (o : Option ℕ). IsLast (since idle pool) (IsIdle idle workers pool) o) empty (linked.stacks pool in_range).last_is x (record { small = small; waits = ap is_some e }) in cc)

-- the last one is the table's
pub last_is_found : (idle links last : List (Option ℕ)) (workers pool : ℕ) → AreLinked idle links last workers → pool < length last → worker_at last pool ≡ last_idle_in idle workers pool
last_is_found idle links last workers pool linked in_range = by_last (worker_at last pool) refl
  where
    before_is : (v x : ℕ) → since idle pool v ≤ since idle pool x → v ≢ x → IsIdle idle workers pool v → IsIdle idle workers pool x → since idle pool v < since idle pool x
    before_is v x low differs is as_well = by_stamps (cases_eq (since idle pool v) (since idle pool x))
      where
        by_stamps : (since idle pool v ≡ since idle pool x) ⊎ (since idle pool v ≢ since idle pool x) → since idle pool v < since idle pool x
        by_stamps (inl e) = absurd (differs ((linked.stacks pool in_range).apart v x is as_well e))
        by_stamps (inr e) = omega (arith, low, e)

    by_last : (o : Option ℕ) → worker_at last pool ≡ o → o ≡ last_idle_in idle workers pool
    by_last None e = sym (first_below-none (by_greatest (since idle pool)) (λ worker. is_some (stamp_at idle (seat pool worker))) workers (by_greatest-order (since idle pool)) (λ v h. by_test v h (is_some (stamp_at idle (seat pool v))) refl))
      where
        by_test : (v : ℕ) → v < workers → (b : Bool) → is_some (stamp_at idle (seat pool v)) ≡ b → b ≡ false
        by_test v h false waits = refl
        by_test v h true waits = absurd (let no = subst (λ (o : Option ℕ). IsLast (since idle pool) (IsIdle idle workers pool) o) e (linked.stacks pool in_range).last_is v (record { small = h; waits = waits }) in cc)
    by_last (Some x) e =
        let is = subst (λ (o : Option ℕ). IsLast (since idle pool) (IsIdle idle workers pool) o) e (linked.stacks pool in_range).last_is in
        sym (first_below-unique (by_greatest (since idle pool)) (λ worker. is_some (stamp_at idle (seat pool worker))) workers x (by_greatest-order (since idle pool)) is.0.small is.0.waits
        (λ k h p. let low = before_is k x (is.1 k (record { small = omega (arith, h, is.0.small); waits = p })) (λ same. absurd (omega (arith, h, same))) (record { small = omega (arith, h, is.0.small); waits = p }) is.0 in grind (arith, nat_tests))
        (λ k h p. let low = is.1 k (record { small = h; waits = p }) in grind (arith, nat_tests)))

-- The invariant, after each change.

pub seat_fits : (idle links last : List (Option ℕ)) (made : List ℕ) (workers pool x : ℕ) → IsKept idle links last made workers → pool < length last → x < workers → (seat pool x < length idle) × (seat pool x < length links)
seat_fits idle links last made workers pool x kept in_range small =
    let at : seat pool x < length idle = subst (λ (n : ℕ). seat pool x < n) (sym kept.linked.idle_long) (fits pool (length last) x in_range (omega (arith, small, kept.linked.few))) in
    (at, subst (λ (n : ℕ). seat pool x < n) (sym kept.linked.links_long) at)

pub kept_entering : (idle links last : List (Option ℕ)) (made : List ℕ) (workers pool x stamp : ℕ) → IsKept idle links last made workers → pool < length last → x < workers → stamp_at idle (seat pool x) ≡ None → IsIdleBefore idle stamp
    → IsKept (set idle (seat pool x) (Some stamp)) (set links (seat pool x) (worker_at last pool)) (set last pool (Some x)) made workers
kept_entering idle links last made workers pool x stamp kept in_range small free newest = record {
  linked = entered idle links last workers pool x stamp kept.linked in_range small free newest;
  made_long = kept.made_long ∙ sym (length-set last pool (Some x));
}

pub kept_leaving : (idle links last : List (Option ℕ)) (made : List ℕ) (workers pool x : ℕ) → IsKept idle links last made workers → pool < length last → x < workers → IfSome (last_idle_in idle workers pool) (λ last. last ≡ x) → is_some (worker_at last pool) ≡ true
    → IsKept (set idle (seat pool x) None) links (set last pool (worker_at links (seat pool x))) made workers
kept_leaving idle links last made workers pool x kept in_range small free some = by_last (worker_at last pool) refl some (subst (λ (o : Option ℕ). IfSome o (λ last. last ≡ x)) (sym (last_is_found idle links last workers pool kept.linked in_range)) free)
  where
    by_last : (o : Option ℕ) → worker_at last pool ≡ o → is_some o ≡ true → IfSome o (λ last. last ≡ x) → IsKept (set idle (seat pool x) None) links (set last pool (worker_at links (seat pool x))) made workers
    by_last (Some top) e some is = record {
      linked = left idle links last workers pool x kept.linked in_range small (e ∙ ap Some is);
      made_long = kept.made_long ∙ sym (length-set last pool (worker_at links (seat pool x)));
    }
    by_last None e some is = absurd (cc)

-- where nobody is idle, nobody leaves
pub nobody_leaves : (idle links last : List (Option ℕ)) (made : List ℕ) (workers pool x : ℕ) → IsKept idle links last made workers → pool < length last → x < workers → worker_at last pool ≡ None → set idle (seat pool x) None ≡ idle
nobody_leaves idle links last made workers pool x kept in_range small empty =
    ap (set idle (seat pool x)) (sym (none_left idle links last workers pool x kept.linked in_range small empty)) ∙ set-get_or idle (seat pool x) None

-- of a pool that isn't there nobody leaves, and none is made
pub no_seat : (idle links last : List (Option ℕ)) (made : List ℕ) (workers pool x : ℕ) → IsKept idle links last made workers → length made ≤ pool → set idle (seat pool x) None ≡ idle
no_seat idle links last made workers pool x kept past = set_past idle (seat pool x) None (omega (arith, past, kept.made_long, kept.linked.idle_long))

-- The last one is the table's, whatever the pool's number: of a pool that isn't there nobody is idle.
pub last_found : (idle links last : List (Option ℕ)) (made : List ℕ) (workers pool : ℕ) → IsKept idle links last made workers → worker_at last pool ≡ last_idle_in idle workers pool
last_found idle links last made workers pool kept = by_range (cases_lt pool (length last))
  where
    by_range : (pool < length last) ⊎ (length last ≤ pool) → worker_at last pool ≡ last_idle_in idle workers pool
    by_range (inl inside) = last_is_found idle links last workers pool kept.linked inside
    by_range (inr past) =
        get_or_past last pool None past
        ∙ sym (first_below-none (by_greatest (since idle pool)) (λ worker. is_some (stamp_at idle (seat pool worker))) workers (by_greatest-order (since idle pool))
        (λ v h. ap is_some (get_or_past idle (seat pool v) None (omega (arith, past, kept.linked.idle_long)))))

-- what an index reads
pub read_in : (xs : List (Option ℕ)) (i : ℕ) (o : Option ℕ) → i < length xs → o ≡ get_or xs i o → o ≡ worker_at xs i
read_in xs i o h e = e ∙ get_or_default xs i o None h

-- what a test for nobody tells
pub none_told : (o : Option ℕ) (b : Bool) → is_some o ≡ not b → b ≡ true → o ≡ None
none_told None b told is = refl
none_told (Some x) b told is = absurd (let no = ap not is in cc)

pub some_told : (o : Option ℕ) (b : Bool) → is_some o ≡ not b → b ≡ false → is_some o ≡ true
some_told o b told is = told ∙ ap not is
