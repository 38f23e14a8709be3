-- What is reached from instances that are there: all whom these blame, and whom those blame, to the last.
use Rattle.std.proofs.Common.{Bor, ◌≡◌, ◌⊎◌, ℕ, zero, suc, ◌*◌, ◌<◌, ◌≤◌, Bool, true, false, cond, List, [], ◌∷◌, ◌++◌, length, take, Option, Some, None, arith, refl, sym, ap, ◌∙◌, subst, inl, inr, append_assoc}
use Rattle.std.proofs.Math.Nat.{eq-or-lt_of_le}
use Rattle.std.proofs.Math.Seq.{take-append_seam}
use Rattle.std.proofs.lemmas.List.{append-nil, take-append-le}
use Rattle.std.proofs.lemmas.Map.Keys.{IsDistinct-push}
use Rattle.std.proofs.lemmas.Map.Made.{length-le_from_is_member}
use Rattle.std.proofs.lemmas.Option.{slice_get-get_or, slice_get_cases, slice_get_past, slice_get_within}
use Rattle.std.specs.Cmp.{IsEquivalence}
use Rattle.std.specs.List.{AllByRecursion, HoldsAt, IsDistinct, list_any}
use Rattle.std.specs.Option.{MatchOption, option_copied, option_or}
use Rattle.std.specs.Prelude.{nat_lt, slice_get, ◌==◌, ◌||◌, IfSome, IsSome}
use Rattle.cmwq_types.specs.Contents.{ScenarioContents}
use Rattle.cmwq_types.specs.Scenario.{queue_of}
use Rattle.cmwq_table.specs.Counts.{placed_born, runs}
use Rattle.cmwq_table.specs.Laws.{InEveryState}
use Rattle.cmwq_table.specs.State.{State, pending_at, running_at}
use Rattle.cmwq_table.specs.Table.{run}
use Rattle.cmwq_table.specs.declared.state.FlushTarget.TheVariants as target
use Rattle.cmwq_table.specs.declared.state.Pending.{Pending}
use Rattle.cmwq_table.specs.declared.state.Running.{Running}
use Rattle.cmwq_reasons.specs.Laws.{BlamesWhoIsThere, IsAmong, IsThere}
use Rattle.cmwq_reasons.specs.Reasons.{birth, holders, instances_born, is_same, pending_half, put_all_by_birth, put_by_birth, reason_if_pending, reason_if_running, reason_in_place, reason_of, reason_of_running, running_half, waits, waits_below, work_of}
use Rattle.cmwq_reasons.specs.declared.reason.Instance.{Instance}
use Rattle.cmwq_reasons.specs.declared.reason.Instance.TheVariants as instance
use Rattle.cmwq_reasons.specs.declared.reason.Reason.{Reason}
use Rattle.cmwq_reasons.proofs.MoverLemmas.{same-false, same-refl, same-true}
use Rattle.cmwq_reasons.proofs.RankLemmas.{among-append, one-named}
use Rattle.cmwq_flush_waits.specs.Holders.{HasHolders}
use Rattle.cmwq_flush_waits.specs.Laws.{AreReached, IsBlamedByOne, ReachesAllBlamed}
use Rattle.cmwq_flush_waits.specs.declared.reaching.Full.{Full}
use Rattle.cmwq_flush_waits.specs.Waits.{blamed, blamed_for, blamed_if_any, reached, with_blamed_below, with_instance, with_instances}

-- Instances in lists.

differ-by : (b : Bool) (x y : Instance) → is_same x y ≡ b → (x ≡ y → ⊥) → is_same x y ≡ false
differ-by true x y e apart = absurd (apart (same-true x y e))
differ-by false x y e apart = e

differ : (x y : Instance) → (x ≡ y → ⊥) → is_same x y ≡ false
differ x y apart = differ-by (is_same x y) x y refl apart

same-sym : (x y : Instance) → is_same x y ≡ is_same y x
same-sym x y = by (is_same x y) refl where
  by : (b : Bool) → is_same x y ≡ b → is_same x y ≡ is_same y x
  by true e = e ∙ sym (same-refl x) ∙ ap (λ (z : Instance). is_same z x) (same-true x y e)
  by false e = e ∙ sym (differ y x (λ is. same-false x y e is))

same_equivalence : IsEquivalence is_same
same_equivalence = record {
  refl = same-refl;
  symm = same-sym;
  congr = λ x y z e. ap (λ (v : Instance). is_same v z) (same-true x y e);
}

found-among : (b : Bool) (y x : Instance) (xs : List Instance) → is_same y x ≡ b → list_any (is_same y) (x ∷ xs) ≡ true → (list_any (is_same y) xs ≡ true → IsAmong y xs)
    → IsAmong y (x ∷ xs)
found-among true y x xs e any later = inl (same-true y x e)
found-among false y x xs e any later = inr (later (let here : list_any (is_same y) (x ∷ xs) ≡ list_any (is_same y) xs = ap (λ (b : Bool). b || list_any (is_same y) xs) e in sym here ∙ any))

any-among : (y : Instance) (xs : List Instance) → list_any (is_same y) xs ≡ true → IsAmong y xs
any-among y [] e = cc
any-among y (x ∷ xs) e = found-among (is_same y x) y x xs refl e (any-among y xs)

among-any : (y : Instance) (xs : List Instance) → IsAmong y xs → list_any (is_same y) xs ≡ true
among-any y [] there = absurd there
among-any y (x ∷ xs) (inl is) = any-here (is_same y x) (list_any (is_same y) xs) (ap (is_same y) (sym is) ∙ same-refl y) where
  any-here : (a b : Bool) → a ≡ true → (a || b) ≡ true
  any-here true b e = refl
  any-here false b e = cc
among-any y (x ∷ xs) (inr later) = any-later (is_same y x) (list_any (is_same y) xs) (among-any y xs later) where
  any-later : (a b : Bool) → b ≡ true → (a || b) ≡ true
  any-later true b e = refl
  any-later false b e = e

among-left : (x : Instance) (xs ys : List Instance) → IsAmong x xs → IsAmong x (xs ++ ys)
among-left x [] ys there = absurd there
among-left x (z ∷ xs) ys (inl is) = inl is
among-left x (z ∷ xs) ys (inr later) = inr (among-left x xs ys later)

among-last : (x : Instance) (xs : List Instance) → IsAmong x (xs ++ x ∷ [])
among-last x [] = inl refl
among-last x (z ∷ xs) = inr (among-last x xs)

get-among : (xs : List Instance) (k : ℕ) (x : Instance) → slice_get xs k ≡ Some x → IsAmong x xs
get-among [] k x e = cc
get-among (z ∷ xs) zero x e = inl (let same : x ≡ z = cc in same)
get-among (z ∷ xs) (suc k) x e = inr (get-among xs k x e)

among-get : (xs : List Instance) (x : Instance) → IsAmong x xs → (k : ℕ) × (slice_get xs k ≡ Some x)
among-get [] x there = absurd there
among-get (z ∷ xs) x (inl is) = (0, ap Some (sym is))
among-get (z ∷ xs) x (inr later) = (let found = among-get xs x later in (suc found.0, found.1))

get-left : (xs ys : List Instance) (k : ℕ) → k < length xs → slice_get (xs ++ ys) k ≡ slice_get xs k
get-left [] ys k less = absurd (omega arith)
get-left (x ∷ xs) ys zero less = refl
get-left (x ∷ xs) ys (suc k) less = get-left xs ys k (omega arith)

get-last : (xs : List Instance) (y : Instance) → slice_get (xs ++ y ∷ []) (length xs) ≡ Some y
get-last [] y = refl
get-last (x ∷ xs) y = get-last xs y

length-last : (xs : List Instance) (y : Instance) → length (xs ++ y ∷ []) ≡ suc (length xs)
length-last [] y = refl
length-last (x ∷ xs) y = ap suc (length-last xs y)

-- Once each.

all-apart : (x : Instance) (ys : List Instance) → ((y : Instance) → IsAmong y ys → is_same x y ≡ false) → AllByRecursion (λ y. is_same x y ≡ false) ys
all-apart x [] apart = tt
all-apart x (y ∷ ys) apart = (apart y (inl refl), all-apart x ys (λ z there. apart z (inr there)))

apart-at : (x y : Instance) (ys : List Instance) → AllByRecursion (λ y. is_same x y ≡ false) ys → IsAmong y ys → is_same x y ≡ false
apart-at x y [] all there = absurd there
apart-at x y (z ∷ ys) all (inl is) = ap (is_same x) is ∙ all.0
apart-at x y (z ∷ ys) all (inr later) = apart-at x y ys all.1 later

-- All instances of the first n works are two for each.
abbrev halves : ℕ → List Instance
halves zero = []
halves (suc n) = pending_half n ∷ running_half n ∷ halves n

length-halves : (n : ℕ) → length (halves n) ≡ 2 * n
length-halves zero = refl
length-halves (suc n) = let rest : length (halves n) ≡ 2 * n = length-halves n in omega arith

half-here : (x : Instance) (n : ℕ) → work_of x ≡ n → IsAmong x (halves (suc n))
half-here (instance.Pending w) n is = inl (ap pending_half is)
half-here (instance.Running w) n is = inr (inl (ap running_half is))

among-halves : (n : ℕ) (x : Instance) → work_of x < n → IsAmong x (halves n)
among-halves zero x less = absurd (omega arith)
among-halves (suc n) x less = elim (eq-or-lt_of_le (let most : work_of x ≤ n = omega arith in most)) [
  | inl is ↦ half-here x n is
  | inr below ↦ inr (inr (among-halves n x below))
]

few : (n : ℕ) (xs : List Instance) → IsDistinct is_same xs → ((x : Instance) → IsAmong x xs → work_of x < n) → length xs ≤ 2 * n
few n xs once below =
    let most : length xs ≤ length (halves n) =
    length-le_from_is_member same_equivalence xs (halves n) once (λ x there. among-any x (halves n) (among-halves n x (below x (any-among x xs there)))) in
    let two : length (halves n) ≡ 2 * n = length-halves n in
    omega arith

-- Instances that have those whom they wait for put behind them.

module _ (S : ScenarioContents) (s : State) (first : List Instance) where
  -- behind the first ones stand, each once, instances that one before them blames
  record Grows (all : List Instance) : Type 0 where
    begins : (rest : List Instance) × (all ≡ first ++ rest)
    once : IsDistinct is_same all
    there : (x : Instance) → IsAmong x all → IsThere S s x
    follows : (place : ℕ) (y : Instance) → slice_get all place ≡ Some y → IsAmong y first ⊎ IsBlamedByOne S s (take place all) y

  follows-last : (all : List Instance) (y x : Instance) → Grows all → IsAmong x all → IsAmong y (blamed S s x) → (place : ℕ) (z : Instance)
      → slice_get (all ++ y ∷ []) place ≡ Some z → IsAmong z first ⊎ IsBlamedByOne S s (take place (all ++ y ∷ [])) z
  follows-last all y x g there blames place z is = elim (slice_get_cases all place).1 [
    | inl old ↦ (let same : take place (all ++ y ∷ []) ≡ take place all = take-append-le place all (y ∷ []) (let less : place < length all = old.1 in omega arith) in
        subst (λ (xs : List Instance). IsAmong z first ⊎ IsBlamedByOne S s xs z) (sym same) (g.follows place z (sym (get-left all (y ∷ []) place old.1) ∙ is)))
    | inr past ↦ (let within : place < length (all ++ y ∷ []) = slice_get_within (all ++ y ∷ []) place z is in
        let long : length (all ++ y ∷ []) ≡ suc (length all) = length-last all y in
        let behind : length all ≤ place = past.0 in
        let at : place ≡ length all = omega arith in
        let found : Some y ≡ Some z = sym (get-last all y) ∙ ap (slice_get (all ++ y ∷ [])) (sym at) ∙ is in
        let same : y ≡ z = cc in
        let before : take place (all ++ y ∷ []) ≡ all = ap (λ (k : ℕ). take k (all ++ y ∷ [])) at ∙ take-append_seam all (y ∷ []) in
        inr (x, subst (IsAmong x) (sym before) there, subst (λ (v : Instance). IsAmong v (blamed S s x)) same blames))
  ]

  there-last : (all : List Instance) (y : Instance) → Grows all → IsThere S s y → (x : Instance) → IsAmong x (all ++ y ∷ []) → IsThere S s x
  there-last all y g is x there = elim (among-append x all (y ∷ []) there) [
    | inl old ↦ g.there x old
    | inr last ↦ subst (IsThere S s) (sym (one-named x y last)) is
  ]

  grows-one : (all : List Instance) (y x : Instance) (b : Bool) → list_any (is_same y) all ≡ b → Grows all → IsAmong x all → IsAmong y (blamed S s x) → IsThere S s y
      → Grows (cond b all (all ++ y ∷ []))
  grows-one all y x true e g there blames is = g
  grows-one all y x false e g there blames is = record {
    begins = (g.begins.0 ++ y ∷ [], ap (λ (xs : List Instance). xs ++ y ∷ []) g.begins.1 ∙ append_assoc first g.begins.0 (y ∷ []));
    once = IsDistinct-push same_equivalence all y g.once e;
    there = there-last all y g is;
    follows = follows-last all y x g there blames;
  }

-- Nobody goes again, and nobody changes places.

keeps-one : (all : List Instance) (y x : Instance) (b : Bool) → IsAmong x all → IsAmong x (cond b all (all ++ y ∷ []))
keeps-one all y x true there = there
keeps-one all y x false there = among-left x all (y ∷ []) there

has-one : (all : List Instance) (y : Instance) (b : Bool) → list_any (is_same y) all ≡ b → IsAmong y (cond b all (all ++ y ∷ []))
has-one all y true e = any-among y all e
has-one all y false e = among-last y all

stays-one : (all : List Instance) (y : Instance) (b : Bool) (k : ℕ) → k < length all → slice_get (cond b all (all ++ y ∷ [])) k ≡ slice_get all k
stays-one all y true k less = refl
stays-one all y false k less = get-left all (y ∷ []) k less

longer-one : (all : List Instance) (y : Instance) (b : Bool) → length all ≤ length (cond b all (all ++ y ∷ []))
longer-one all y true = omega arith
longer-one all y false = let long : length (all ++ y ∷ []) ≡ suc (length all) = length-last all y in omega arith

keeps : (all ys : List Instance) (x : Instance) → IsAmong x all → IsAmong x (with_instances all ys)
keeps all [] x there = there
keeps all (y ∷ ys) x there = keeps (with_instance all y) ys x (keeps-one all y x (list_any (is_same y) all) there)

has : (all ys : List Instance) (y : Instance) → IsAmong y ys → IsAmong y (with_instances all ys)
has all [] y there = absurd there
has all (z ∷ ys) y (inl is) = keeps (with_instance all z) ys y (subst (λ (v : Instance). IsAmong v (with_instance all z)) (sym is) (has-one all z (list_any (is_same z) all) refl))
has all (z ∷ ys) y (inr later) = has (with_instance all z) ys y later

-- who is there isn't put there again
stands-one : (all : List Instance) (y : Instance) (b : Bool) → b ≡ true → cond b all (all ++ y ∷ []) ≡ all
stands-one all y true e = refl
stands-one all y false e = cc

stands : (all ys : List Instance) → ((x : Instance) → IsAmong x ys → IsAmong x all) → with_instances all ys ≡ all
stands all [] there = refl
stands all (y ∷ ys) there =
    ap (λ (xs : List Instance). with_instances xs ys) (stands-one all y (list_any (is_same y) all) (among-any y all (there y (inl refl))))
    ∙ stands all ys (λ x later. there x (inr later))

stays : (all ys : List Instance) (k : ℕ) → k < length all → slice_get (with_instances all ys) k ≡ slice_get all k
stays all [] k less = refl
stays all (y ∷ ys) k less =
    let longer : length all ≤ length (with_instance all y) = longer-one all y (list_any (is_same y) all) in
    stays (with_instance all y) ys k (omega arith) ∙ stays-one all y (list_any (is_same y) all) k less

-- what `get` and `copied` give
pub read-at : (r : Option (Bor Instance)) (xs : List Instance) (k : ℕ) (x : Instance) → MatchOption r (length xs ≤ k) (λ y. (k < length xs) × HoldsAt (λ z. y.now ≡ z) xs k)
    → option_copied r ≡ Some x → slice_get xs k ≡ Some x
read-at (Some y) xs k x found e = slice_get-get_or xs k x found.0 ∙ ap Some (sym (found.1 x)) ∙ e
read-at None xs k x past e = cc

-- The holders of a full queue, who were put there.

module _ (S : ScenarioContents) (s : State) where
  -- whom the one at this place blames
  pub blamed-at : (all : List Instance) (place : ℕ) (x : Instance) (n : ℕ) (why : Option Reason) → slice_get all place ≡ Some x → n ≡ work_of x → why ≡ reason_of S s x
      → blamed_for S s n why ≡ blamed_if_any S s (slice_get all place)
  blamed-at all place x n why at is reason =
      ap (λ (m : ℕ). blamed_for S s m why) is ∙ ap (λ (r : Option Reason). blamed_for S s (work_of x) r) reason ∙ sym (ap (blamed_if_any S s) at)

  -- those who stand there aren't put there again
  pub held-stand : (found held : Option Full) (all ys : List Instance) → HasHolders S s held all → IfSome found (λ full. ys ≡ holders S s full.queue full.pool) → IsSome found × (found ≡ held)
      → with_instances all ys ≡ all
  held-stand (Some full) (Some other) all ys there are is =
      let same : full ≡ other = (let both = is.1 in cc) in
      stands all ys (λ x among. there x (subst (λ (f : Full). IsAmong x (holders S s f.queue f.pool)) same (subst (λ (xs : List Instance). IsAmong x xs) are among)))
  held-stand (Some full) None all ys there are is = (let both = is.1 in cc)
  held-stand None held all ys there are is = (let none = is.0 in cc)

  pub held-after : (found held : Option Full) (all ys : List Instance) → HasHolders S s held all → IfSome found (λ full. ys ≡ holders S s full.queue full.pool)
      → HasHolders S s (option_or found held) (with_instances all ys)
  held-after (Some full) held all ys there are = λ x among. has all ys x (subst (λ (xs : List Instance). IsAmong x xs) (sym are) among)
  held-after None (Some full) all ys there are = λ x among. keeps all ys x (there x among)
  held-after None None all ys there are = tt

-- From instances that are there on.

module _ (S : ScenarioContents) (s : State) (there : BlamesWhoIsThere S s) (first : List Instance) where
  grows-all : (all ys : List Instance) (x : Instance) → Grows S s first all → IsAmong x all
      → ((y : Instance) → IsAmong y ys → IsAmong y (blamed S s x) × IsThere S s y) → Grows S s first (with_instances all ys)
  grows-all all [] x g among blames = g
  grows-all all (y ∷ ys) x g among blames =
      grows-all (with_instance all y) ys x
      (grows-one S s first all y x (list_any (is_same y) all) refl g among (blames y (inl refl)).0 (blames y (inl refl)).1)
      (keeps-one all y x (list_any (is_same y) all) among) (λ z later. blames z (inr later))

  blamed-there : (x y : Instance) → IsThere S s x → IsAmong y (blamed S s x) → IsThere S s y
  unfolding BlamesWhoIsThere
  blamed-there x y is blames =
      there x y is.1.0 is.0 is.1.1 (subst (IsAmong y) (ap (λ (o : Option Reason). blamed_for S s (work_of x) o) is.1.1) blames)

  grows-at : (all : List Instance) (place : ℕ) (o : Option Instance) → slice_get all place ≡ o → Grows S s first all
      → Grows S s first (with_instances all (blamed_if_any S s o))
  grows-at all place (Some x) is g =
      grows-all all (blamed S s x) x g (get-among all place x is) (λ y blames. (blames, blamed-there x y (g.there x (get-among all place x is)) blames))
  grows-at all place None is g = g

  grows-below : (n : ℕ) → Grows S s first first → Grows S s first (with_blamed_below S s first n)
  grows-below zero g = g
  grows-below (suc n) g = grows-at (with_blamed_below S s first n) n (slice_get (with_blamed_below S s first n) n) refl (grows-below n g)

  -- whom the turn of the instance at place n brings
  abbrev newcomers : ℕ → List Instance
  newcomers n = blamed_if_any S s (slice_get (with_blamed_below S s first n) n)

  -- after n turns the list has whom the first n in it blame
  asked : (n k : ℕ) (x y : Instance) → k < n → slice_get (with_blamed_below S s first n) k ≡ Some x → IsAmong y (blamed S s x) → IsAmong y (with_blamed_below S s first n)
  asked zero k x y less is blames = absurd (omega arith)
  asked (suc n) k x y less is blames = elim (slice_get_cases (with_blamed_below S s first n) k).1 [
    | inl old ↦ (let here : slice_get (with_blamed_below S s first n) k ≡ Some x = sym (stays (with_blamed_below S s first n) (newcomers n) k old.1) ∙ is in
        elim (eq-or-lt_of_le (let most : k ≤ n = omega arith in most)) [
          | inl at ↦ (let turn : slice_get (with_blamed_below S s first n) n ≡ Some x = ap (slice_get (with_blamed_below S s first n)) (sym at) ∙ here in
              has (with_blamed_below S s first n) (newcomers n) y (subst (IsAmong y) (ap (blamed_if_any S s) (sym turn)) blames))
          | inr before ↦ keeps (with_blamed_below S s first n) (newcomers n) y (asked n k x y before here blames)
        ])
    | inr past ↦ (let turn : slice_get (with_blamed_below S s first n) n ≡ None = slice_get_past (with_blamed_below S s first n) n (let behind : length (with_blamed_below S s first n) ≤ k = past.0 in omega arith) in
        let same : with_blamed_below S s first (suc n) ≡ with_blamed_below S s first n = ap (λ (o : Option Instance). with_instances (with_blamed_below S s first n) (blamed_if_any S s o)) turn in
        let found : slice_get (with_blamed_below S s first n) k ≡ Some x = ap (λ (xs : List Instance). slice_get xs k) (sym same) ∙ is in
        let none : slice_get (with_blamed_below S s first n) k ≡ None = past.1 in
        let wrong : Some x ≡ None = sym found ∙ none in
        cc)
  ]

  pub are_reached : IsDistinct is_same first → ((x : Instance) → IsAmong x first → IsThere S s x) → AreReached S s first (reached S s first)
  are_reached once is =
      let g : Grows S s first (reached S s first) = grows-below (2 * length S.works) start in
      let most : length (reached S s first) ≤ 2 * length S.works = few (length S.works) (reached S s first) g.once (λ x among. (g.there x among).0) in
      record {
        begins = ap (λ (xs : List Instance). take (length first) xs) g.begins.1 ∙ take-append_seam first g.begins.0;
        once = g.once;
        closed = λ x y among blames. (let found = among-get (reached S s first) x among in
            let within : found.0 < length (reached S s first) = slice_get_within (reached S s first) found.0 x found.1 in
            asked (2 * length S.works) found.0 x y (let less : found.0 < 2 * length S.works = omega arith in less) found.1 blames);
        follows = g.follows;
      }
    where
      start : Grows S s first first
      start = record {
        begins = ([], sym (append-nil first));
        once = once;
        there = is;
        follows = λ place y found. inl (get-among first place y found);
      }

-- What a flush waits for.

put-among : (s : State) (x y : Instance) (ys : List Instance) → IsAmong y (put_by_birth s x ys) → (y ≡ x) ⊎ IsAmong y ys
put-among s x y [] there = there
put-among s x y (z ∷ ys) there = by (nat_lt (birth s x) (birth s z)) there (put-among s x y ys) where
  by : (b : Bool) → IsAmong y (cond b (x ∷ z ∷ ys) (z ∷ put_by_birth s x ys)) → (IsAmong y (put_by_birth s x ys) → (y ≡ x) ⊎ IsAmong y ys) → (y ≡ x) ⊎ IsAmong y (z ∷ ys)
  by true among later = among
  by false (inl is) later = inr (inl is)
  by false (inr among) later = elim (later among) [ inl is ↦ inl is | inr old ↦ inr (inr old) ]

put-once : (s : State) (x : Instance) (ys : List Instance) → IsDistinct is_same ys → (IsAmong x ys → ⊥) → IsDistinct is_same (put_by_birth s x ys)
unfolding IsDistinct
put-once s x [] once new = (tt, tt)
put-once s x (z ∷ ys) once new = by (nat_lt (birth s x) (birth s z)) (put-once s x ys once.1 (λ among. new (inr among))) where
  apart-put : (y : Instance) → (y ≡ x) ⊎ IsAmong y ys → is_same z y ≡ false
  apart-put y (inl is) = differ z y (λ same. new (inl (sym (same ∙ is))))
  apart-put y (inr old) = apart-at z y ys once.0 old

  by : (b : Bool) → IsDistinct is_same (put_by_birth s x ys) → IsDistinct is_same (cond b (x ∷ z ∷ ys) (z ∷ put_by_birth s x ys))
  by true later = (all-apart x (z ∷ ys) (λ y among. differ x y (λ same. new (subst (λ (v : Instance). IsAmong v (z ∷ ys)) (sym same) among))), once)
  by false later = (all-apart z (put_by_birth s x ys) (λ y among. apart-put y (put-among s x y ys among)), later)

put_all-among : (s : State) (y : Instance) (xs ys : List Instance) → IsAmong y (put_all_by_birth s xs ys) → IsAmong y xs ⊎ IsAmong y ys
put_all-among s y [] ys there = inr there
put_all-among s y (x ∷ xs) ys there = elim (put-among s x y (put_all_by_birth s xs ys) there) [
  | inl is ↦ inl (inl is)
  | inr later ↦ elim (put_all-among s y xs ys later) [ inl old ↦ inl (inr old) | inr other ↦ inr other ]
]

put_all-once : (s : State) (xs ys : List Instance) → IsDistinct is_same xs → IsDistinct is_same ys → ((z : Instance) → IsAmong z xs → IsAmong z ys → ⊥)
    → IsDistinct is_same (put_all_by_birth s xs ys)
unfolding IsDistinct
put_all-once s [] ys once other apart = other
put_all-once s (x ∷ xs) ys once other apart =
    put-once s x (put_all_by_birth s xs ys) (put_all-once s xs ys once.1 other (λ z there. apart z (inr there)))
    (λ among. elim (put_all-among s x xs ys among) [
      | inl again ↦ same-false x x (apart-at x x xs once.0 again) refl
      | inr old ↦ apart x (inl refl) old
    ])

-- the instances of a work
halves-once : (a b : Bool) (w : ℕ) → IsDistinct is_same (cond a (pending_half w ∷ []) [] ++ cond b (running_half w ∷ []) [])
unfolding IsDistinct
halves-once true true w = ((refl, tt), (tt, tt))
halves-once true false w = (tt, tt)
halves-once false true w = (tt, tt)
halves-once false false w = tt

halves-among : (a b : Bool) (w : ℕ) (y : Instance) → IsAmong y (cond a (pending_half w ∷ []) [] ++ cond b (running_half w ∷ []) [])
    → ((a ≡ true) × (y ≡ pending_half w)) ⊎ ((b ≡ true) × (y ≡ running_half w))
halves-among true b w y (inl is) = inl (refl, is)
halves-among true true w y (inr (inl is)) = inr (refl, is)
halves-among true true w y (inr (inr none)) = absurd none
halves-among true false w y (inr none) = absurd none
halves-among false true w y (inl is) = inr (refl, is)
halves-among false true w y (inr none) = absurd none
halves-among false false w y none = absurd none

placed-reason : (S : ScenarioContents) (s : State) (w : ℕ) (test : ℕ → Bool) (o : Option Pending) → placed_born test o ≡ true
    → (a : Reason) × (reason_if_pending S s w o ≡ Some a)
placed-reason S s w test (Some p) e = (reason_in_place S s w p.place, refl)
placed-reason S s w test None e = cc

running-reason : (S : ScenarioContents) (s : State) (w : ℕ) (test : Running → Bool) (o : Option Running) → runs test o ≡ true
    → (a : Reason) × (reason_if_running S s w o ≡ Some a)
running-reason S s w test (Some r) e = (reason_of_running S s w r, refl)
running-reason S s w test None e = cc

module _ (S : ScenarioContents) (s : State) (test : ℕ → Bool) where
  born-there : (w : ℕ) (y : Instance) → w < length S.works → IsAmong y (instances_born s test w) → IsThere S s y × (work_of y ≡ w)
  born-there w y declared among = elim (halves-among (placed_born test (pending_at s w)) (runs (λ r. test r.born) (running_at s w)) w y among) [
    | inl pends ↦ (subst (IsThere S s) (sym pends.1) (declared, placed-reason S s w test (pending_at s w) pends.0), ap work_of pends.1)
    | inr runs ↦ (subst (IsThere S s) (sym runs.1) (declared, running-reason S s w (λ r. test r.born) (running_at s w) runs.0), ap work_of runs.1)
  ]

  born-once : (w : ℕ) → IsDistinct is_same (instances_born s test w)
  born-once w = halves-once (placed_born test (pending_at s w)) (runs (λ r. test r.born) (running_at s w)) w

if-among : (b : Bool) (y : Instance) (xs : List Instance) → IsAmong y (cond b xs []) → IsAmong y xs
if-among true y xs there = there
if-among false y xs there = absurd there

if-once : (b : Bool) (xs : List Instance) → IsDistinct is_same xs → IsDistinct is_same (cond b xs [])
unfolding IsDistinct
if-once true xs once = once
if-once false xs once = tt

module _ (S : ScenarioContents) (s : State) (queue bound : ℕ) where
  abbrev born_before : ℕ → Bool
  born_before born = nat_lt born bound

  queued-there : (n : ℕ) (y : Instance) → n ≤ length S.works → IsAmong y (waits_below S s queue bound n) → IsThere S s y × (work_of y < n)
  queued-there zero y most among = absurd among
  queued-there (suc n) y most among = elim (put_all-among s y (cond (queue_of S n == queue) (instances_born s born_before n) []) (waits_below S s queue bound n) among) [
    | inl here ↦ (let found = born-there S s born_before n y (omega arith) (if-among (queue_of S n == queue) y (instances_born s born_before n) here) in
        (found.0, let is : work_of y ≡ n = found.1 in omega arith))
    | inr later ↦ (let found = queued-there n y (omega arith) later in (found.0, let below : work_of y < n = found.1 in omega arith))
  ]

  queued-once : (n : ℕ) → n ≤ length S.works → IsDistinct is_same (waits_below S s queue bound n)
  unfolding IsDistinct
  queued-once zero most = tt
  queued-once (suc n) most =
      put_all-once s (cond (queue_of S n == queue) (instances_born s born_before n) []) (waits_below S s queue bound n)
      (if-once (queue_of S n == queue) (instances_born s born_before n) (born-once S s born_before n)) (queued-once n (omega arith))
      (λ z here later. (let is : work_of z ≡ n = (born-there S s born_before n z (omega arith) (if-among (queue_of S n == queue) z (instances_born s born_before n) here)).1 in
      let below : work_of z < n = (queued-there n z (omega arith) later).1 in absurd (omega arith)))

pub reaches_all_blamed : InEveryState BlamesWhoIsThere → InEveryState ReachesAllBlamed
unfolding ReachesAllBlamed IsDistinct
reaches_all_blamed there S valid instrs (target.Instance work born) declared =
    are_reached S (run S instrs) (there S valid instrs) (waits S (run S instrs) (target.Instance work born))
    (put_all-once (run S instrs) (instances_born (run S instrs) (λ b. b == born) work.0) [] (born-once S (run S instrs) (λ b. b == born) work.0) tt (λ z here none. none))
    (λ x among. elim (put_all-among (run S instrs) x (instances_born (run S instrs) (λ b. b == born) work.0) [] among) [
      | inl here ↦ (born-there S (run S instrs) (λ b. b == born) work.0 x declared here).0
      | inr none ↦ absurd none
    ])
reaches_all_blamed there S valid instrs (target.Queue queue bound) declared =
    are_reached S (run S instrs) (there S valid instrs) (waits S (run S instrs) (target.Queue queue bound)) (queued-once S (run S instrs) queue.0 bound (length S.works) (omega arith))
    (λ x among. (queued-there S (run S instrs) queue.0 bound (length S.works) x (omega arith) among).0)
reaches_all_blamed there S valid instrs target.Nothing declared = are_reached S (run S instrs) (there S valid instrs) [] tt (λ x none. absurd none)
