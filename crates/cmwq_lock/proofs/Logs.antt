-- What a turn's entry does to what is known of a log.
use Rattle.std.proofs.Common.{◌≡◌, ◌≢◌, ◌==◌, ℕ, suc, ◌<◌, Bool, true, false, cond, nat_le, if◌then◌else◌, List, [], ◌∷◌, ◌++◌, length, drop, get_or, All, sym, refl, ap, ◌∙◌, subst, inl, inr, arith, append_assoc, eq-eqb, ne_eqb}
use Rattle.std.proofs.Math.Seq.{drop-append_seam, drop-length}
use Rattle.std.proofs.lemmas.List.Elements.{All-cons, filter-append}
use mathlib.Core.List.{append-nil}
use Rattle.cmwq_lock.specs.Log.{BeginsWith, OneBegins, longer, calls_of, Grows, BothGrow}

module _ {E : Type 0} where
  begins_either : (log one other : List E) (b : Bool) → BeginsWith log one → BeginsWith log other → BeginsWith log (if b then other else one)
  begins_either log one other true first second = second
  begins_either log one other false first second = first

  -- a log that begins with each of two begins with the longer one
  pub begins_longer : (log one other : List E) → BeginsWith log one → BeginsWith log other → BeginsWith log (longer one other)
  begins_longer log one other first second = begins_either log one other (nat_le (length one) (length other)) first second

  ends_alike : (one other rest rest' : List E) → one ++ rest ≡ other ++ rest' → OneBegins one other
  ends_alike [] other rest rest' same = inr (other, refl)
  ends_alike (x ∷ xs) [] rest rest' same = inl (x ∷ xs, refl)
  ends_alike (x ∷ xs) (y ∷ ys) rest rest' same = let head : x ≡ y = ap (λ (l : List E). get_or l 0 x) same in elim (ends_alike xs ys rest rest' (ap (drop 1) same)) [
    | inl more ↦ inl (more.0, λ i. head i ∷ more.1 i)
    | inr more ↦ inr (more.0, λ i. sym head i ∷ more.1 i)
  ]

  -- of two beginnings of one log one begins with the other
  pub begin_one_log : (log one other : List E) → BeginsWith log one → BeginsWith log other → OneBegins one other
  begin_one_log log one other first second = ends_alike one other first.0 second.0 (sym first.1 ∙ second.1)

  pub begins_more : (log more seen : List E) → BeginsWith log seen → BeginsWith (log ++ more) seen
  begins_more log more seen begins = (begins.0 ++ more, ap (λ (l : List E). l ++ more) begins.1 ∙ append_assoc seen begins.0 more)

  pub begins_through : (log middle seen : List E) → BeginsWith log middle → BeginsWith middle seen → BeginsWith log seen
  begins_through log middle seen outer inner = subst (λ (l : List E). BeginsWith l seen) (sym outer.1) (begins_more middle outer.0 seen inner)

  pub begins_itself : (log : List E) → BeginsWith log log
  begins_itself log = ([], sym (append-nil log))

  all_front : (P : E → Type 0) (front rest : List E) → All P (front ++ rest) → All P front
  all_front P [] rest each = λ k d within. absurd (omega arith)
  all_front P (x ∷ xs) rest each = All-cons P x xs (each 0 x (omega arith)) (all_front P xs rest (λ k d within. each (suc k) d (omega arith)))

  -- what holds of each entry of the log holds of each that was seen
  pub all_seen : (P : E → Type 0) (log seen : List E) → BeginsWith log seen → All P log → All P seen
  all_seen P log seen begins each = all_front P seen begins.0 (subst (All P) begins.1 each)

module _ {E : Type 0} (ticket caller : E → ℕ) where
  one_call : (c : ℕ) (e : E) → caller e ≡ c → calls_of caller c (e ∷ []) ≡ e ∷ []
  one_call c e same = ap (λ b. cond b (e ∷ []) []) (eq-eqb (caller e) c same)

  no_call : (c : ℕ) (e : E) → caller e ≢ c → calls_of caller c (e ∷ []) ≡ []
  no_call c e other = ap (λ b. cond b (e ∷ []) []) (ne_eqb (caller e) c other)

  -- a caller whose number was not given out has no entry
  pub calls_none : (c : ℕ) (log : List E) → All (λ e. caller e < c) log → calls_of caller c log ≡ []
  calls_none c [] each = refl
  calls_none c (e ∷ es) each = let first : caller e < c = each 0 e (omega arith) in
      ap (λ b. cond b (e ∷ calls_of caller c es) (calls_of caller c es)) (ne_eqb (caller e) c (λ same. omega arith)) ∙ calls_none c es (λ k d within. each (suc k) d (omega arith))

  pub begins_after : (before after : List E) (t c : ℕ) → Grows ticket caller before after t c → (seen : List E) → BeginsWith before seen → BeginsWith after seen
  begins_after before after t c grows seen begins = elim grows [
    | inl same ↦ subst (λ (l : List E). BeginsWith l seen) (sym same) begins
    | inr more ↦ subst (λ (l : List E). BeginsWith l seen) (sym more.1) (begins_more before (more.0 ∷ []) seen begins)
  ]

  pub others_after : (before after : List E) (t c : ℕ) → Grows ticket caller before after t c → (other : ℕ) (mine : List E) → other ≢ c → calls_of caller other before ≡ mine → calls_of caller other after ≡ mine
  others_after before after t c grows other mine apart own = elim grows [
    | inl same ↦ ap (calls_of caller other) same ∙ own
    | inr more ↦ let e = more.0 in ap (calls_of caller other) more.1 ∙ (filter-append (λ (x : E). caller x == other) before (e ∷ [])
        ∙ (ap (λ (l : List E). calls_of caller other before ++ l) (no_call other e (λ same. apart (sym same ∙ more.3))) ∙ (append-nil (calls_of caller other before) ∙ own)))
  ]

  pub own_after : (before after : List E) (t c : ℕ) → Grows ticket caller before after t c → (mine : List E) → calls_of caller c before ≡ mine → calls_of caller c after ≡ mine ++ drop (length before) after
  own_after before after t c grows mine own = elim grows [
    | inl same ↦ ap (calls_of caller c) same ∙ (own ∙ sym (ap (λ (l : List E). mine ++ l) (ap (drop (length before)) same ∙ drop-length before) ∙ append-nil mine))
    | inr more ↦ let e = more.0 in ap (calls_of caller c) more.1 ∙ (filter-append (λ (x : E). caller x == c) before (e ∷ [])
        ∙ (ap (λ (l : List E). calls_of caller c before ++ l) (one_call c e more.3) ∙ (ap (λ (l : List E). l ++ e ∷ []) own
        ∙ sym (ap (λ (l : List E). mine ++ l) (ap (drop (length before)) more.1 ∙ drop-append_seam before (e ∷ []))))))
  ]

  pub both_grow : (before after mine : List E) (t c : ℕ) → Grows ticket caller before after t c → BothGrow ticket caller before after mine (mine ++ drop (length before) after) t c
  both_grow before after mine t c grows = elim grows [
    | inl same ↦ inl (same, ap (λ (l : List E). mine ++ l) (ap (drop (length before)) same ∙ drop-length before) ∙ append-nil mine)
    | inr more ↦ inr (more.0, more.1, ap (λ (l : List E). mine ++ l) (ap (drop (length before)) more.1 ∙ drop-append_seam before (more.0 ∷ [])), more.2, more.3)
  ]
