-- Lists and functions with one value changed, and facts about each element of a list.
use Rattle.std.proofs.Common.{◌≡◌, ◌≢◌, ◌⊎◌, ℕ, zero, suc, eqb, cond, List, [], ◌∷◌, ◌++◌, length, get_or, set, All, Any, ◌<◌, sym, refl, ap, subst, inl, inr, eq-eqb, ne_eqb, arith}
use mathlib.Core.Option.{some, some-injective, some-ne-none}
use lib.ListN.{get_elem?}

module _ {X : Type 0} where
  -- f, but x at k
  pub put : (ℕ → X) → ℕ → X → ℕ → X
  put f k x n = cond (eqb n k) x (f n)

  pub put_here : (f : ℕ → X) (k : ℕ) (x : X) → put f k x k ≡ x
  unfolding put
  put_here f k x = ap (λ b. cond b x (f k)) (eq-eqb k k refl)

  pub put_else : (f : ℕ → X) (k : ℕ) (x : X) (n : ℕ) → n ≢ k → put f k x n ≡ f n
  unfolding put
  put_else f k x n apart = ap (λ b. cond b x (f n)) (ne_eqb n k apart)

module _ {A : Type 0} where
  pub at_end : (l : List A) (a b : A) (j : ℕ) → get_elem? (l ++ a ∷ []) j ≡ some b → (get_elem? l j ≡ some b) ⊎ ((j ≡ length l) × (a ≡ b))
  at_end [] a b zero e = inr (refl, some-injective a b e)
  at_end [] a b (suc j) e = absurd (some-ne-none b (sym e))
  at_end (x ∷ xs) a b zero e = inl e
  at_end (x ∷ xs) a b (suc j) e = elim (at_end xs a b j e) [ inl h ↦ inl h | inr h ↦ let n : j ≡ length xs = h.0 in inr (omega arith, h.1) ]

  pub all_of : (P Q : A → Type 0) (l : List A) → ((a : A) → P a → Q a) → All P l → All Q l
  all_of P Q l f h = λ k d below. f (get_or l k d) (h k d below)

  -- what is written where something stood stands there
  pub set_there : (l : List A) (i : ℕ) (a b : A) → get_elem? l i ≡ some a → get_elem? (set l i b) i ≡ some b
  set_there [] i a b e = absurd (some-ne-none a (sym e))
  set_there (x ∷ xs) zero a b e = refl
  set_there (x ∷ xs) (suc i) a b e = set_there xs i a b e

  -- where something stands is within the list, and is what is read there
  pub there_within : (l : List A) (i : ℕ) (a : A) → get_elem? l i ≡ some a → i < length l
  there_within [] i a e = absurd (some-ne-none a (sym e))
  there_within (x ∷ xs) zero a e = omega arith
  there_within (x ∷ xs) (suc i) a e = let rest = there_within xs i a e in omega arith

  pub there_read : (l : List A) (i : ℕ) (a d : A) → get_elem? l i ≡ some a → get_or l i d ≡ a
  there_read [] i a d e = absurd (some-ne-none a (sym e))
  there_read (x ∷ xs) zero a d e = some-injective x a e
  there_read (x ∷ xs) (suc i) a d e = there_read xs i a d e

  within_there : (l : List A) (i : ℕ) (d : A) → i < length l → get_elem? l i ≡ some (get_or l i d)
  within_there [] i d within = absurd (omega arith)
  within_there (x ∷ xs) zero d within = refl
  within_there (x ∷ xs) (suc i) d within = within_there xs i d (omega arith)

  pub all_there : (P : A → Type 0) (l : List A) → ((i : ℕ) (a : A) → get_elem? l i ≡ some a → P a) → All P l
  all_there P l each = λ k d within. each k (get_or l k d) (within_there l k d within)

  pub any_there : (P : A → Type 0) (l : List A) (i : ℕ) (a : A) → get_elem? l i ≡ some a → P a → Any P l
  any_there P l i a there holds = (i, a, there_within l i a there, there_read l i a a there, holds)

  pub all_read : (P : A → Type 0) (l : List A) (i : ℕ) (a : A) → All P l → get_elem? l i ≡ some a → P a
  all_read P l i a each there = subst P (there_read l i a a there) (each i a (there_within l i a there))
