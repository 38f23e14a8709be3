-- Lists that grow at their end.
use Rattle.std.proofs.Common.{◌≡◌, ℕ, zero, suc, ◌<◌, ◌≤◌, ◌⊎◌, inl, inr, List, [], ◌∷◌, ◌++◌, length, Some, None, arith, refl, ap}
use Rattle.std.specs.List.{slice_get}

pub same_some : {A : Type 0} (x y : A) → Some x ≡ Some y → x ≡ y
same_some x y h = cc

pub none_some : {A : Type 0} (x : A) → None ≡ Some x → ⊥
none_some x h = cc

pub split_le : (a b : ℕ) → a ≤ b → (a < b) ⊎ (a ≡ b)
split_le zero zero le = inr refl
split_le zero (suc b) le = inl (omega arith)
split_le (suc a) zero le = absurd (omega (arith, le))
split_le (suc a) (suc b) le = elim (split_le a b (omega (arith, le))) [
  | inl lower ↦ inl (omega (arith, lower))
  | inr same ↦ inr (ap suc same)
]

-- what is there stays there
pub get_more : {A : Type 0} (xs ys : List A) (i : ℕ) (x : A) → slice_get xs i ≡ Some x → slice_get (xs ++ ys) i ≡ Some x
get_more [] ys i x h = absurd (none_some x h)
get_more (z ∷ zs) ys zero x h = h
get_more (z ∷ zs) ys (suc i) x h = get_more zs ys i x h

pub get_last : {A : Type 0} (xs : List A) (y : A) → slice_get (xs ++ y ∷ []) (length xs) ≡ Some y
get_last [] y = refl
get_last (z ∷ zs) y = get_last zs y

-- what stands in the longer list stood there before, or is the last
pub get_cases : {A : Type 0} (xs : List A) (y : A) (i : ℕ) (x : A) → slice_get (xs ++ y ∷ []) i ≡ Some x → (slice_get xs i ≡ Some x) ⊎ ((i ≡ length xs) × (y ≡ x))
get_cases [] y zero x h = inr (refl, same_some y x h)
get_cases [] y (suc i) x h = absurd (none_some x h)
get_cases (z ∷ zs) y zero x h = inl h
get_cases (z ∷ zs) y (suc i) x h = elim (get_cases zs y i x h) [
  | inl before ↦ inl before
  | inr last ↦ inr (ap suc last.0, last.1)
]

-- what stands within the shorter list stood there before
pub get_within : {A : Type 0} (xs ys : List A) (i : ℕ) (x : A) → i < length xs → slice_get (xs ++ ys) i ≡ Some x → slice_get xs i ≡ Some x
get_within [] ys i x below h = absurd (omega (arith, below))
get_within (z ∷ zs) ys zero x below h = h
get_within (z ∷ zs) ys (suc i) x below h = get_within zs ys i x (omega (arith, below)) h

-- there is something below the length
pub get_some : {A : Type 0} (xs : List A) (i : ℕ) → i < length xs → (x : A) × (slice_get xs i ≡ Some x)
get_some [] i below = absurd (omega (arith, below))
get_some (z ∷ zs) zero below = (z, refl)
get_some (z ∷ zs) (suc i) below = get_some zs i (omega (arith, below))

pub below_or_past : (a b : ℕ) → (a < b) ⊎ (b ≤ a)
below_or_past a zero = inr (omega arith)
below_or_past zero (suc b) = inl (omega arith)
below_or_past (suc a) (suc b) = elim (below_or_past a b) [
  | inl less ↦ inl (omega (arith, less))
  | inr more ↦ inr (omega (arith, more))
]
