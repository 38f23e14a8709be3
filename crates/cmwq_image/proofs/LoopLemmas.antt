-- Reading one thing after another, as a loop does.
use Rattle.std.proofs.Common.{◌≡◌, ℕ, suc, ◌-◌, ◌+◌, ◌≤◌, ◌<◌, List, [], ◌∷◌, ◌++◌, Result, Ok, Err, refl, sym, ap, ◌∙◌, append_assoc, append-nil, arith}
use Rattle.cmwq_image.specs.declared.error.ImageError.{ImageError}
use Rattle.cmwq_image.specs.declared.error.ImageError.TheVariants as errors
use Rattle.cmwq_image.specs.ImageFault.{Place, Reader, hand_on, done, many, FailsRead}

-- what was read before, and what is still read
abbrev pub with_front : {A : Type 0} → List A → Result (List A × Place) ImageError → Result (List A × Place) ImageError
with_front front (Ok found) = Ok (front ++ found.0, found.1)
with_front front (Err fault) = Err fault

regroup : {A : Type 0} (front : List A) (x : A) (read : Result (List A × Place) ImageError)
    → with_front front (hand_on (λ others. done (x ∷ others)) read) ≡ with_front (front ++ x ∷ []) read
regroup {A} front x (Ok found) = ap (λ (xs : List A). Ok (xs, found.1)) (sym (append_assoc front (x ∷ []) found.0))
regroup front x (Err fault) = refl

pub goes_on : {A : Type 0} (one : Reader A) (front : List A) (count i : ℕ) (place : Place) (x : A) (after : Place) (total : Result (List A × Place) ImageError)
    → i < count → one place ≡ Ok (x, after)
    → with_front front (many one (count - i) place) ≡ total → with_front (front ++ x ∷ []) (many one (count - (i + 1)) after) ≡ total
goes_on one front count i place x after total less read so_far =
    let left : count - i ≡ suc (count - (i + 1)) = omega arith in
    let step : with_front front (many one (count - i) place) ≡ with_front (front ++ x ∷ []) (many one (count - (i + 1)) after) =
    rw (left, read) (regroup front x (many one (count - (i + 1)) after)) in
    sym step ∙ so_far

stops : {A : Type 0} (e : ImageError) (one : Reader A) (front : List A) (count i : ℕ) (place : Place) (total : Result (List A × Place) ImageError)
    → i < count → one place ≡ Err e → with_front front (many one (count - i) place) ≡ total → total ≡ Err e
stops e one front count i place total less failed so_far =
    let left : count - i ≡ suc (count - (i + 1)) = omega arith in
    let step : with_front front (many one (count - i) place) ≡ Err e = rw (left, failed) refl in
    sym so_far ∙ step

pub ends : {A : Type 0} (e : ImageError) (one : Reader A) (front : List A) (count i : ℕ) (place : Place) (total : Result (List A × Place) ImageError)
    → i < count → FailsRead e (one place)
    → with_front front (many one (count - i) place) ≡ total → FailsRead e total
ends errors.NoMemory one front count i place total less failed so_far = tt
ends errors.Magic one front count i place total less failed so_far = stops errors.Magic one front count i place total less failed so_far
ends errors.Version one front count i place total less failed so_far = stops errors.Version one front count i place total less failed so_far
ends errors.Truncated one front count i place total less failed so_far = stops errors.Truncated one front count i place total less failed so_far
ends errors.Extra one front count i place total less failed so_far = stops errors.Extra one front count i place total less failed so_far
ends (errors.BadField at) one front count i place total less failed so_far = stops (errors.BadField at) one front count i place total less failed so_far
ends (errors.Fault fault) one front count i place total less failed so_far = stops (errors.Fault fault) one front count i place total less failed so_far

pub is_done : {A : Type 0} (one : Reader A) (front : List A) (count i : ℕ) (place : Place) (total : Result (List A × Place) ImageError)
    → count ≤ i → with_front front (many one (count - i) place) ≡ total → total ≡ Ok (front, place)
is_done {A} one front count i place total none so_far =
    let left : count - i ≡ 0 = omega arith in
    let step : with_front front (many one (count - i) place) ≡ Ok (front, place) = rw left (ap (λ (xs : List A). Ok (xs, place)) (append-nil front)) in
    sym so_far ∙ step
