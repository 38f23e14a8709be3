-- What a contract sees of a link: the number to which it leads, if it leads anywhere.
use Rattle.std.specs.Prelude.{◌≡◌, ℕ, Bool, true, false, if◌then◌else◌, ◌==◌, Option, Some, None}
use Rattle.std.proofs.Common.{refl, ap, arith}
use Rattle.std.proofs.lemmas.Bool.Decides.{nat_tests}
use Rattle.cmwq_lists.specs.declared.link.TheConstants.{NOWHERE}
use Rattle.cmwq_lists.specs.declared.link.Link.TheInside.{Inside}

abbrev pub target : ℕ → Option ℕ
target number = if number == NOWHERE then None else Some number

-- the link that leads so
abbrev pub stored : Option ℕ → Inside
stored None = record { number = NOWHERE }
stored (Some number) = record { number = number }

pub stored_again : (a : Inside) → stored (target a.number) ≡ a
stored_again a = by_test (a.number == NOWHERE) refl
  where
    by_test : (b : Bool) → (a.number == NOWHERE) ≡ b → stored (if b then None else Some a.number) ≡ a
    by_test true is = ap (λ (n : ℕ). record { number = n }) (same a.number is)
      where
        same : (n : ℕ) → (n == NOWHERE) ≡ true → NOWHERE ≡ n
        same n is = grind (arith, nat_tests)
    by_test false is = refl
