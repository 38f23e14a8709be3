-- What a contract sees of a link: the worker to which it leads, if it leads to one.
use Rattle.std.specs.Prelude.{◌≡◌, ℕ, Bool, true, false, if◌then◌else◌, ◌==◌, Option, Some, None}
use Rattle.std.proofs.Common.{refl, ap, arith}
use Rattle.std.proofs.lemmas.Bool.Decides.{nat_tests}
use Rattle.cmwq_idle.specs.declared.link.TheConstants.{NOBODY}
use Rattle.cmwq_idle.specs.declared.link.Link.TheInside.{Inside}

abbrev pub target : ℕ → Option ℕ
target worker = if worker == NOBODY then None else Some worker

-- the link that leads so
abbrev pub stored : Option ℕ → Inside
stored None = record { worker = NOBODY }
stored (Some worker) = record { worker = worker }

pub stored_again : (a : Inside) → stored (target a.worker) ≡ a
stored_again a = by_test (a.worker == NOBODY) refl
  where
    by_test : (b : Bool) → (a.worker == NOBODY) ≡ b → stored (if b then None else Some a.worker) ≡ a
    by_test true is = ap (λ (n : ℕ). record { worker = n }) (same a.worker is)
      where
        same : (n : ℕ) → (n == NOBODY) ≡ true → NOBODY ≡ n
        same n is = grind (arith, nat_tests)
    by_test false is = refl
