-- The highest status is told.
use Rattle.std.proofs.Common.{◌≡◌, ◌⊎◌, ℕ, zero, suc, ◌+◌, ◌<◌, ◌≤◌, true, false, List, [], ◌∷◌, ◌++◌, Option, Some, arith, refl, sym, ap, ◌∙◌, subst, inl, inr}
use Rattle.std.proofs.Math.Nat.{le-max_left, le-max_right, max-eq_left, max-eq_right}
use Rattle.std.proofs.lemmas.Bool.{cases_eq, cases_lt}
use Rattle.std.specs.Prelude.{codes, max}
use Rattle.cmwq_command.specs.Carried.{HasChecked, Store}
use Rattle.cmwq_command_examples.specs.Statuses.{IsHighest, TellsHighest, WasJudged, having, two_files}
use Rattle.cmwq_grammar.specs.Grammar.{Spells}
use Rattle.cmwq_outcome.specs.Checking.{HasRead, status_of_judged}
use Rattle.cmwq_outcome.specs.declared.file_verdict.Judged.{Judged}
use Rattle.cmwq_outcome.specs.declared.file_verdict.Judged.TheVariants.{Good, Unread}
use Rattle.cmwq_remarks.specs.Notes.{AreNotes}
use Rattle.cmwq_outcome.specs.Starter.{first_scenario}
use Rattle.cmwq_verdict.specs.declared.looks.Look.{Look}

max-is : (a b : ℕ) → (max a b ≡ a) ⊎ (max a b ≡ b)
max-is a b =
    elim (cases_lt a b) [
      | inl below ↦ (let h : a ≤ b = omega (arith, below) in inr (max-eq_right h))
      | inr over ↦ inl (max-eq_left over)
    ]

module _ (store : Store) (look : Look) (files : List (List ℕ)) where
  one-more : (n highest status : ℕ) (judged : Judged) → IsHighest store look files n highest → WasJudged store look files n judged
      → status ≡ max highest (status_of_judged judged) → IsHighest store look files (suc n) status
  one-more n highest status judged before here is = record {
    reached = elim (max-is highest (status_of_judged judged)) [
      | inl first ↦ elim before.reached [
        | inl none ↦ inl (is ∙ (first ∙ none))
        | inr found ↦ (let h : found.0 < n = found.1 in inr (found.0, omega (arith, h), (found.2.0, found.2.1, is ∙ (first ∙ found.2.2))))
      ]
      | inr second ↦ inr (n, omega arith, (judged, here, is ∙ second))
    ];
    above = λ k h. elim (cases_eq k n) [
      | inl same ↦ (let low : status_of_judged judged ≤ max highest (status_of_judged judged) = le-max_right highest (status_of_judged judged) in
          (judged, subst (λ (i : ℕ). WasJudged store look files i judged) (sym same) here, omega (arith, is, low)))
      | inr other ↦ (let below : k < n = omega (arith, h, other) in
          let found = before.above k below in
          let low : highest ≤ max highest (status_of_judged judged) = le-max_left highest (status_of_judged judged) in
          let under : status_of_judged found.0 ≤ highest = found.2 in
          (found.0, found.1, omega (arith, is, low, under)))
    ];
  }

  highest-told : (n status : ℕ) (output output_now errors errors_now : Option (List ℕ))
      → HasChecked store look files n output output_now errors errors_now status → IsHighest store look files n status
  highest-told zero status output output_now errors errors_now checked = record { reached = inl checked.2; above = λ k h. absurd (omega (arith, h)) }
  highest-told (suc n) status output output_now errors errors_now checked =
      one-more n checked.2 status checked.3 (highest-told n checked.2 output checked.0 errors checked.1 checked.4)
      (checked.0, output_now, checked.1, errors_now, checked.5) checked.6

pub tells_highest : TellsHighest
unfolding TellsHighest
tells_highest store look files = highest-told store look files

-- An example.

no-more : (bytes : List ℕ) → bytes ≡ bytes ++ []
no-more [] = refl
no-more (b ∷ bytes) = ap (λ (rest : List ℕ). b ∷ rest) (no-more bytes)

read-whole : (bytes : List ℕ) → HasRead (Some bytes) (Some []) bytes
read-whole bytes = record { read = no-more bytes; whole = λ short. refl }

pub told_in_order : (look : Look) (bytes told : List ℕ) → Spells bytes first_scenario → AreNotes (codes "b") bytes told
    → HasChecked (having bytes) look two_files 2 (Some (codes "")) (Some (codes "b: ok\n")) (Some (codes "")) (Some (codes "a: read\n" ++ told)) 3
told_in_order look bytes told spells notes = (
  Some [],
  Some (codes "a: read\n"),
  3,
  Good,
  (Some [], Some [], 0, Unread, (refl, refl, refl), (Some bytes, true, (refl, refl, refl)), refl),
  (Some [], false, ((bytes, read-whole bytes, (first_scenario, spells), (told, notes, refl)), refl)),
  refl,
)
