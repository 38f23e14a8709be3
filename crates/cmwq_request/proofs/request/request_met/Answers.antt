use Rattle.std.proofs.Common.{None, Some, Option, rules, refl, false, true, sym, inl, inr, ap, ◌≡◌, ◌∙◌, map, string_bytes}
use Rattle.clap.specs.Words.{takes}
use Rattle.clap.specs.declared.error.kind.ErrorKind.TheVariants.{DisplayVersion, OutOfMemory}
use Rattle.cmwq_request.proofs.RequestLemmas.{no_matches, nothing_asked, read_met, rows_met, version_kind}
use Rattle.cmwq_request.specs.declared.request.Request.{Request}
use Rattle.cmwq_request.proofs.request.request_met.Goals as goal

pub returns-in-Err-clause-asks : goal.returns-in-Err-clause-asks
returns-in-Err-clause-asks c asked read =
    let words = map string_bytes c.args.words.now in
    let kind = c.in-Err.ensures.passes (ap (λ a. takes a words) c.requires ∙ read.0) in
    apart (sym (c.if-tells_version.ensures.0 refl) ∙ kind)
  where
    apart : {A : Type 0} → DisplayVersion ≡ OutOfMemory → A
    apart e = cc

pub returns-in-Err-2-clause-asks : goal.returns-in-Err-2-clause-asks
returns-in-Err-2-clause-asks c asked read =
    c.in-Err.ensures.passes (ap (λ a. takes a (map string_bytes c.args.words.now)) c.requires ∙ read.0)

pub returns-in-Err-2-clause-version : goal.returns-in-Err-2-clause-version
returns-in-Err-2-clause-version c asked =
    elim (version_kind _ (map string_bytes c.args.words.now) c.in-Err.error c.requires c.in-Err.ensures.kinds asked) [
      | inl it ↦ it
      | inr it ↦ apart (c.if-tells_version.ensures.1 it)
    ]
  where
    apart : {A : Type 0} → false ≡ true → A
    apart e = cc

pub returns-in-Some-clause-version : goal.returns-in-Some-clause-version
returns-in-Some-clause-version c asked = absurd (no_matches _ (map string_bytes c.args.words.now) c.requires c.in-Ok.ensures.kinds asked)

pub returns-clause-version : goal.returns-clause-version
returns-clause-version c asked = absurd (no_matches _ (map string_bytes c.args.words.now) c.requires c.in-Ok.ensures.kinds asked)

pub returns-in-Some-clause-asks : goal.returns-in-Some-clause-asks
returns-in-Some-clause-asks c asked read =
    let words = map string_bytes c.args.words.now in
    let met = c.request_of.ensures.words asked (read_met _ words asked c.in-Ok.matches c.requires c.in-Ok.ensures.ok.2 read) read.2 in
    search rules

pub returns-clause-asks : goal.returns-clause-asks
returns-clause-asks c asked read =
    let words = map string_bytes c.args.words.now in
    let met = c.in_ok-request.ensures.words asked (read_met _ words asked c.in-Ok.matches c.requires c.in-Ok.ensures.ok.2 read) read.2 in
    absurd (nothing_asked c.in_ok-request.field-0 asked c.in-None.is met)

pub returns-in-Err-clause-misuse : goal.returns-in-Err-clause-misuse
returns-in-Err-clause-misuse c misuse =
    let kind = c.in-Err.ensures.passes (ap (λ a. takes a (map string_bytes c.args.words.now)) c.requires ∙ misuse.0) in
    apart (sym (c.if-tells_version.ensures.0 refl) ∙ kind)
  where
    apart : {A : Type 0} → DisplayVersion ≡ OutOfMemory → A
    apart e = cc

pub returns-in-Err-2-clause-misuse : goal.returns-in-Err-2-clause-misuse
returns-in-Err-2-clause-misuse c misuse =
    inr (c.in-Err.ensures.passes (ap (λ a. takes a (map string_bytes c.args.words.now)) c.requires ∙ misuse.0))

pub returns-in-Some-clause-misuse : goal.returns-in-Some-clause-misuse
returns-in-Some-clause-misuse c (taken, met, meets, nothing) =
    let rows = rows_met _ (map string_bytes c.args.words.now) c.in-Ok.matches c.requires c.in-Ok.ensures.ok.2 in
    let none : c.in_ok-request.field-0 ≡ None = c.in_ok-request.ensures.nothing met (rows ∙ meets) nothing in
    apart c.in_ok-request.field-0 c.in-Some.request none c.in-Some.is
  where
    apart : (o : Option Request) (r : Request) → o ≡ None → o ≡ Some r → ⊥
    apart None r none some = cc
    apart (Some request) r none some = cc
