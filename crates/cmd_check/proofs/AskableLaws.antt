-- The limits that words ask for are among those that a decision may have.
use Rattle.std.proofs.Common.{arith, ◌≡◌, ℕ, ◌≤◌, List, Result, Ok, Err, refl, subst}
use Rattle.std.specs.Prelude.{codes}
use Rattle.lts_base.specs.declared.limits.TheConstants.{MOST_PAIRS, USUAL_PAIRS, MOST_MEMBERS, USUAL_MEMBERS}
use Rattle.torx_words.specs.Accepted.{accepted, asked, asked_by}
use Rattle.torx_words.specs.Form.{Reading}
use Rattle.torx_words.specs.declared.kind.UsageKind.{UsageKind}
use Rattle.torx_words.proofs.NumberLaws.{number_most}
use Rattle.cmd_check.specs.Asked.{AskedCheck, check_shape, check_of, limits_asked}
use Rattle.cmd_check.proofs.FitLaws.{AreAskable}

pub limits_askable : (words : List (List ℕ)) (q : AskedCheck) → asked check_shape check_of words ≡ Ok q → AreAskable (limits_asked q)
limits_askable words q ask = go (accepted check_shape words) refl ask
  where
    of_reading : (r : Reading) → accepted check_shape words ≡ Ok r → AreAskable (limits_asked (check_of r))
    of_reading r is =
        let pairs = number_most check_shape words r (codes "pairs") USUAL_PAIRS 1 MOST_PAIRS is refl in
        let members = number_most check_shape words r (codes "members") USUAL_MEMBERS 1 MOST_MEMBERS is refl in
        record { pairs = omega (arith, pairs); imp = omega (arith, members); spec = omega (arith, members) }

    go : (o : Result Reading UsageKind) → accepted check_shape words ≡ o → asked_by check_of o ≡ Ok q → AreAskable (limits_asked q)
    go (Ok r) is f = let same : check_of r ≡ q = cc in subst (λ (x : AskedCheck). AreAskable (limits_asked x)) same (of_reading r is)
    go (Err kind) is f = absurd cc
