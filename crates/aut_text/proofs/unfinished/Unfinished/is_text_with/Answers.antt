use Rattle.std.proofs.Common.{◌≡◌, ◌∙◌, true, false, refl, sym, rules}
use Rattle.text_scan.specs.Blank.{trimmed}
use Rattle.text_scan.specs.Listing.{has_bytes}
use Rattle.aut_text.proofs.TextLaws.{kept_joined}
use Rattle.aut_text.proofs.unfinished.Unfinished.is_text_with.Goals as goal

pub returns-then-not-is_empty : goal.returns-then-not-is_empty
returns-then-not-is_empty c =
    let some : has_bytes (trimmed c.args.self.now.bytes) ≡ true = search rules in
    sym (kept_joined c.args.self.now.bytes c.args.more.now c.requires ∙ rw some refl)

pub returns : goal.returns
returns c =
    let none : has_bytes (trimmed c.args.self.now.bytes) ≡ false = search rules in
    c.is_text.ensures ∙ sym (kept_joined c.args.self.now.bytes c.args.more.now c.requires ∙ rw none refl)
