use Rattle.std.proofs.Common.{◌≡◌, ℕ, ◌<◌, length, get_or}
use Rattle.log_text.proofs.digest.each_fits.Given as goal

abbrev pub invariant-bytes : goal.invariant-bytes
invariant-bytes l = record {
  long : length l.bytes ≡ 32;
  each : (k d : ℕ) → k < l.place → get_or l.bytes k d < 256;
}
