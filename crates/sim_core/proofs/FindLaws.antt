-- Laws on the room of a search.
use Rattle.std.proofs.Common.{◌≡◌, ℕ, ◌<◌, List, length, get_or, set, Bool, true, false, arith, length-set}
use Rattle.std.proofs.lemmas.List.{length_push}
use Rattle.std.proofs.lemmas.List.Sums.{count_by-le-length}
use Rattle.lts_base.specs.Finds.{IsMarked}
use Rattle.lts_base.proofs.MarkLaws.{IsMarked-push}

-- where a state isn't found, there is room for it
pub room_for_one : (marked : List Bool) (found : List ℕ) (q : ℕ) → IsMarked marked found → q < length marked → get_or marked q false ≡ false → length found < length marked
room_for_one marked found q old low fresh =
    let after = IsMarked-push marked found q old low fresh in
    omega (arith, after.count, count_by-le-length (λ b. b) (set marked q true), length_push found q, length-set marked q true)
