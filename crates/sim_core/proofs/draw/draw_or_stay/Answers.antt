use Rattle.std.proofs.Common.{◌%◌, ◌+◌, length, ap}
use Rattle.sim_core.specs.Drawn.{open_of}
use Rattle.sim_core.proofs.DrawLaws.{choice_drawn}
use Rattle.sim_core.proofs.draw.draw_or_stay.Goals as goal

pub returns : goal.returns
returns g c =
    choice_drawn g.R.NextWord.step (open_of c.args.among c.args.moves.now) c.args.rng.now c.nth_open.result c.next_word-word.new.self (c.from.result % (c.count_open-count.result + 1))
    (rw (c.from.ensures, c.count_open-count.ensures.count) (ap (λ p. p.0 % (length (open_of c.args.among c.args.moves.now) + 1)) c.next_word-word.ensures))
    (ap (λ p. p.1) c.next_word-word.ensures) c.nth_open.ensures.some c.nth_open.ensures.none
