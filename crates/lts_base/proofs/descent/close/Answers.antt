use Rattle.std.proofs.Common.{◌≡◌, ◌+◌, ◌-◌, ◌<◌, ◌≤◌, length, take, drop, inl, inr, refl, arith}
use Rattle.lts_base.specs.Descent.{AreMarked}
use Rattle.lts_base.proofs.DescentEnds.{IsDescent-closed}
use Rattle.lts_base.proofs.descent.close.Goals.{then-len-start-gt1, else-len-start-gt1}
use Rattle.lts_base.proofs.descent.close.Goals as goal

pub returns-clause-descent : goal.returns-clause-descent
returns-clause-descent c =
    let w0 = c.args.descent.now in
    elim c.if-len-start-gt1.branch [
      | then-len-start-gt1 w ↦
          let is_path : c.truncate.new.self.items ≡ take c.args.start w0.path.items = rw w.descent-is at c.truncate.ensures.items in
          let is_blocks : c.pop.new.self.items ≡ take (w0.blocks.len - 1) w0.blocks.items = rw w.descent-is at c.pop.ensures.rest in
          let marked : AreMarked (take (length w0.path.items - c.args.start) (drop c.args.start w0.path.items)) w0.flags.items w.mark.new.flags.items = rw w.deref.ensures.value at w.mark.ensures in
          let many : c.args.start + 1 < length w0.path.items = omega (arith, w.if-len-start-gt1.true, c.len.ensures, w0.path.ok.0) in
          rw w.descent-is (IsDescent-closed _ _ _ _ _ _ _ _ _ _ _ c.requires.block is_path is_blocks (omega (arith, w0.blocks.ok.0)) (inl (marked, many)) c.requires.descent)
      | else-len-start-gt1 w ↦
          let is_path : c.truncate.new.self.items ≡ take c.args.start w0.path.items = rw w.descent-is at c.truncate.ensures.items in
          let is_blocks : c.pop.new.self.items ≡ take (w0.blocks.len - 1) w0.blocks.items = rw w.descent-is at c.pop.ensures.rest in
          let few : length w0.path.items ≤ c.args.start + 1 = omega (arith, w.if-len-start-gt1.false, c.len.ensures, w0.path.ok.0) in
          rw w.descent-is (IsDescent-closed _ _ _ _ _ _ _ _ _ _ _ c.requires.block is_path is_blocks (omega (arith, w0.blocks.ok.0)) (inr (refl, few)) c.requires.descent)
    ]
