use Rattle.edge_io.proofs.DialerLaws.{fails_or, grew_by, idles_or, rose_by}
use Rattle.edge_io.proofs.memory_dialer.MemDialerDialer.hang_up.Goals as goal

pub returns-then-len-self-clause-faults : goal.returns-then-len-self-clause-faults
returns-then-len-self-clause-faults g c = rw (← c.self.view_is) (fails_or (rose_by (λ link. (g.K.Link.told link).faults) c.self.inside.faults _ _ c.args.link c.push_reserved.ensures.items))

pub returns-then-len-self-clause-idles : goal.returns-then-len-self-clause-idles
returns-then-len-self-clause-idles g c = rw (← c.self.view_is) (idles_or (rose_by (λ link. (g.K.Link.told link).idles) c.self.inside.idles _ _ c.args.link c.push_reserved.ensures.items))

pub returns-then-len-self-clause-later : goal.returns-then-len-self-clause-later
returns-then-len-self-clause-later g c = rw (← c.self.view_is) (record {
  faults = grew_by (λ link. (g.K.Link.told link).faults) c.self.inside.faults _ _ c.args.link c.push_reserved.ensures.items;
  idles = grew_by (λ link. (g.K.Link.told link).idles) c.self.inside.idles _ _ c.args.link c.push_reserved.ensures.items;
})
